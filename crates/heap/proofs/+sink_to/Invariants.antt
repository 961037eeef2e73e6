-- `heap::sink_to` ends: what is left of the length falls at each call.
use Rattle.std.proofs.Common.{◌-◌}
use Rattle.heap.proofs.+sink_to.Given as goal

abbrev pub decreases-sink_to : goal.decreases-sink_to
decreases-sink_to l = l.len - l.place
