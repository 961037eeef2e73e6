-- `heap::settle_to` ends: what is left of the length falls at each call.
use Rattle.std.proofs.Common.{◌-◌}
use Rattle.heap.proofs.+settle_to.Given as goal

abbrev pub decreases-settle_to : goal.decreases-settle_to
decreases-settle_to l = l.len - l.place
