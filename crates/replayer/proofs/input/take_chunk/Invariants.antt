-- Each turn takes one line or the part of one.
use Rattle.std.proofs.Common.{length, ◌-◌}
use Rattle.replayer.proofs.input.take_chunk.Given as goal

abbrev pub decreases-loop-at : goal.decreases-loop-at
decreases-loop-at g l = length l.chunk - l.at
