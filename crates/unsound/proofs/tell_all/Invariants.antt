-- Each turn takes one line.
use Rattle.std.proofs.Common.{length, ◌-◌}
use Rattle.unsound.proofs.tell_all.Given as goal

abbrev pub decreases-loop-at : goal.decreases-loop-at
decreases-loop-at g l = length l.lines - l.at
