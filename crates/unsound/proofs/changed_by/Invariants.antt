-- Each turn takes one change.
use Rattle.std.proofs.Common.{length, ◌-◌}
use Rattle.unsound.proofs.changed_by.Given as goal

abbrev pub decreases-loop-at : goal.decreases-loop-at
decreases-loop-at l = length l.line - l.at
