-- `timers::close_up` meets its contract: after i turns the row is the first i of the model's list, and unused places.
-- Assumes nothing.
use Rattle.std.proofs.Common.{◌≡◌, ◌-◌, length, replicate, ap, ⊎_elim, arith, rules}
use Rattle.laws.specs.Loops.{Closing, close_starts, close_before, close_after, close_ends}
use Rattle.timers.specs.declared.Timer.{Timer}
use Rattle.timers.specs.Views.{no_timer}
use Rattle.timers.proofs.close_up.Given as goal

abbrev pub invariant-loop-i : goal.invariant-loop-i
invariant-loop-i l = Closing 16 no_timer l.entries l.n l.place l.i l.out

abbrev pub decreases-loop-i : goal.decreases-loop-i
decreases-loop-i l = l.n - l.i
