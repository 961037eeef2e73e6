-- `departed::close_up` meets its contract: after i turns the row is the first i of the model's list, and unused places.
-- Assumes nothing.
use mathlib.Core.Path.{◌≡◌, ap}
use mathlib.Core.Logic.{⊎_elim}
use Prim.Native.Nat.{◌-◌}
use native.Mathlib.Omega.{arith}
use lib.ListN.{length, replicate}
use Rattle.laws.specs.Loops.{Closing, close_starts, close_before, close_after, close_ends}
use Rattle.departed.specs.declared.Departed.{Departed}
use Rattle.departed.specs.Views.{no_departed}
use borrow.Author.Rules.{rules}
use Rattle.departed.proofs.close_up.Given as goal

abbrev pub invariant-loop-i : goal.invariant-loop-i
invariant-loop-i l = Closing 128 no_departed l.entries l.n l.place l.i l.out

abbrev pub decreases-loop-i : goal.decreases-loop-i
decreases-loop-i l = l.n - l.i
