-- `departed::sound::all_in_range` meets its contract: each of the first i has passed.
-- Assumes nothing.
use mathlib.Core.Path.{◌≡◌}
use Prim.Native.Nat.{◌-◌}
use native.Mathlib.Omega.{arith}
use lib.ListN.{length, take}
use Rattle.model.specs.Rows.{every}
use Rattle.laws.specs.Loops.{Tested, test_first, test_fails, test_next, test_ends}
use Rattle.departed.specs.Views.{no_departed, has_range}
use borrow.Author.Rules.{rules}
use Rattle.departed.proofs.sound.all_in_range.Given as goal

abbrev pub invariant-loop-i : goal.invariant-loop-i
invariant-loop-i l = Tested has_range l.entries l.n (every has_range (take l.n l.entries)) l.i

abbrev pub decreases-loop-i : goal.decreases-loop-i
decreases-loop-i l = l.n - l.i
