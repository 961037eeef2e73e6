-- `departed::sound::all_empty` meets its contract: each place from n to i has passed.
-- Assumes nothing.
use mathlib.Core.Path.{◌≡◌}
use Prim.Native.Nat.{◌-◌}
use native.Mathlib.Omega.{arith}
use lib.ListN.{length, drop}
use Rattle.model.specs.Rows.{every}
use Rattle.laws.specs.Loops.{Tested, test_from, test_fails, test_next, test_ends}
use Rattle.departed.specs.Views.{no_departed, is_empty_place}
use borrow.Author.Rules.{rules}
use Rattle.departed.proofs.sound.all_empty.Given as goal

abbrev pub invariant-loop-i : goal.invariant-loop-i
invariant-loop-i l = Tested is_empty_place l.entries 128 (every is_empty_place (drop l.n l.entries)) l.i

abbrev pub decreases-loop-i : goal.decreases-loop-i
decreases-loop-i l = 128 - l.i
