-- `member::sound::order_ends` meets its contract: each place from n to i has passed.
-- Assumes nothing.
use mathlib.Core.Path.{◌≡◌, ap, ◌∙◌}
use Prim.Native.Nat.{◌-◌}
use native.Mathlib.Omega.{arith}
use lib.ListN.{length, get_or, drop}
use Rattle.address.specs.Here.{here}
use Rattle.model.specs.Rows.{every}
use Rattle.laws.specs.Loops.{Tested, test_from, test_fails, test_next, test_ends}
use Rattle.member.specs.Views.{blank_address}
use borrow.Author.Rules.{rules}
use Rattle.member.proofs.sound.order_ends.Given as goal

abbrev pub invariant-loop-i : goal.invariant-loop-i
invariant-loop-i l = (l.blank ≡ here.blank) × Tested blank_address l.order 64 (every blank_address (drop l.n l.order)) l.i

abbrev pub decreases-loop-i : goal.decreases-loop-i
decreases-loop-i l = 64 - l.i
