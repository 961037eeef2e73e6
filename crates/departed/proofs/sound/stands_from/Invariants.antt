-- `departed::sound::stands_from` meets its contract: what is left of the row gives the same answer.
-- Assumes nothing.
use mathlib.Core.Path.{◌≡◌, refl, ap, sym, ◌∙◌}
use mathlib.Core.List.{List}
use Prim.Native.Nat.{◌-◌, ◌≤◌}
use native.Mathlib.Omega.{arith}
use lib.ListN.{length, drop}
use Rattle.address.specs.Here.{Addr, here}
use Rattle.model.specs.Rows.{has}
use Rattle.departed.proofs.Seeking.{addresses, none_left, stands_here, stands-later}
use borrow.Author.Rules.{rules}
use Rattle.departed.proofs.sound.stands_from.Given as goal

abbrev pub invariant-loop-i : goal.invariant-loop-i
invariant-loop-i l = (w : l.n ≤ length l.entries) × (l.i ≤ l.n) × (has here.same l.a (drop l.from (addresses l.entries l.n w)) ≡ has here.same l.a (drop l.i (addresses l.entries l.n w)))

abbrev pub decreases-loop-i : goal.decreases-loop-i
decreases-loop-i l = l.n - l.i
