-- `order::insert` meets its contract: the places behind i stand as in the rules' row, and those before it as they came.
-- Assumes nothing.
use mathlib.Core.Path.{◌≡◌, ap, ◌∙◌}
use mathlib.Core.Logic.{⊎_elim}
use Prim.Native.Nat.{ℕ, suc, ◌-◌, ◌<◌}
use native.Mathlib.Omega.{arith}
use lib.ListN.{set}
use Rattle.address.specs.Here.{Addr, here}
use borrow.Author.Rules.{rules}
use Rattle.order.proofs.Shifting.{Shifting, shift_starts, shift_blank, shift_up, shift_ends}
use Rattle.order.proofs.insert.Given as goal

abbrev pub invariant-loop-i : goal.invariant-loop-i
invariant-loop-i l = (l.i < 64) × Shifting 64 here.blank l.initial.row l.n l.place l.x l.i l.row

abbrev pub decreases-loop-i : goal.decreases-loop-i
decreases-loop-i l = l.i
