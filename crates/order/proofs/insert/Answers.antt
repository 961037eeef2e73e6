-- `order::insert` meets its contract: the places behind i stand as in the rules' row, and those before it as they came.
-- Assumes nothing.
use mathlib.Core.Path.{◌≡◌, ap, ◌∙◌}
use mathlib.Core.Logic.{⊎_elim}
use Prim.Native.Nat.{ℕ, suc, ◌-◌, ◌<◌}
use native.Mathlib.Omega.{arith}
use lib.ListN.{set}
use Rattle.address.specs.Here.{Addr, here}
use borrow.Author.Rules.{rules}
use Rattle.order.proofs.Shifting.{Shifting, shift_starts, shift_blank, shift_up, shift_ends}
use Rattle.order.proofs.insert.Goals as goal
use Rattle.order.proofs.insert.Goals.{then-n-i, else-n-i}

pub loop-i-init : goal.loop-i-init
loop-i-init c =
    let a = c.args in
    (omega arith, shift_starts 64 here.blank a.row a.n a.place a.x 63 (omega arith) (search rules) (omega arith) (omega arith))

pub loop-i-preserved : goal.loop-i-preserved
loop-i-preserved c =
    let s = c.loop-i.invariant.1 in
    let i : ℕ = c.loop-i.i in
    let e : suc (i - 1) ≡ i = omega arith in (
      omega arith,
      elim c.if-n-i.branch [
        | then-n-i w ↦
            shift_blank s (i - 1) c.if-n-i.row e (omega arith) w.if-n-i.true
            (w.row-is ∙ ap (λ (v : Addr). set c.loop-i.row i v) w.blank.ensures)
        | else-n-i w ↦ shift_up s (i - 1) c.if-n-i.row e (omega arith) (omega (arith, w.if-n-i.false)) w.row-is
      ],
    )

pub returns : goal.returns
returns c = shift_ends c.loop-i.invariant.1 (omega arith)
