-- `order::remove` meets its contract: after i turns the row is the first i of the model's list, and zeros.
-- Assumes nothing.
use mathlib.Core.Path.{◌≡◌, ap}
use mathlib.Core.Logic.{⊎_elim}
use Prim.Native.Nat.{◌-◌}
use native.Mathlib.Omega.{arith}
use lib.ListN.{length, replicate}
use Rattle.laws.specs.Loops.{Closing, close_starts, close_before, close_after, close_ends}
use Rattle.address.specs.Here.{Addr, here}
use borrow.Author.Rules.{rules}
use Rattle.order.proofs.remove.Goals as goal
use Rattle.order.proofs.remove.Goals.{then-i-place, else-i-place}

pub loop-i-init : goal.loop-i-init
loop-i-init c =
    let long : length c.args.row ≡ 64 = search rules in
    close_starts long (omega arith) (omega arith) (ap (λ (z : Addr). replicate 64 z) c.blank-out.ensures)

pub loop-i-preserved : goal.loop-i-preserved
loop-i-preserved c =
    let l = c.loop-i in
    elim c.if-i-place.branch [
      | then-i-place w ↦ close_before l.invariant _ (omega arith) w.if-i-place.true w.out-is
      | else-i-place w ↦ close_after l.invariant _ (omega arith) w.if-i-place.false w.out-is
    ]

pub returns : goal.returns
returns c = close_ends c.loop-i.invariant (omega arith)
