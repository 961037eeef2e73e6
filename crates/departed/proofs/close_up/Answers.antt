-- `departed::close_up` meets its contract: after i turns the row is the first i of the model's list, and unused places.
-- Assumes nothing.
use mathlib.Core.Path.{◌≡◌, ap}
use mathlib.Core.Logic.{⊎_elim}
use Prim.Native.Nat.{◌-◌}
use native.Mathlib.Omega.{arith}
use lib.ListN.{length, replicate}
use Rattle.laws.specs.Loops.{Closing, close_starts, close_before, close_after, close_ends}
use Rattle.departed.specs.declared.Departed.{Departed}
use Rattle.departed.specs.Views.{no_departed}
use borrow.Author.Rules.{rules}
use Rattle.departed.proofs.close_up.Goals as goal
use Rattle.departed.proofs.close_up.Goals.{then-i-place, else-i-place}

pub loop-i-init : goal.loop-i-init
loop-i-init c =
    let long : length c.args.entries ≡ 128 = search rules in
    close_starts long (omega arith) (omega arith) (ap (λ (z : Departed). replicate 128 z) c.empty-d.ensures)

pub loop-i-preserved : goal.loop-i-preserved
loop-i-preserved c =
    let l = c.loop-i in
    elim c.if-i-place.branch [
      | then-i-place w ↦ close_before l.invariant _ (omega arith) w.if-i-place.true w.out-is
      | else-i-place w ↦ close_after l.invariant _ (omega arith) w.if-i-place.false w.out-is
    ]

pub returns : goal.returns
returns c = close_ends c.loop-i.invariant (omega arith)
