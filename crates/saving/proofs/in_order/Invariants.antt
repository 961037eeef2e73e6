-- `saving::in_order` meets its contract: the first i of the order stand in the row.
-- Assumes nothing.
use Prim.Native.Nat.{◌-◌}
use Rattle.saving.proofs.Ordering.{Going}
use Rattle.saving.proofs.in_order.Given as goal

abbrev pub invariant-loop-i : goal.invariant-loop-i
invariant-loop-i l = Going l.members l.out l.i

abbrev pub decreases-loop-i : goal.decreases-loop-i
decreases-loop-i l = l.n - l.i
