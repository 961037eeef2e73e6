-- The first `i` records of the array have been laid over the row.
use Rattle.std.proofs.Common.{◌-◌, ◌≡◌, ◌≤◌}
use Rattle.lent.proofs.Rows.{laid}
use Rattle.lent.proofs.write_65.Given as goal

abbrev pub invariant-loop-i : goal.invariant-loop-i
invariant-loop-i l = (l.i ≤ l.k) × (l.out ≡ laid l.i l.a l.fn.out)

abbrev pub decreases-loop-i : goal.decreases-loop-i
decreases-loop-i l = l.k - l.i
