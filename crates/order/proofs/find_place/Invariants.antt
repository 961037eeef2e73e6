-- `order::find_place` meets its contract: none of the first i places holds the address.
-- Assumes nothing.
use Prim.Native.Nat.{◌-◌}
use native.Mathlib.Omega.{arith}
use Rattle.address.specs.Here.{here}
use Rattle.laws.specs.Loops.{Sought, seek-first, seek_found, seek-next, seek-ends}
use borrow.Author.Rules.{rules}
use Rattle.order.proofs.find_place.Given as goal

abbrev pub invariant-loop-i : goal.invariant-loop-i
invariant-loop-i l = Sought (here.same l.a) l.row l.n l.i

abbrev pub decreases-loop-i : goal.decreases-loop-i
decreases-loop-i l = l.n - l.i
