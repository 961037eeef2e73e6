-- `order::find_place` meets its contract: none of the first i places holds the address.
-- Assumes nothing.
use Prim.Native.Nat.{◌-◌}
use native.Mathlib.Omega.{arith}
use Rattle.address.specs.Here.{here}
use Rattle.laws.specs.Loops.{Sought, seek-first, seek_found, seek-next, seek-ends}
use borrow.Author.Rules.{rules}
use Rattle.order.proofs.find_place.Goals as goal

pub loop-i-init : goal.loop-i-init
loop-i-init c = seek-first (here.same c.args.a) c.args.row c.args.n (omega arith)

pub returns-then-same : goal.returns-then-same
returns-then-same c =
    let l = c.loop-i in
    record { value = seek_found here.blank l.invariant _ (omega arith) c.same.ensures c.if-same.true; within = omega arith }

pub loop-i-preserved : goal.loop-i-preserved
loop-i-preserved c =
    let l = c.loop-i in
    seek-next here.blank l.invariant _ (omega arith) c.same.ensures c.if-same.false

pub returns : goal.returns
returns c = record { value = seek-ends here.blank c.loop-i.invariant (omega arith); within = omega arith }
