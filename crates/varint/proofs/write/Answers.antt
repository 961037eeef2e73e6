-- `varint::write` meets its contract: what is written and what is left come to the whole.
-- Assumes nothing.
use native.Mathlib.Omega.{arith}
use borrow.Author.Rules.{rules}
use Rattle.varint.proofs.Writing.{Going, going_none, some_left, going_more, going_last}
use Rattle.varint.proofs.write.Goals as goal

pub loop-rest-init : goal.loop-rest-init
loop-rest-init c = going_none _ _ _

pub overflow_add-rest : goal.overflow_add-rest
overflow_add-rest c = search rules

pub low-requires : goal.low-requires
low-requires c = search rules

pub bounds-out-i : goal.bounds-out-i
bounds-out-i c = some_left _ _ _ _ _ _ c.loop-rest.invariant (search rules)

pub overflow_add-i : goal.overflow_add-i
overflow_add-i c = omega (arith, some_left _ _ _ _ _ _ c.loop-rest.invariant (search rules))

pub loop-rest-smaller : goal.loop-rest-smaller
loop-rest-smaller c = search rules

pub loop-rest-preserved : goal.loop-rest-preserved
loop-rest-preserved c = going_more _ _ _ _ _ _ c.loop-rest.invariant _ (search rules) (search rules)

pub low-requires-2 : goal.low-requires-2
low-requires-2 c = search rules

pub bounds-out-i-2 : goal.bounds-out-i-2
bounds-out-i-2 c = some_left _ _ _ _ _ _ c.loop-rest.invariant (search rules)

pub overflow_add-result : goal.overflow_add-result
overflow_add-result c = omega (arith, some_left _ _ _ _ _ _ c.loop-rest.invariant (search rules))

pub shape_of-out : goal.shape_of-out
shape_of-out c = search rules

pub returns : goal.returns
returns c = going_last _ _ _ _ _ _ c.loop-rest.invariant _ (search rules) (search rules)
