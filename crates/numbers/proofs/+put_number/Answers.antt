-- `numbers::put_number` meets its contract.
-- Assumes nothing.
use Rattle.std.proofs.Common.{rules, arith}
use Rattle.numbers.proofs.Writing.{none-laid, first-room, last_fits, more-laid}
use Rattle.numbers.proofs.+put_number.Goals as goal

pub returns-then-width-eq0 : goal.returns-then-width-eq0
returns-then-width-eq0 t c = none-laid _ _ c.if-width-eq0.true

pub put_number-end-requires : goal.put_number-end-requires
put_number-end-requires t c = (omega arith, first-room _ _ (omega arith) c.requires)

pub bounds-out-end : goal.bounds-out-end
bounds-out-end t c = last_fits _ _ (omega arith) c.requires c.put_number-end.ensures

pub overflow_add-result : goal.overflow_add-result
overflow_add-result t c = omega (arith, last_fits _ _ (omega arith) c.requires c.put_number-end.ensures)

pub returns : goal.returns
returns t c = more-laid _ _ (omega arith) _ c.put_number-end.ensures c.low.ensures
