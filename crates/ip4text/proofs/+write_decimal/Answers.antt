-- `ip4text::write_decimal` meets its contract: the digits before the last, and the last.
-- Assumes nothing.
use Rattle.std.proofs.Common.{rules, arith}
use Rattle.ip4text.proofs.Laying.{one_fits, first-room, last_fits, one-laid, more-laid}
use Rattle.ip4text.proofs.+write_decimal.Goals as goal

pub bounds-out-at : goal.bounds-out-at
bounds-out-at t c = one_fits c.requires.1 c.if-n-lt10.true

pub returns-then-n-lt10 : goal.returns-then-n-lt10
returns-then-n-lt10 t c = one-laid _ _ _ _ c.low.ensures c.if-n-lt10.true

pub write_decimal-end-requires : goal.write_decimal-end-requires
write_decimal-end-requires t c = (omega arith, (omega arith, first-room c.requires.1 c.if-n-lt10.false c.requires.0))

pub bounds-out-end : goal.bounds-out-end
bounds-out-end t c = last_fits c.requires.1 c.write_decimal-end.ensures c.if-n-lt10.false c.requires.0

pub overflow_add-result-2 : goal.overflow_add-result-2
overflow_add-result-2 t c = omega (arith, last_fits c.requires.1 c.write_decimal-end.ensures c.if-n-lt10.false c.requires.0)

pub returns : goal.returns
returns t c = more-laid _ _ _ _ c.write_decimal-end.ensures c.low-2.ensures c.if-n-lt10.false c.requires.0
