-- `why::at_number` meets its contract: raised only where the number that is kept is greater.
-- Assumes nothing.
use borrow.Author.Tests.{lt-ltb, le-ltb}
use Rattle.why.proofs.at_number.Goals as goal

pub returns-then-own_number-kept : goal.returns-then-own_number-kept
returns-then-own_number-kept c = rw (lt-ltb _ _ c.if-own_number-kept.true)

pub returns : goal.returns
returns c = rw (le-ltb _ _ c.if-own_number-kept.false)
