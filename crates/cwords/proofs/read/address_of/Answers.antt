-- `cwords::read::address_of` meets its contract.
-- Assumes nothing.
use borrow.Author.Tests.{lt-ltb, le-ltb}
use Rattle.cwords.specs.Reading.{address_of}
use Rattle.cwords.proofs.read.address_of.Goals as goal

pub returns-then-first-lt-END_24 : goal.returns-then-first-lt-END_24
unfolding address_of
returns-then-first-lt-END_24 c = rw (lt-ltb _ _ c.if-first-lt-END_24.true, c.port_of.ensures, c.family_of.ensures)

pub returns : goal.returns
unfolding address_of
returns c = rw (le-ltb _ _ c.if-first-lt-END_24.false, c.nowhere.ensures)
