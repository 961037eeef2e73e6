-- `cwords::read::member_of` meets its contract: a state at a time.
-- Assumes nothing.
use borrow.Author.Tests.{ne_eqb}
use Rattle.cwords.specs.Reading.{member_of, member_as}
use Rattle.cwords.proofs.read.member_of.Goals as goal

pub returns-then-state-eq0 : goal.returns-then-state-eq0
unfolding member_of member_as
returns-then-state-eq0 c = rw (c.if-state-eq0.true, c.address_of-addr.ensures)

pub returns-then-state-eq1 : goal.returns-then-state-eq1
unfolding member_of member_as
returns-then-state-eq1 c = rw (c.if-state-eq1.true, c.address_of-addr.ensures)

pub returns-then-state-eq2 : goal.returns-then-state-eq2
unfolding member_of member_as
returns-then-state-eq2 c = rw (c.if-state-eq2.true, c.address_of-addr.ensures)

pub returns : goal.returns
unfolding member_of member_as
returns c =
    rw (ne_eqb _ _ c.if-state-eq0.false, ne_eqb _ _ c.if-state-eq1.false, ne_eqb _ _ c.if-state-eq2.false, c.nowhere.ensures)
