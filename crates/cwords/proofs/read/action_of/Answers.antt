-- `cwords::read::action_of` meets its contract: a kind at a time.
-- Assumes nothing.
use borrow.Author.Tests.{ne_eqb}
use Rattle.cwords.specs.Reading.{action_of, action_as}
use Rattle.cwords.proofs.read.action_of.Goals as goal

pub returns-then-kind-eq1 : goal.returns-then-kind-eq1
unfolding action_of action_as
returns-then-kind-eq1 c = rw (c.if-kind-eq1.true, c.optional_of.ensures, c.address_of-from.ensures)

pub returns-then-kind-eq3 : goal.returns-then-kind-eq3
unfolding action_of action_as
returns-then-kind-eq3 c = rw (c.if-kind-eq3.true, c.optional_of-then-kind-eq3.ensures, c.address_of-from.ensures)

pub returns-then-kind-eq2 : goal.returns-then-kind-eq2
unfolding action_of action_as
returns-then-kind-eq2 c = rw (c.if-kind-eq2.true, c.address_of-suspect.ensures, c.address_of-from.ensures)

pub returns : goal.returns
unfolding action_of action_as
returns c =
    rw (ne_eqb _ _ c.if-kind-eq1.false, ne_eqb _ _ c.if-kind-eq3.false, ne_eqb _ _ c.if-kind-eq2.false, c.nowhere.ensures, c.address_of-suspect.ensures)
