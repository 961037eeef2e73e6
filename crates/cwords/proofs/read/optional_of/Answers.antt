-- `cwords::read::optional_of` meets its contract.
-- Assumes nothing.
use borrow.Author.Tests.{eq-eqb, ne_eqb}
use Rattle.cwords.specs.Reading.{optional_of}
use Rattle.cwords.proofs.read.optional_of.Goals as goal

pub returns-then-first-eq-ABSENT : goal.returns-then-first-eq-ABSENT
unfolding optional_of
returns-then-first-eq-ABSENT c = rw (eq-eqb _ _ c.if-first-eq-ABSENT.true)

pub returns : goal.returns
unfolding optional_of
returns c = rw (ne_eqb _ _ c.if-first-eq-ABSENT.false, c.address_of.ensures)
