-- `cwords::read::entry_of` meets its contract.
-- Assumes nothing.
use Rattle.cwords.specs.Reading.{entry_of}
use Rattle.cwords.proofs.read.entry_of.Goals as goal

pub returns : goal.returns
unfolding entry_of
returns c = rw (c.event_of.ensures, c.address_of-subject.ensures, c.address_of-from.ensures)
