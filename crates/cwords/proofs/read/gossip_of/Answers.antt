-- `cwords::read::gossip_of` meets its contract.
-- Assumes nothing.
use Rattle.cwords.specs.Reading.{gossip_of}
use Rattle.cwords.proofs.read.gossip_of.Goals as goal

pub returns : goal.returns
unfolding gossip_of
returns c = rw (c.event_of.ensures, c.address_of-subject.ensures, c.address_of-from.ensures)
