-- `cwords::nodes::news_of` meets its contract.
-- Assumes nothing.
use Rattle.cwords.specs.Reading.{disseminator_of}
use Rattle.cwords.proofs.nodes.news_of.Goals as goal

pub returns : goal.returns
unfolding disseminator_of
returns c = rw (c.entries_of-dead.ensures, c.entries_of-living.ensures)
