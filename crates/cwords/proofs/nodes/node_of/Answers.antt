-- `cwords::nodes::node_of` meets its contract.
-- Assumes nothing.
use Rattle.cwords.specs.Reading.{node_of, settings_of}
use Rattle.cwords.proofs.nodes.node_of.Goals as goal

pub returns : goal.returns
unfolding node_of settings_of
returns c =
    rw (c.gone_of-gone.ensures, c.running_of-clocks.ensures, c.news_of-news.ensures, c.list_of-list.ensures, c.address_of-own.ensures, c.settings_of-settings.ensures)
