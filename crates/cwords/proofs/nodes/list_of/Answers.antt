-- `cwords::nodes::list_of` meets its contract.
-- Assumes nothing.
use Rattle.cwords.specs.Reading.{members_of}
use Rattle.cwords.proofs.nodes.list_of.Goals as goal

pub returns : goal.returns
unfolding members_of
returns c = rw (c.order_of-row.ensures, c.table_of-table.ensures)
