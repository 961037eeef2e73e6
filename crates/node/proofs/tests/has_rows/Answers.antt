-- `node::tests::has_rows` meets its contract: each row is handed to a function that says its length.
-- Assumes nothing.
use borrow.Author.Rules.{rules}
use Rattle.node.specs.Rows.{full-rows}
use Rattle.node.proofs.tests.has_rows.Goals as goal

pub returns : goal.returns
returns c =
    full-rows c.args.node c.has_table.ensures c.has_order.ensures c.has_entries.ensures c.has_entries-2.ensures c.has_timers.ensures c.has_departed.ensures
