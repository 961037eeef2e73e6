-- `cwords::nodes::put_node` meets its contract: row by row.
-- Assumes nothing.
use Rattle.cwords.specs.Back.{puts}
use Rattle.cwords.proofs.nodes.put_node.Goals as goal

pub returns : goal.returns
returns c =
    puts c.args.n _ c.head_words.ensures c.order_rows.ensures c.member_rows.ensures c.entry_rows.ensures
    c.entry_rows-2.ensures c.timer_rows.ensures c.departed_rows.ensures
