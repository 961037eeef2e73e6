-- `cwords::nodes::departed_rows` meets its contract: a place a turn, each read back.
-- Assumes nothing.
use borrow.Author.Rules.{rules}
use Rattle.cwords.proofs.Filling.{backed_none, backed_next, filled_back}
use Rattle.cwords.proofs.nodes.departed_rows.Goals as goal

pub loop-i-init : goal.loop-i-init
loop-i-init c = backed_none

pub loop-i-preserved : goal.loop-i-preserved
loop-i-preserved c = backed_next c.loop-i.invariant _ (search rules) (search rules) (search rules) c.departed_words.ensures

pub returns : goal.returns
returns c = filled_back c.loop-i.invariant (search rules) (search rules) (search rules)
