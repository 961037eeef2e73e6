-- `cwords::nodes::entries_of` meets its contract: a place a turn.
-- Assumes nothing.
use borrow.Author.Rules.{rules}
use Rattle.cwords.proofs.Filling.{filled_none, filled_next, filled_whole}
use Rattle.cwords.proofs.nodes.entries_of.Goals as goal

pub loop-i-init : goal.loop-i-init
loop-i-init c = filled_none

pub loop-i-preserved : goal.loop-i-preserved
loop-i-preserved c = filled_next c.loop-i.invariant _ (search rules) (search rules) (search rules) c.entry_of.ensures

pub returns : goal.returns
returns c = filled_whole c.loop-i.invariant (search rules) (search rules) (search rules)
