-- `actions::appended` meets its contract: a gossip that is spoiled, or not.
-- Assumes nothing.
use borrow.Author.Rules.{rules}
use Rattle.actions.specs.Stepping.{turn_missing, turn-whole}
use Rattle.actions.proofs.appended.Goals as goal

pub returns-in-Missing : goal.returns-in-Missing
returns-in-Missing c = (turn_missing c.args.s _ _ c.capped-slot.ensures.0 c.in-Missing.is, search rules)

pub returns-in-Whole : goal.returns-in-Whole
returns-in-Whole c = (turn-whole c.args.s _ _ c.capped-slot.ensures.0 _ c.in-Whole.is, search rules)
