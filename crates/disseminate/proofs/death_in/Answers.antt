-- `disseminate::death_in` meets its contract: each way through the match is a case of the rule.
-- Assumes nothing.
use Rattle.disseminate.proofs.Dying.{death-of, death_not, death_other}
use borrow.Author.Rules.{rules}
use Rattle.disseminate.proofs.death_in.Goals as goal

pub returns-then-same : goal.returns-then-same
returns-then-same c = death-of _ _ _ _ _ c.in-Deceased.is _ c.same.ensures c.if-same.true

pub returns-else-same : goal.returns-else-same
returns-else-same c = death_not _ _ _ _ _ c.in-Deceased.is _ c.same.ensures c.if-same.false

pub returns-in_default : goal.returns-in_default
returns-in_default c = death_other c.args.a c.args.g.event c.in_default.not-Deceased
