-- `heap::lower` meets its contract: each way out is a case of the rule.
-- Assumes nothing.
use borrow.Author.Rules.{rules}
use Rattle.heap.proofs.Decided.{lower-left, lower_right, lower_lone}
use Rattle.heap.proofs.lower.Goals as goal

pub returns-then-l-r : goal.returns-then-l-r
returns-then-l-r c = (lower-left _ _ _ (search rules) c.if-l-r.true, search rules, search rules)

pub returns-else-l-r : goal.returns-else-l-r
returns-else-l-r c = (lower_right _ _ _ (search rules) c.if-l-r.false, search rules, search rules)

pub returns-else-right-len : goal.returns-else-right-len
returns-else-right-len c = (lower_lone _ _ _ c.if-right-len.false, search rules, search rules)
