-- `rules::weighed` meets its contract: a test at a time.
-- Assumes nothing.
use Rattle.rules.proofs.weighed.Goals as goal

pub returns-then-passes : goal.returns-then-passes
returns-then-passes c = rw (c.if-listed.true, c.if-passes.true)

pub returns-else-passes : goal.returns-else-passes
returns-else-passes c = rw (c.if-listed.true, c.if-passes.false)

pub returns-else-listed : goal.returns-else-listed
returns-else-listed c = rw c.if-listed.false
