-- `ip4text::ended` meets its contract.
-- Assumes nothing.
use borrow.Author.Tests.{eq-eqb, ne_eqb}
use Rattle.ip4text.specs.Reading.{ended}
use Rattle.ip4text.proofs.ended.Goals as goal

pub returns-then-size-eq0 : goal.returns-then-size-eq0
unfolding ended
returns-then-size-eq0 c = simp (eq-eqb _ _ c.if-size-eq0.true)

pub returns : goal.returns
unfolding ended
returns c = simp (ne_eqb _ _ c.if-size-eq0.false)
