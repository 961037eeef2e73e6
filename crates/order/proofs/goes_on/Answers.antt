-- `order::goes_on` meets its contract: each way out by the test that led there.
-- Assumes nothing.
use borrow.Author.Tests.{eq-eqb, ne_eqb}
use Rattle.order.proofs.goes_on.Goals as goal

pub returns-then-left-eq0 : goal.returns-then-left-eq0
returns-then-left-eq0 c = simp (eq-eqb _ _ c.if-left-eq0.true)

pub returns : goal.returns
returns c = simp (ne_eqb _ _ c.if-left-eq0.false)
