-- `member::sound::well_placed` meets its contract: each way out by the test that led there.
-- Assumes nothing.
use borrow.Author.Tests.{eq-eqb, ne_eqb}
use Rattle.model.specs.Sound.{positioned}
use Rattle.member.proofs.sound.well_placed.Goals as goal

pub returns-then-n-eq0 : goal.returns-then-n-eq0
unfolding positioned
returns-then-n-eq0 c = simp (eq-eqb _ _ c.if-n-eq0.true)

pub returns : goal.returns
unfolding positioned
returns c = simp (ne_eqb _ _ c.if-n-eq0.false)
