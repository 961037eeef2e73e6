-- `ip4text::mark` meets its contract.
-- Assumes nothing.
use borrow.Author.Rules.{rules}
use borrow.Author.Tests.{eq-eqb, ne_eqb}
use Rattle.ip4text.specs.Reading.{mark}
use Rattle.ip4text.proofs.mark.Goals as goal

pub returns-then-left-eq1 : goal.returns-then-left-eq1
unfolding mark
returns-then-left-eq1 c = (simp (eq-eqb _ _ c.if-left-eq1.true), search rules)

pub returns : goal.returns
unfolding mark
returns c = (simp (ne_eqb _ _ c.if-left-eq1.false), search rules)
