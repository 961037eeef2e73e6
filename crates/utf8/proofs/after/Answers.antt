-- `utf8::after` meets its contract: each way out by the tests that led there.
-- Assumes nothing.
use mathlib.Core.Path.{◌∙◌}
use borrow.Author.Rules.{rules}
use borrow.Author.Tests.{eq-eqb, ne_eqb, le-leb, lt-leb}
use Rattle.utf8.specs.Utf8.{after}
use Rattle.utf8.proofs.after.Goals as goal

pub returns-then-l-eq0 : goal.returns-then-l-eq0
unfolding after
returns-then-l-eq0 c = c.asked.ensures ∙ simp (eq-eqb _ _ c.if-l-eq0.true)

pub returns-then-b-l : goal.returns-then-b-l
unfolding after
returns-then-b-l c = simp (ne_eqb _ _ c.if-l-eq0.false, lt-leb _ _ c.if-b-l.true)

pub returns-then-l-b : goal.returns-then-l-b
unfolding after
returns-then-l-b c = simp (ne_eqb _ _ c.if-l-eq0.false, le-leb _ _ c.if-b-l.false, lt-leb _ _ c.if-l-b.true)

pub returns : goal.returns
unfolding after
returns c = simp (ne_eqb _ _ c.if-l-eq0.false, le-leb _ _ c.if-b-l.false, le-leb _ _ c.if-l-b.false)
