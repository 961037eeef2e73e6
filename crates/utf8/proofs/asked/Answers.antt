-- `utf8::asked` meets its contract: each way out by the tests that led there.
-- Assumes nothing.
use mathlib.Core.Path.{◌∙◌}
use borrow.Author.Rules.{rules}
use borrow.Author.Tests.{lt-ltb, le-ltb, eq-eqb, ne_eqb}
use Rattle.utf8.specs.Utf8.{leads}
use Rattle.utf8.proofs.asked.Goals as goal

pub returns-then-b-lt128 : goal.returns-then-b-lt128
unfolding leads
returns-then-b-lt128 c = c.lead_of.ensures ∙ simp (lt-ltb _ _ c.if-b-lt128.true)

pub returns-then-b-lt194 : goal.returns-then-b-lt194
unfolding leads
returns-then-b-lt194 c = c.lead_of-then-b-lt194.ensures ∙ simp (le-ltb _ _ c.if-b-lt128.false, lt-ltb _ _ c.if-b-lt194.true)

pub returns-then-b-lt224 : goal.returns-then-b-lt224
unfolding leads
returns-then-b-lt224 c = c.lead_of-then-b-lt224.ensures ∙ simp (le-ltb _ _ c.if-b-lt128.false, le-ltb _ _ c.if-b-lt194.false, lt-ltb _ _ c.if-b-lt224.true)

pub returns-then-b-eq224 : goal.returns-then-b-eq224
unfolding leads
returns-then-b-eq224 c = c.lead_of-then-b-eq224.ensures ∙ simp (le-ltb _ _ c.if-b-lt128.false, le-ltb _ _ c.if-b-lt194.false, le-ltb _ _ c.if-b-lt224.false, eq-eqb _ _ c.if-b-eq224.true)

pub returns-then-b-eq237 : goal.returns-then-b-eq237
unfolding leads
returns-then-b-eq237 c = c.lead_of-then-b-eq237.ensures ∙ simp (le-ltb _ _ c.if-b-lt128.false, le-ltb _ _ c.if-b-lt194.false, le-ltb _ _ c.if-b-lt224.false, ne_eqb _ _ c.if-b-eq224.false, eq-eqb _ _ c.if-b-eq237.true)

pub returns-then-b-lt240 : goal.returns-then-b-lt240
unfolding leads
returns-then-b-lt240 c = c.lead_of-then-b-lt240.ensures ∙ simp (le-ltb _ _ c.if-b-lt128.false, le-ltb _ _ c.if-b-lt194.false, le-ltb _ _ c.if-b-lt224.false, ne_eqb _ _ c.if-b-eq224.false, ne_eqb _ _ c.if-b-eq237.false, lt-ltb _ _ c.if-b-lt240.true)

pub returns-then-b-eq240 : goal.returns-then-b-eq240
unfolding leads
returns-then-b-eq240 c = c.lead_of-then-b-eq240.ensures ∙ simp (le-ltb _ _ c.if-b-lt128.false, le-ltb _ _ c.if-b-lt194.false, le-ltb _ _ c.if-b-lt224.false, ne_eqb _ _ c.if-b-eq224.false, ne_eqb _ _ c.if-b-eq237.false, le-ltb _ _ c.if-b-lt240.false, eq-eqb _ _ c.if-b-eq240.true)

pub returns-then-b-lt244 : goal.returns-then-b-lt244
unfolding leads
returns-then-b-lt244 c = c.lead_of-then-b-lt244.ensures ∙ simp (le-ltb _ _ c.if-b-lt128.false, le-ltb _ _ c.if-b-lt194.false, le-ltb _ _ c.if-b-lt224.false, ne_eqb _ _ c.if-b-eq224.false, ne_eqb _ _ c.if-b-eq237.false, le-ltb _ _ c.if-b-lt240.false, ne_eqb _ _ c.if-b-eq240.false, lt-ltb _ _ c.if-b-lt244.true)

pub returns-then-b-eq244 : goal.returns-then-b-eq244
unfolding leads
returns-then-b-eq244 c = c.lead_of-then-b-eq244.ensures ∙ simp (le-ltb _ _ c.if-b-lt128.false, le-ltb _ _ c.if-b-lt194.false, le-ltb _ _ c.if-b-lt224.false, ne_eqb _ _ c.if-b-eq224.false, ne_eqb _ _ c.if-b-eq237.false, le-ltb _ _ c.if-b-lt240.false, ne_eqb _ _ c.if-b-eq240.false, le-ltb _ _ c.if-b-lt244.false, eq-eqb _ _ c.if-b-eq244.true)

pub returns : goal.returns
unfolding leads
returns c = c.lead_of-2.ensures ∙ simp (le-ltb _ _ c.if-b-lt128.false, le-ltb _ _ c.if-b-lt194.false, le-ltb _ _ c.if-b-lt224.false, ne_eqb _ _ c.if-b-eq224.false, ne_eqb _ _ c.if-b-eq237.false, le-ltb _ _ c.if-b-lt240.false, ne_eqb _ _ c.if-b-eq240.false, le-ltb _ _ c.if-b-lt244.false, ne_eqb _ _ c.if-b-eq244.false)
