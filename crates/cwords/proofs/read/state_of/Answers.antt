-- `cwords::read::state_of` meets its contract: a kind at a time.
-- Assumes nothing.
use mathlib.Core.Path.{sym, ◌∙◌}
use Rattle.cwords.specs.Reading.{state_of}
use Rattle.cwords.proofs.Decoding.{past-four}
use Rattle.cwords.proofs.read.state_of.Goals as goal

pub returns-then-kind-eq1 : goal.returns-then-kind-eq1
unfolding state_of
returns-then-kind-eq1 c = rw c.if-kind-eq1.true

pub returns-then-kind-eq2 : goal.returns-then-kind-eq2
unfolding state_of
returns-then-kind-eq2 c = rw c.if-kind-eq2.true

pub returns-then-kind-eq3 : goal.returns-then-kind-eq3
unfolding state_of
returns-then-kind-eq3 c = rw c.if-kind-eq3.true

pub returns-then-kind-eq4 : goal.returns-then-kind-eq4
unfolding state_of
returns-then-kind-eq4 c = rw c.if-kind-eq4.true

pub returns-then-zeroed : goal.returns-then-zeroed
unfolding state_of
returns-then-zeroed c =
    rw (sym c.zeroed.ensures ∙ c.if-zeroed.true) (past-four _ _ _ _ _ _ c.if-kind-eq1.false c.if-kind-eq2.false c.if-kind-eq3.false c.if-kind-eq4.false)

pub returns : goal.returns
unfolding state_of
returns c =
    rw (sym c.zeroed.ensures ∙ c.if-zeroed.false, c.nowhere.ensures) (past-four _ _ _ _ _ _ c.if-kind-eq1.false c.if-kind-eq2.false c.if-kind-eq3.false c.if-kind-eq4.false)
