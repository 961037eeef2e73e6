-- `cwords::read::event_of` meets its contract: a kind at a time.
-- Assumes nothing.
-- the test of a kind that is none of the four
use mathlib.Core.Path.{◌≡◌, ap, sym, ◌∙◌}
use mathlib.Core.Bool.{◌&&◌}
use Rattle.address.specs.Here.{here}
use Rattle.cwords.specs.Reading.{event_of, zeroed}
use Rattle.cwords.proofs.Decoding.{past-four}
use Rattle.cwords.proofs.read.event_of.Lts as lts
use Rattle.cwords.proofs.read.event_of.Tie as tie
use Rattle.cwords.proofs.read.event_of.Reads as reads
use Rattle.cwords.proofs.read.event_of.Goals as goal

tested : (c : lts.After-both tie.the-claims reads.Pre reads.Post) → let a = c.args in
    (zeroed a.kind a.from a.number && here.same a.subject here.blank) ≡ c.both.result
tested c =
    let a = c.args in
    (λ i. sym c.zeroed.ensures i && (sym (ap (here.same a.subject) c.blank.ensures) ∙ sym c.same-free.ensures) i)
    ∙ sym c.both.ensures

pub returns-then-kind-eq1 : goal.returns-then-kind-eq1
unfolding event_of
returns-then-kind-eq1 c = rw (c.if-kind-eq1.true, c.new_node_joined.ensures)

pub returns-then-kind-eq2 : goal.returns-then-kind-eq2
unfolding event_of
returns-then-kind-eq2 c = rw (c.if-kind-eq2.true, c.new_node_recovered.ensures)

pub returns-then-kind-eq3 : goal.returns-then-kind-eq3
unfolding event_of
returns-then-kind-eq3 c = rw (c.if-kind-eq3.true, c.new_node_suspected.ensures)

pub returns-then-kind-eq4 : goal.returns-then-kind-eq4
unfolding event_of
returns-then-kind-eq4 c = rw (c.if-kind-eq4.true, c.new_node_deceased.ensures)

pub returns-then-both : goal.returns-then-both
unfolding event_of
returns-then-both c =
    rw (tested c.before ∙ c.if-both.true) (past-four _ _ _ _ _ _ c.if-kind-eq1.false c.if-kind-eq2.false c.if-kind-eq3.false c.if-kind-eq4.false)

pub returns : goal.returns
unfolding event_of
returns c =
    rw (tested c.before.before.before ∙ c.if-both.false, c.new_node_joined-2.ensures, c.nowhere.ensures) (past-four _ _ _ _ _ _ c.if-kind-eq1.false c.if-kind-eq2.false c.if-kind-eq3.false c.if-kind-eq4.false)
