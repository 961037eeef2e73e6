-- `why::because` meets its contract: a record of no event has no numbers.
-- Assumes nothing.
-- with no event, with one, and chosen between
use mathlib.Core.Path.{ap, sym, ◌∙◌}
use mathlib.Core.Bool.{Bool}
use borrow.Author.Tests.{eq-eqb, ne_eqb}
use Rattle.address.specs.Here.{here}
use Rattle.model.specs.Rows.{pick}
use Rattle.disseminate.specs.declared.Found.TheVariants.{Missing, At}
use Rattle.member.specs.Views.{view_members}
use Rattle.rules.specs.Views.{to_verdict}
use Rattle.why.specs.declared.Grounds.{Grounds}
use Rattle.why.specs.declared.Grounds.TheVariants.{Because}
use Rattle.why.specs.Why.{reason_of, held_number}
use Rattle.why.proofs.because.Lts as lts
use Rattle.why.proofs.because.Tie as tie
use Rattle.why.proofs.because.Reads as reads
use Rattle.why.proofs.because.Goals as goal

abbrev without : lts.Start tie.the-claims reads.Pre reads.Post → Grounds
without s = Because (reason_of (to_verdict s.args.verdict) s.args.parts.number) Missing Missing Missing

abbrev with-numbers : lts.Start tie.the-claims reads.Pre reads.Post → Grounds
with-numbers s =
    let a = s.args in
    Because (reason_of (to_verdict a.verdict) a.parts.number) (held_number here a.parts.subject (view_members a.members).table) (At a.parts.number) a.dead

abbrev chosen : lts.Start tie.the-claims reads.Pre reads.Post → Bool → Grounds
chosen s u = pick u (without s) (with-numbers s)

pub returns-then-parts-eq0 : goal.returns-then-parts-eq0
returns-then-parts-eq0 c =
    (λ i. Because (c.reason_of-reason.ensures i) Missing Missing Missing) ∙ sym (ap (chosen c.before.before.before) (eq-eqb _ 0 c.if-parts-eq0.true))

pub returns : goal.returns
returns c =
    (λ i. Because (c.reason_of-reason.ensures i) (c.held_number.ensures i) (At c.args.parts.number) c.args.dead) ∙ sym (ap (chosen c.before.before.before.before.before) (ne_eqb _ 0 c.if-parts-eq0.false))
