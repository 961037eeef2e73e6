-- `why::held_number` meets its contract: what the list's one scan found.
-- Assumes nothing.
use mathlib.Core.Path.{ap, sym, ◌∙◌}
use Rattle.model.specs.Rows.{pick}
use Rattle.disseminate.specs.declared.Found.TheVariants.{Missing, At}
use Rattle.member.specs.declared.Standing.{Standing}
use Rattle.why.proofs.held_number.Goals as goal

pub returns-then-held : goal.returns-then-held
returns-then-held c =
    let f = c.find-held in
    sym (ap (λ b. pick b (At f.result.number) Missing) c.if-held.true) ∙ ap (λ (s : Standing). pick s.listed (At s.number) Missing) f.ensures.value

pub returns : goal.returns
returns c =
    let f = c.find-held in
    sym (ap (λ b. pick b (At f.result.number) Missing) c.if-held.false) ∙ ap (λ (s : Standing). pick s.listed (At s.number) Missing) f.ensures.value
