-- `saving::refused` meets its contract: no node, and a fresh wait record.
-- Assumes nothing.
use mathlib.Core.Path.{ap, ◌∙◌}
use Rattle.model.specs.declared.Reply.TheVariants.{Refused}
use Rattle.node.specs.declared.Node.{Node}
use Rattle.node.specs.Views.{plain_answer}
use Rattle.saving.proofs.refused.Goals as goal

pub returns : goal.returns
returns c =
    let q = c.refused.ensures ∙ ap (λ (n : Node). plain_answer (Refused c.args.refusal) n) c.none.ensures in
    λ i. record { answer = q i; wait = c.new.ensures i }
