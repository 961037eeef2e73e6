-- `message::forward_ack` meets its contract: the Ack goes on.
-- Assumes nothing.
use mathlib.Core.Path.{ap, ◌∙◌}
use borrow.Author.Rules.{rules}
use Rattle.types.specs.declared.Action.{Action}
use Rattle.message.specs.Answers.{one_letter}
use Rattle.message.proofs.forward_ack.Goals as goal

pub returns : goal.returns
returns c =
    let a = c.args in
    let answer = c.one_letter.ensures ∙ ap (λ (x : Action). one_letter a.used a.heard.node (record { target = a.to; action = x; count = a.given }) a.heard.collected) c.new_ack.ensures in
    λ i. record { answer = answer i; gossip = c.first_of.ensures i; written = a.given; events = a.heard.events; reported = a.heard.reported }
