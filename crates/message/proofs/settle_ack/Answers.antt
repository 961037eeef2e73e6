-- `message::settle_ack` meets its contract: the sender is Alive.
-- Assumes nothing.
use mathlib.Core.Path.{ap, ◌∙◌}
use borrow.Author.Rules.{rules}
use Rattle.model.specs.declared.Reply.TheVariants.{Done}
use Rattle.node.specs.declared.Node.{Node}
use Rattle.node.specs.Views.{silent_answer}
use Rattle.message.proofs.settle_ack.Goals as goal

pub returns : goal.returns
returns c =
    let a = c.args in
    let answer = c.silent.ensures ∙ ap (λ (n : Node). silent_answer (Done a.used) n a.heard.collected) c.acked.ensures in
    λ i. record { answer = answer i; gossip = c.no_gossip.ensures i; written = 0; events = a.heard.events; reported = a.heard.reported }
