-- `message::gossip::refused` meets its contract: no event is reported.
-- Assumes nothing.
use borrow.Author.Rules.{rules}
use Rattle.model.specs.declared.Drew.TheVariants.{Refused}
use Rattle.message.proofs.gossip.refused.Goals as goal

pub returns : goal.returns
returns c =
    let a = c.args in
    λ i. record { node = a.node; events = c.no_events.ensures i; reported = 0; collected = 0; drew = Refused a.refusal; at = c.cause_at.ensures i }
