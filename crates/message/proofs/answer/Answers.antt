-- `message::answer` meets its contract: gossip is chosen.
-- Assumes nothing.
use mathlib.Core.Path.{ap, ◌∙◌}
use borrow.Author.Rules.{rules}
use Rattle.node.specs.declared.parts.Spread.{Spread}
use Rattle.message.specs.Answers.{one_letter}
use Rattle.message.proofs.answer.Goals as goal

pub returns : goal.returns
returns c =
    let a = c.args in
    let e = c.spread-spread.ensures.value in
    let answer = c.one_letter.ensures ∙ ap (λ (x : Spread). one_letter a.used x.node (record { target = a.target; action = a.action; count = x.count }) a.heard.collected) e in
    λ i. record { answer = answer i; gossip = (e i).rows; written = (e i).count; events = a.heard.events; reported = a.heard.reported }
