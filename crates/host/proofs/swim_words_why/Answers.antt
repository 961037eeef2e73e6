-- `host::swim_words_why` meets its contract.
use mathlib.Core.Path.{sym, ◌∙◌}
use Rattle.cwords.specs.Reading.{rows}
use Rattle.host.specs.Promised.{why_at}
use Rattle.host.proofs.Ending.{why-at, explained, not_explained}
use Rattle.host.proofs.swim_words_why.Goals as goal

pub returns-in-Because : goal.returns-in-Because
returns-in-Because c =
    let a = c.args in
    let w = rows a.head.now a.order.now a.members.now a.alive.now a.deceased.now a.timers.now a.gone.now in
    explained (why_at w a.event.now a.draws.now) a.grounds.now _ _ _ _ _ _ _ _ (sym c.in-Because.is ∙ why-at w a.event.now a.draws.now _ _ _ c.why-g.ensures c.node_of-node.ensures c.gossip_of.ensures) c.reason_word.ensures c.found_words-h.ensures c.found_words-n.ensures c.found_words-d.ensures

pub returns-in-Refused : goal.returns-in-Refused
returns-in-Refused c =
    let a = c.args in
    let w = rows a.head.now a.order.now a.members.now a.alive.now a.deceased.now a.timers.now a.gone.now in
    not_explained (why_at w a.event.now a.draws.now) a.grounds.now _ _ (sym c.in-Refused.is ∙ why-at w a.event.now a.draws.now _ _ _ c.why-g.ensures c.node_of-node.ensures c.gossip_of.ensures) c.refusal_code.ensures.0
