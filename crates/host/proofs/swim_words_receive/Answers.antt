-- `host::swim_words_receive` meets its contract.
use lib.ListN.{length}
use Rattle.cwords.specs.Reading.{rows}
use Rattle.host.specs.Promised.{received_at}
use Rattle.host.proofs.Ending.{received-at, not_received, received}
use Rattle.host.proofs.swim_words_receive.Goals as goal

pub returns-then-code-ne0 : goal.returns-then-code-ne0
returns-then-code-ne0 c =
    let a = c.args in
    let w = rows a.head.now a.order.now a.members.now a.alive.now a.deceased.now a.timers.now a.gone.now in
    not_received (received_at w a.action.now a.records.now a.draws.now (length a.gossip.now) (length a.events.now)) _ (received-at w a.action.now a.records.now a.draws.now (length a.gossip.now) (length a.events.now) _ _ _ _ c.receive-done.ensures.0 c.node_of-node.ensures c.action_of.ensures c.records_of.ensures) w a.gossip.now a.events.now a.letters.now _ c.code_of-code.ensures c.if-code-ne0.true

pub returns : goal.returns
returns c =
    let a = c.args in
    let w = rows a.head.now a.order.now a.members.now a.alive.now a.deceased.now a.timers.now a.gone.now in
    received (received_at w a.action.now a.records.now a.draws.now (length a.gossip.now) (length a.events.now)) c.receive-done.result (received-at w a.action.now a.records.now a.draws.now (length a.gossip.now) (length a.events.now) _ _ _ _ c.receive-done.ensures.0 c.node_of-node.ensures c.action_of.ensures c.records_of.ensures) w a.gossip.now a.events.now a.letters.now _ c.code_of-code.ensures _ _ _ _ _ c.if-code-ne0.false c.put_node.ensures c.put_64.ensures
    c.put_65.ensures c.letter_rows.ensures c.used_of.ensures
