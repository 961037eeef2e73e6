-- `host::swim_words_add_peer` meets its contract.
use Rattle.cwords.specs.Reading.{rows}
use Rattle.host.specs.Promised.{added_at}
use Rattle.host.proofs.Ending.{added-at, not_added, added}
use Rattle.host.proofs.swim_words_add_peer.Goals as goal

pub returns-then-code-ne0 : goal.returns-then-code-ne0
returns-then-code-ne0 c =
    let a = c.args in
    let w = rows a.head.now a.order.now a.members.now a.alive.now a.deceased.now a.timers.now a.gone.now in
    not_added (added_at w a.peer.now a.number a.draws.now) _ (added-at w a.peer.now a.number a.draws.now _ _ _ c.add_peer-answer.ensures c.node_of-node.ensures c.address_in.ensures) w _ c.code_of-code.ensures c.if-code-ne0.true

pub returns : goal.returns
returns c =
    let a = c.args in
    let w = rows a.head.now a.order.now a.members.now a.alive.now a.deceased.now a.timers.now a.gone.now in
    added (added_at w a.peer.now a.number a.draws.now) _ (added-at w a.peer.now a.number a.draws.now _ _ _ c.add_peer-answer.ensures c.node_of-node.ensures c.address_in.ensures) w _ c.code_of-code.ensures _ _ c.if-code-ne0.false c.put_node.ensures c.used_of.ensures
