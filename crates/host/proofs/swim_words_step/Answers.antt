-- `host::swim_words_step` meets its contract.
use lib.ListN.{length}
use Rattle.cwords.specs.Reading.{rows}
use Rattle.host.specs.Promised.{stepped_at}
use Rattle.host.proofs.Ending.{stepped-at, not_stepped, stepped}
use Rattle.host.proofs.swim_words_step.Goals as goal

pub returns-then-code-ne0 : goal.returns-then-code-ne0
returns-then-code-ne0 c =
    let a = c.args in
    let w = rows a.head.now a.order.now a.members.now a.alive.now a.deceased.now a.timers.now a.gone.now in
    not_stepped (stepped_at w a.wait.now a.tick a.draws.now (length a.gossip.now) (length a.events.now)) _ (stepped-at w a.wait.now a.tick a.draws.now (length a.gossip.now) (length a.events.now) _ _ _ c.step-done.ensures.0 c.node_of-node.ensures c.wait_of-held.ensures) w a.wait.now a.gossip.now a.events.now a.letters.now _ c.code_of-code.ensures c.if-code-ne0.true

pub returns : goal.returns
returns c =
    let a = c.args in
    let w = rows a.head.now a.order.now a.members.now a.alive.now a.deceased.now a.timers.now a.gone.now in
    stepped (stepped_at w a.wait.now a.tick a.draws.now (length a.gossip.now) (length a.events.now)) c.step-done.result (stepped-at w a.wait.now a.tick a.draws.now (length a.gossip.now) (length a.events.now) _ _ _ c.step-done.ensures.0 c.node_of-node.ensures c.wait_of-held.ensures) w a.wait.now a.gossip.now a.events.now a.letters.now _ c.code_of-code.ensures _ _ _ _ _ _ c.if-code-ne0.false c.put_node.ensures c.wait_words.ensures
    c.put_256.ensures c.put_1.ensures c.letter_rows.ensures c.used_of.ensures
