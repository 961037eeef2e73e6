-- `host::swim_words_end_timer` meets its contract.
use lib.ListN.{length}
use Rattle.cwords.specs.Reading.{rows}
use Rattle.host.specs.Promised.{ended_in}
use Rattle.host.proofs.Ending.{ended_at, not_ended, ended}
use Rattle.host.proofs.swim_words_end_timer.Goals as goal

pub returns-then-code-ne0 : goal.returns-then-code-ne0
returns-then-code-ne0 c =
    let a = c.args in
    let w = rows a.head.now a.order.now a.members.now a.alive.now a.deceased.now a.timers.now a.gone.now in
    not_ended (ended_in w a.tick (length a.events.now)) _ (ended_at w a.tick (length a.events.now) _ _ c.end_timer-done.ensures.0 c.node_of-node.ensures) w a.events.now _ c.code_of-code.ensures c.if-code-ne0.true

pub returns : goal.returns
returns c =
    let a = c.args in
    let w = rows a.head.now a.order.now a.members.now a.alive.now a.deceased.now a.timers.now a.gone.now in
    ended (ended_in w a.tick (length a.events.now)) c.end_timer-done.result (ended_at w a.tick (length a.events.now) _ _ c.end_timer-done.ensures.0 c.node_of-node.ensures) w a.events.now _ c.code_of-code.ensures _ _ _ c.if-code-ne0.false c.put_node.ensures c.put_1.ensures c.fate_of.ensures
