-- `host::swim_words_create` meets its contract.
use Rattle.cwords.specs.Reading.{rows}
use Rattle.host.specs.Promised.{created_at}
use Rattle.host.proofs.Ending.{created-at, not-created, created}
use Rattle.host.proofs.swim_words_create.Goals as goal

pub returns-then-code-ne0 : goal.returns-then-code-ne0
returns-then-code-ne0 c =
    let a = c.args in
    let w = rows a.head.now a.order.now a.members.now a.alive.now a.deceased.now a.timers.now a.gone.now in
    not-created (created_at a.settings.now a.own.now a.number) _ (created-at a.settings.now a.own.now a.number _ _ _ c.create-answer.ensures c.settings_of-set.ensures c.address_in.ensures) w _ c.code_of-code.ensures c.if-code-ne0.true

pub returns : goal.returns
returns c =
    let a = c.args in
    let w = rows a.head.now a.order.now a.members.now a.alive.now a.deceased.now a.timers.now a.gone.now in
    created (created_at a.settings.now a.own.now a.number) _ (created-at a.settings.now a.own.now a.number _ _ _ c.create-answer.ensures c.settings_of-set.ensures c.address_in.ensures) w _ c.code_of-code.ensures _ c.if-code-ne0.false c.put_node.ensures
