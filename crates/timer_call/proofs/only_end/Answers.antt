-- `timer_call::only_end` meets its contract: one timer less, and nothing else.
-- Assumes nothing.
use borrow.Author.Rules.{rules}
use Rattle.timer_call.proofs.TimerEnds.{only-ended}
use Rattle.timer_call.proofs.only_end.Goals as goal

pub returns : goal.returns
returns c =
    let a = c.args in
    only-ended a.reply a.node c.with_timers.result c.end-after.result _ _ c.plain.ensures c.with_timers.ensures c.end-after.ensures
