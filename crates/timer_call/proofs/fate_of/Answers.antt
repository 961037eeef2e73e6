-- `timer_call::fate_of` meets its contract: not listed, Alive, at a greater number, or none of these.
-- Assumes nothing.
use mathlib.Core.Path.{sym, ◌∙◌}
use borrow.Author.Rules.{rules}
use borrow.Author.Tests.{not-true, not-false}
use Rattle.timers.specs.Views.{to_timer}
use Rattle.timer_call.proofs.TimerEnds.{found_absent, found_alive, found_greater, found_leaves}
use Rattle.timer_call.proofs.fate_of.Goals as goal

pub returns-then-not-held : goal.returns-then-not-held
returns-then-not-held c =
    let a = c.args in
    found_absent (to_timer a.timer) a.members c.find-held.result c.find-held.ensures.value (not-true _ c.if-not-held.true)

pub returns-then-is_alive : goal.returns-then-is_alive
returns-then-is_alive c =
    let a = c.args in
    found_alive (to_timer a.timer) a.members c.find-held.result c.find-held.ensures.value (not-false _ c.if-not-held.false) (sym c.is_alive.ensures ∙ c.if-is_alive.true)

pub returns-then-timer-held : goal.returns-then-timer-held
returns-then-timer-held c =
    let a = c.args in
    found_greater (to_timer a.timer) a.members c.find-held.result c.find-held.ensures.value (not-false _ c.if-not-held.false) (sym c.is_alive.ensures ∙ c.if-is_alive.false) c.if-timer-held.true

pub returns : goal.returns
returns c =
    let a = c.args in
    found_leaves (to_timer a.timer) a.members c.find-held.result c.find-held.ensures.value (not-false _ c.if-not-held.false) (sym c.is_alive.ensures ∙ c.if-is_alive.false) c.if-timer-held.false
