-- `ranges::valid_action` meets its contract: a case at a time.
-- Assumes nothing.
use mathlib.Core.Path.{sym, ◌∙◌}
use borrow.Author.Rules.{rules}
use borrow.Author.Tests.{not-true, not-false}
use Rattle.model.specs.Calls.{valid_action}
use Rattle.ranges.proofs.valid_action.Goals as goal

pub returns-then-not-in_range : goal.returns-then-not-in_range
unfolding valid_action
returns-then-not-in_range c =
    rw (c.in-Ping.is, sym c.in_range.ensures ∙ c.if-not-in_range.true)

pub returns-then-not-in_range-2 : goal.returns-then-not-in_range-2
unfolding valid_action
returns-then-not-in_range-2 c =
    rw (c.in-PingReq.is, sym c.in_range-in-PingReq.ensures ∙ c.if-not-in_range-2.true)

pub returns-then-not-in_range-3 : goal.returns-then-not-in_range-3
unfolding valid_action
returns-then-not-in_range-3 c =
    rw (c.in-Ack.is, sym c.in_range-in-Ack.ensures ∙ c.if-not-in_range-3.true)

pub returns-else-not-in_range : goal.returns-else-not-in_range
unfolding valid_action
returns-else-not-in_range c =
    rw (c.in-Ping.is, sym c.in_range.ensures ∙ c.if-not-in_range.false) c.valid_optional.ensures

pub returns-else-not-in_range-2 : goal.returns-else-not-in_range-2
unfolding valid_action
returns-else-not-in_range-2 c =
    rw (c.in-PingReq.is, sym c.in_range-in-PingReq.ensures ∙ c.if-not-in_range-2.false) c.in_range-in-PingReq-2.ensures

pub returns-else-not-in_range-3 : goal.returns-else-not-in_range-3
unfolding valid_action
returns-else-not-in_range-3 c =
    rw (c.in-Ack.is, sym c.in_range-in-Ack.ensures ∙ c.if-not-in_range-3.false) c.valid_optional-in-Ack.ensures
