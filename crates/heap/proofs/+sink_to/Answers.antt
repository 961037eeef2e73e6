-- `heap::sink_to` meets its contract: each way out is a case of the rule.
-- Assumes nothing.
use Rattle.std.proofs.Common.{rules, arith, sym, ◌∙◌}
use borrow.Author.Tests.{lt-ltb, le-ltb}
use Rattle.heap.proofs.Decided.{down_to_end, down_to-step, down_to_stop}
use Rattle.heap.proofs.+sink_to.Goals as goal

pub returns-then-len-place : goal.returns-then-len-place
returns-then-len-place t c = (sym (down_to_end _ _ _ _ c.if-len-place.true), search rules)

pub sink_to-requires : goal.sink_to-requires
sink_to-requires t c = (omega arith, (omega arith, omega arith))

pub returns-then-below-mine : goal.returns-then-below-mine
returns-then-below-mine t c =
    (c.sink_to.ensures.0 ∙ sym (down_to-step _ _ _ _ _ c.lower-child.ensures.0 (search rules) (lt-ltb _ _ c.if-below-mine.true)), search rules)

pub returns-else-below-mine : goal.returns-else-below-mine
returns-else-below-mine t c =
    (sym (down_to_stop _ _ _ _ _ c.lower-child.ensures.0 (le-ltb _ _ c.if-below-mine.false)), search rules)
