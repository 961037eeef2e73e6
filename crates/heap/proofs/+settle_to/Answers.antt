-- `heap::settle_to` meets its contract: each way out is a case of the rule.
-- Assumes nothing.
use Rattle.std.proofs.Common.{rules, arith, sym, ◌∙◌}
use Rattle.heap.proofs.Settling.{settle_end, settle_over, settle_apart, settle_held}
use Rattle.heap.proofs.+settle_to.Goals as goal

pub returns-then-len-place : goal.returns-then-len-place
returns-then-len-place t c = (sym (settle_end _ _ _ _ c.if-len-place.true), search rules)

pub settle_to-end-requires : goal.settle_to-end-requires
settle_to-end-requires t c = (omega arith, (omega arith, omega arith))

pub returns-then-end-child : goal.returns-then-end-child
returns-then-end-child t c =
    (settle_apart _ _ _ _ _ _ c.lower-child.ensures.0 (search rules) c.settle_to-end.ensures.0 c.if-end-child.true, search rules)

pub returns-then-mine-below : goal.returns-then-mine-below
returns-then-mine-below t c =
    (settle_over _ _ _ _ _ _ c.lower-child.ensures.0 (search rules) c.settle_to-end.ensures.0 c.if-end-child.false c.if-mine-below.true, search rules)

pub returns-else-mine-below : goal.returns-else-mine-below
returns-else-mine-below t c =
    (settle_held _ _ _ _ _ _ c.lower-child.ensures.0 (search rules) c.settle_to-end.ensures.0 c.if-mine-below.false, search rules)
