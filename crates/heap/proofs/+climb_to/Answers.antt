-- `heap::climb_to` meets its contract: each way out is a case of the rule.
-- Assumes nothing.
use Rattle.std.proofs.Common.{rules, arith, sym, ◌∙◌}
use Rattle.heap.proofs.Decided.{to_top, to_step, to_stop}
use Rattle.heap.proofs.+climb_to.Goals as goal

pub returns-then-place-eq0 : goal.returns-then-place-eq0
returns-then-place-eq0 t c = (sym (to_top _ _ _ c.if-place-eq0.true), search rules)

pub climb_to-requires : goal.climb_to-requires
climb_to-requires t c = (omega arith, omega arith)

pub returns-then-mine-above : goal.returns-then-mine-above
returns-then-mine-above t c =
    (c.climb_to.ensures.0 ∙ sym (to_step _ _ _ (search rules) c.if-mine-above.true), omega (arith, c.climb_to.ensures.1))

pub returns-else-mine-above : goal.returns-else-mine-above
returns-else-mine-above t c = (sym (to_stop _ _ _ c.if-mine-above.false), search rules)
