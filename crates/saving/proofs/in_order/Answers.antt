-- `saving::in_order` meets its contract: the first i of the order stand in the row.
-- Assumes nothing.
use native.Mathlib.Omega.{arith}
use borrow.Author.Rules.{rules}
use Rattle.saving.proofs.Ordering.{going_none, going_more, going_done, count_is}
use Rattle.saving.proofs.in_order.Goals as goal

pub loop-i-init : goal.loop-i-init
loop-i-init c = going_none c.args.members c.requires _ c.none-out.ensures

pub loop-i-preserved : goal.loop-i-preserved
loop-i-preserved c =
    going_more c.args.members c.requires _ _ _ _ c.loop-i.invariant (omega (arith, count_is c.args.members c.requires _ c.len-n.ensures.value)) (search rules) c.find-held.ensures.value

pub returns : goal.returns
returns c =
    going_done c.args.members c.requires _ _ c.loop-i.invariant (omega (arith, count_is c.args.members c.requires _ c.len-n.ensures.value))
