-- `salvage::sift` meets its contract: the first i places are sifted.
-- Assumes nothing.
use native.Mathlib.Omega.{arith}
use borrow.Author.Rules.{rules}
use Rattle.salvage.proofs.Sifting.{going_none, going_more, going_done}
use Rattle.salvage.proofs.sift.Goals as goal

pub loop-i-init : goal.loop-i-init
loop-i-init c = going_none _ _ _ _ _ _ c.none-words.ensures

pub look-seen-requires : goal.look-seen-requires
look-seen-requires c = let g = c.loop-i.invariant in (omega (arith, g.few), omega (arith, c.place_at.ensures.1))

pub bounds-table-len : goal.bounds-table-len
bounds-table-len c = let g = c.loop-i.invariant in omega (arith, g.few)

pub bounds-kept-len : goal.bounds-kept-len
bounds-kept-len c = let g = c.loop-i.invariant in omega (arith, g.few)

pub loop-i-preserved : goal.loop-i-preserved
loop-i-preserved c =
    going_more _ _ _ _ _ _ _ _ c.loop-i.invariant _ c.look-seen.result _ _ c.requires (search rules) c.place_at.ensures.0 c.look-seen.ensures c.member_of.ensures c.more-len.ensures.value

pub returns : goal.returns
returns c = going_done _ _ _ _ _ _ _ _ c.loop-i.invariant (search rules)
