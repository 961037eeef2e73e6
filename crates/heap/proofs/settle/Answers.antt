-- `heap::settle` meets its contract: each turn is a swap of the descent, down to the place to which the entry would climb back.
-- Assumes nothing.
use mathlib.Core.Path.{refl, sym, ◌∙◌}
use Prim.Native.Nat.{◌<◌, ◌-◌}
use lib.ListN.{get_or}
use borrow.Author.Rules.{rules}
use Rattle.model.specs.Rows.{swap}
use Rattle.model.specs.Heap.{bottom as settled}
use Rattle.heap.specs.Views.{sends, no_entry}
use Rattle.heap.specs.Deciding.{nth}
use Rattle.heap.proofs.Settling.{Settling-to, settle_starts, settles_room, settles, settled_to}
use Rattle.heap.proofs.settle.Goals as goal

pub loop-p-init : goal.loop-p-init
loop-p-init c = (search rules, settle_starts no_entry sends _ _ _ _ _ _ (search rules) (search rules) c.sends_of-ks.ensures refl c.settle_to-to.ensures.0 refl)

pub lower-c-requires : goal.lower-c-requires
lower-c-requires c = (search rules, settles_room no_entry sends _ _ _ _ _ _ _ c.loop-p-test.true c.loop-p.invariant.1)

pub loop-p-preserved : goal.loop-p-preserved
unfolding swap
loop-p-preserved c = (search rules, settles no_entry sends _ _ _ _ _ _ _ _ c.lower-c.ensures.0 c.loop-p-test.true c.loop-p.invariant.1)

pub returns : goal.returns
returns c = settled_to no_entry sends _ _ _ _ _ _ _ c.loop-p-test.false c.loop-p.invariant.1
