-- `heap::climb` meets its contract: each turn is a swap of the climb, up to the place that was decided.
-- Assumes nothing.
use Prim.Native.Nat.{◌<◌}
use lib.ListN.{get_or}
use borrow.Author.Rules.{rules}
use Rattle.model.specs.Rows.{swap}
use Rattle.model.specs.Heap.{rank, climb as climbed}
use Rattle.heap.specs.Views.{sends, no_entry}
use Rattle.heap.proofs.Decided.{Rising-to, rise_starts, rise, risen_to}
use Rattle.heap.proofs.climb.Goals as goal

pub loop-p-init : goal.loop-p-init
loop-p-init c = (search rules, rise_starts no_entry sends _ _ _ _ (search rules) c.sends_of-ks.ensures c.climb_to-to.ensures.0)

pub loop-p-preserved : goal.loop-p-preserved
unfolding swap
loop-p-preserved c = (search rules, rise no_entry sends _ _ _ _ _ _ c.loop-p-test.true c.loop-p.invariant.1)

pub returns : goal.returns
returns c = risen_to no_entry sends _ _ _ _ _ _ c.loop-p-test.false c.loop-p.invariant.1
