-- `heap::sink` meets its contract: each turn is a swap of the descent, down to the place that was decided.
-- Assumes nothing.
use mathlib.Core.Bool.{Bool, true}
use mathlib.Core.List.{List}
use mathlib.Core.Path.{refl, sym, ◌∙◌}
use Prim.Native.Nat.{ℕ, ◌<◌, ◌-◌}
use lib.Dec.{ltb}
use lib.ListN.{get_or}
use borrow.Author.Rules.{rules}
use Rattle.heap.specs.declared.Entry.{Entry}
use Rattle.model.specs.Rows.{swap}
use Rattle.model.specs.Heap.{sink as sunk}
use Rattle.heap.specs.Views.{sends, no_entry}
use Rattle.heap.specs.Deciding.{nth}
use Rattle.heap.proofs.Decided.{Falling-to, fall_starts, fall_room, fall, fallen_to}
use Rattle.heap.proofs.sink.Invariants.{fewer, stay}
use Rattle.heap.proofs.sink.Goals as goal

pub loop-p-init : goal.loop-p-init
loop-p-init c = (search rules, fall_starts no_entry sends fewer stay _ _ _ _ _ _ (search rules) (search rules) c.sends_of-ks.ensures c.sink_to-to.ensures.0)

pub lower-c-requires : goal.lower-c-requires
lower-c-requires c = (search rules, fall_room no_entry sends fewer stay _ _ _ _ _ _ _ _ c.loop-p-test.true c.loop-p.invariant.1)

pub loop-p-preserved : goal.loop-p-preserved
unfolding swap
loop-p-preserved c = (search rules, fall no_entry sends fewer stay _ _ _ _ _ _ (λ x. refl) _ _ _ c.lower-c.ensures.0 c.loop-p-test.true c.loop-p.invariant.1)

pub returns : goal.returns
returns c = fallen_to no_entry sends fewer stay _ _ _ _ _ _ (λ x. refl) _ _ c.loop-p-test.false c.loop-p.invariant.1
