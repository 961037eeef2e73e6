-- `heap::settle` meets its contract: each turn is a swap of the descent, down to the place to which the entry would climb back.
-- Assumes nothing.
use mathlib.Core.Path.{refl, sym, ◌∙◌}
use Prim.Native.Nat.{◌<◌, ◌-◌}
use lib.ListN.{get_or}
use borrow.Author.Rules.{rules}
use Rattle.model.specs.Rows.{swap}
use Rattle.model.specs.Heap.{bottom as settled}
use Rattle.heap.specs.Views.{sends, no_entry}
use Rattle.heap.specs.Deciding.{nth}
use Rattle.heap.proofs.Settling.{Settling-to, settle_starts, settles_room, settles, settled_to}
use Rattle.heap.proofs.settle.Given as goal

abbrev pub invariant-loop-p : goal.invariant-loop-p
invariant-loop-p l =
    (l.p < 128)
    × Settling-to no_entry sends (nth l.ks) (get_or l.initial.es 0 no_entry) l.len l.to (settled no_entry sends l.initial.es l.len 0) l.es l.p

abbrev pub decreases-loop-p : goal.decreases-loop-p
decreases-loop-p l = l.to - l.p
