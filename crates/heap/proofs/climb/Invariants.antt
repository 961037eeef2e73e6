-- `heap::climb` meets its contract: each turn is a swap of the climb, up to the place that was decided.
-- Assumes nothing.
use Prim.Native.Nat.{◌<◌}
use lib.ListN.{get_or}
use borrow.Author.Rules.{rules}
use Rattle.model.specs.Rows.{swap}
use Rattle.model.specs.Heap.{rank, climb as climbed}
use Rattle.heap.specs.Views.{sends, no_entry}
use Rattle.heap.proofs.Decided.{Rising-to, rise_starts, rise, risen_to}
use Rattle.heap.proofs.climb.Given as goal

abbrev pub invariant-loop-p : goal.invariant-loop-p
invariant-loop-p l =
    (l.p < 128)
    × Rising-to no_entry sends (rank no_entry sends l.initial.es) (get_or l.initial.es l.place no_entry) l.to (climbed no_entry sends l.initial.es l.place) l.es l.p

abbrev pub decreases-loop-p : goal.decreases-loop-p
decreases-loop-p l = l.p
