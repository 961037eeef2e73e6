-- `heap::sink` meets its contract: each turn is a swap of the descent, down to the place that was decided.
-- Assumes nothing.
use mathlib.Core.Bool.{Bool, true}
use mathlib.Core.List.{List}
use mathlib.Core.Path.{refl, sym, ◌∙◌}
use Prim.Native.Nat.{ℕ, ◌<◌, ◌-◌}
use lib.Dec.{ltb}
use lib.ListN.{get_or}
use borrow.Author.Rules.{rules}
use Rattle.heap.specs.declared.Entry.{Entry}
use Rattle.model.specs.Rows.{swap}
use Rattle.model.specs.Heap.{sink as sunk}
use Rattle.heap.specs.Views.{sends, no_entry}
use Rattle.heap.specs.Deciding.{nth}
use Rattle.heap.proofs.Decided.{Falling-to, fall_starts, fall_room, fall, fallen_to}
use Rattle.heap.proofs.sink.Given as goal

abbrev pub fewer : Entry → Entry → Bool
fewer a b = ltb (sends a) (sends b)

abbrev pub stay : List Entry → ℕ → List Entry
stay xs p = xs

abbrev pub invariant-loop-p : goal.invariant-loop-p
invariant-loop-p l =
    (l.p < 128)
    × Falling-to no_entry sends fewer stay (nth l.ks) (λ k. ltb k (sends (get_or l.initial.es 0 no_entry))) (get_or l.initial.es 0 no_entry) l.len l.to (sunk no_entry sends l.initial.es l.len 0) l.es l.p

abbrev pub decreases-loop-p : goal.decreases-loop-p
decreases-loop-p l = l.to - l.p
