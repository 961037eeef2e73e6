-- `heap::Heap::pop` meets its contract: what settling gives is the packed heap, with an empty entry at the place that is no longer used.
-- Assumes nothing.
use mathlib.Core.Path.{refl, ◌∙◌, ap}
use Prim.Native.Nat.{ℕ, ◌-◌}
use lib.ListN.{get_or, set}
use Rattle.model.specs.Heap.{bottom as settled}
use Rattle.heap.specs.declared.Entry.{Entry}
use Rattle.heap.specs.declared.Heap.{Heap}
use Rattle.heap.specs.Views.{no_entry, sends}
use borrow.Author.Rules.{rules}
use Rattle.heap.proofs.Padding.{packed-remove_top}
use Rattle.heap.proofs.Heap.pop.Goals as goal

pub returns : goal.returns
returns c =
    let h : Heap = c.args.self in
    let n : ℕ = h.len - 1 in
    packed-remove_top h c.requires.0 n c.settle-down.result c.requires.1 refl
    (c.settle-down.ensures
    ∙ ap (λ (e : Entry). settled no_entry sends (set (set h.entries 0 (get_or h.entries n no_entry)) n e) n 0) c.empty.ensures)
