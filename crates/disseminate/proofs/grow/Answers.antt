-- `disseminate::grow` meets its contract: a full heap is handed back, else the heap with the entry.
-- Assumes nothing.
use mathlib.Core.Path.{ap, ◌∙◌}
use Rattle.address.specs.Here.{Addr}
use Rattle.model.specs.Words as W
use Rattle.model.specs.Heap.{push}
use Rattle.types.specs.Views.{to_gossip}
use Rattle.heap.specs.Views.{heap_view, pack_heap}
use Rattle.disseminate.proofs.Pushing.{grow_full, grow_held}
use borrow.Author.Rules.{rules}
use Rattle.disseminate.proofs.grow.Goals as goal

pub returns-then-h-ge-CAPACITY : goal.returns-then-h-ge-CAPACITY
returns-then-h-ge-CAPACITY c =
    grow_full c.args.h c.requires (to_gossip c.args.g) c.if-h-ge-CAPACITY.true

pub returns : goal.returns
returns c =
    grow_held c.args.h c.requires (to_gossip c.args.g) _ c.if-h-ge-CAPACITY.false
    (c.push.ensures ∙ ap (λ (x : W.Entry Addr). pack_heap (push W.unused W.sends_of (heap_view c.args.h) x)) c.entry_of.ensures)
