-- `disseminate::collect::clear` meets its contract: nothing is taken, or the heap is rebuilt.
-- Assumes nothing.
use mathlib.Core.Path.{◌≡◌, ap, sym, ◌∙◌}
use mathlib.Core.Bool.{Bool, not}
use mathlib.Core.List.{[]}
use borrow.Author.Tests.{eq-eqb, ne_eqb}
use Rattle.address.specs.Here.{here}
use Rattle.model.specs.Rows.{pick, those}
use Rattle.model.specs.Words.{unused, sends_of}
use Rattle.model.specs.Heap.{push_all}
use Rattle.model.specs.Collect.{is_old, rebuilt}
use Rattle.types.specs.declared.Parts.{Parts}
use Rattle.types.specs.Views.{to_gossip, to_parts}
use Rattle.heap.specs.Views.{heap_view, pack_heap}
use borrow.Author.Rules.{rules}
use Rattle.disseminate.proofs.collect.clear.Goals as goal

pub returns-then-old-eq0 : goal.returns-then-old-eq0
returns-then-old-eq0 c =
    let a = c.args in
    sym (ap (λ (u : Bool). pick u a.alive (pack_heap (rebuilt here a.kind (to_gossip a.g) (heap_view a.alive)))) (eq-eqb a.old 0 c.if-old-eq0.true))

pub returns : goal.returns
unfolding rebuilt
returns c =
    let a = c.args in
    c.rebuild.ensures
    ∙ ap (λ (x : Parts). pack_heap (push_all unused sends_of [] (those (λ y. not (is_old here a.kind (to_parts x) y)) (heap_view a.alive)))) c.parts_of.ensures
    ∙ sym (ap (λ (u : Bool). pick u a.alive (pack_heap (rebuilt here a.kind (to_gossip a.g) (heap_view a.alive)))) (ne_eqb a.old 0 c.if-old-eq0.false))
