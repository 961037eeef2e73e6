-- `disseminate::collect::old_news` meets its contract: off it is none, on the count.
-- Assumes nothing.
use mathlib.Core.Path.{◌≡◌, ap, sym, ◌∙◌}
use mathlib.Core.Bool.{Bool}
use Prim.Native.Nat.{ℕ}
use native.Mathlib.Omega.{arith}
use borrow.Author.Tests.{not-true, not-false}
use Rattle.address.specs.Here.{Addr, here}
use Rattle.model.specs.Rows.{count}
use Rattle.model.specs.Words as W
use Rattle.model.specs.Collect.{is_old, collects}
use Rattle.types.specs.declared.Parts.{Parts}
use Rattle.types.specs.Views.{to_gossip, to_parts}
use Rattle.heap.specs.Views.{heap_view, view_length}
use Rattle.laws_choose.specs.Collecting.{cleared-length}
use borrow.Author.Rules.{rules}
use mathlib.Core.Bool.{not}
use Rattle.disseminate.proofs.collect.old_news.Goals as goal

pub returns-then-not-on : goal.returns-then-not-on
unfolding collects
returns-then-not-on c =
    let a = c.args in
    record { value = sym (ap (λ (on : Bool). collects here on a.kind (to_gossip a.g) (heap_view a.alive)) (not-true a.on (ap not c.if-not-on.true))); within = omega arith }

pub returns : goal.returns
unfolding collects
returns c =
    let a = c.args in
    let on = not-false a.on (ap not c.if-not-on.false) in
    let q : c.count_old.result ≡ collects here a.on a.kind (to_gossip a.g) (heap_view a.alive) =
    c.count_old.ensures
    ∙ ap (λ (x : Parts). count (is_old here a.kind (to_parts x)) (heap_view a.alive)) c.parts_of.ensures
    ∙ sym (ap (λ (u : Bool). collects here u a.kind (to_gossip a.g) (heap_view a.alive)) on) in
    record { value = q; within = omega (arith, q, cleared-length here a.kind (to_gossip a.g) (heap_view a.alive) a.on, view_length a.alive c.requires) }
