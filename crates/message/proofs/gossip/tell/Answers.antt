-- `message::gossip::tell` meets its contract: nothing is said, the news goes elsewhere, or one event comes in.
-- Assumes nothing.
-- by whether an event's kind is the heap's
use mathlib.Core.Path.{◌≡◌, ap, sym, subst, ◌∙◌}
use mathlib.Core.Bool.{Bool, true, false}
use borrow.Author.Rules.{rules}
use Rattle.address.specs.Here.{Addr}
use Rattle.model.specs.Words as W
use Rattle.model.specs.Heap.{push}
use Rattle.types.specs.Views.{to_event}
use Rattle.model.specs.Rows.{pick}
use Rattle.heap.specs.declared.Heap.{Heap}
use Rattle.heap.specs.Views.{heap_view, pack_heap}
use Rattle.disseminate.specs.Views.{same_kind, emitted}
use Rattle.rules.specs.declared.News.{News}
use Rattle.rules.specs.Views.{to_news}
use Rattle.message.specs.Views.{RoomFor, told_to}
use Rattle.message.proofs.gossip.tell.Lts as lts
use Rattle.message.proofs.gossip.tell.Tie as tie
use Rattle.message.proofs.gossip.tell.Reads as reads
use Rattle.message.proofs.gossip.tell.Goals as goal

abbrev by_kind : (c : lts.After-same_kind tie.the-claims reads.Pre reads.Post) → Bool → Heap
by_kind c u = let a = c.args in pick u (emitted a.heap (record { event = to_event c.in-Emits.event })) a.heap

is_told : (c : lts.After-same_kind tie.the-claims reads.Pre reads.Post) (u : Bool) → c.same_kind.result ≡ u → by_kind c u ≡ (let a = c.args in told_to a.kind (to_news a.news) a.heap)
is_told c u e =
    let a = c.args in
    sym (ap (by_kind c) (sym c.same_kind.ensures ∙ e)) ∙ sym (ap (λ (w : News). told_to a.kind (to_news w) a.heap) c.in-Emits.is)

pub push-requires : goal.push-requires
push-requires c =
    (c.requires.0, subst (λ (w : News). RoomFor c.args.kind (to_news w) c.args.heap.len) c.in-Emits.is c.requires.1 (sym c.same_kind.ensures ∙ c.if-same_kind.true))

pub returns-then-same_kind : goal.returns-then-same_kind
returns-then-same_kind c =
    let a = c.args in
    c.push.ensures ∙ ap (λ (x : W.Entry Addr). pack_heap (push W.unused W.sends_of (heap_view a.heap) x)) c.entry_of.ensures ∙ is_told c.before.before.before true c.if-same_kind.true

pub returns-else-same_kind : goal.returns-else-same_kind
returns-else-same_kind c = is_told c.before false c.if-same_kind.false
