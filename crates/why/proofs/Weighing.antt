-- The rows' counts are those of the lists that they hold; a verdict by the code's values is the verdict of the rules; and each way out of the call.
-- Assumes nothing.
use mathlib.Core.Path.{◌≡◌, ap, sym, ◌∙◌}
use mathlib.Core.Bool.{Bool, true, false, not}
use mathlib.Core.List.{List, [], ◌∷◌}
use mathlib.Core.Option.{Option}
use Prim.Native.Nat.{ℕ, ◌-◌, ◌≤◌, ◌<◌}
use lib.ListN.{length}
use lib.Dec.{leb}
use borrow.Author.Tests.{le-leb, lt-leb}
use Rattle.model.specs.declared.Kind.{Kind}
use Rattle.model.specs.declared.Refusal.{Refusal}
use Rattle.model.specs.declared.Refusal.TheVariants.{Unsound, AddressRange}
use Rattle.model.specs.Rows.{pick}
use Rattle.model.specs.Answers.{full_of}
use Rattle.address.specs.Here.{Addr, here}
use Rattle.model.specs.Words as W
use Rattle.model.specs.Node as M
use Rattle.model.specs.Sound.{sound, valid_gossip}
use Rattle.model.specs.Handler as handler
use Rattle.types.specs.declared.Event.{Event}
use Rattle.types.specs.declared.Gossip.{Gossip}
use Rattle.types.specs.declared.Parts.{Parts}
use Rattle.types.specs.Views.{to_event, to_gossip, from_parts, to_parts}
use Rattle.heap.specs.Views.{heap_view, view_length}
use Rattle.disseminate.specs.declared.Found.{Found}
use Rattle.disseminate.specs.Views.{from_found, of_kind}
use Rattle.member.specs.Views.{view_members}
use Rattle.member.specs.Packing.{view_many}
use Rattle.node.specs.declared.Node.{Node}
use Rattle.node.specs.Views.{view_node, stored_view}
use Rattle.node.specs.Rows.{Ready, loaded_view}
use Rattle.node.specs.Ends.{test_fails, test_passes}
use Rattle.rules.specs.declared.Verdict.{Verdict}
use Rattle.rules.specs.Views.{collects_for, to_found, to_from_found, to_verdict, from_verdict, to_from_verdict}
use Rattle.why.specs.declared.Grounds.{Grounds}
use Rattle.why.specs.declared.Grounds.TheVariants.{Refused}
use Rattle.why.specs.declared.Stop.TheVariants as stop
use Rattle.why.specs.Why.{verdict_on, weigh, why}
use Rattle.why.specs.Stopped.{list_stop, heap_stop, or_stop, stop_of, unless_stopped, parts_grounds, weighed}

-- a heap that holds so many is full, or has room
pub heap-full : (k : Kind) (alive deceased held : ℕ) → held ≡ of_kind k alive deceased → 128 ≤ held → stop.By (full_of k) ≡ pick (leb 128 (of_kind k alive deceased)) (stop.By (full_of k)) stop.Nothing
heap-full k alive deceased held e h = sym (ap (λ (u : Bool). pick u (stop.By (full_of k)) stop.Nothing) (sym (ap (leb 128) e) ∙ le-leb 128 held h))

pub heap_room : (k : Kind) (alive deceased held : ℕ) → held ≡ of_kind k alive deceased → held < 128 → stop.Nothing ≡ pick (leb 128 (of_kind k alive deceased)) (stop.By (full_of k)) stop.Nothing
heap_room k alive deceased held e h = sym (ap (λ (u : Bool). pick u (stop.By (full_of k)) stop.Nothing) (sym (ap (leb 128) e) ∙ lt-leb 128 held h))

-- what stops a verdict, by the rows' own counts
pub stop_there : (n : Node) → Ready n → (v : handler.Verdict Addr) (draws : ℕ)
    → let w = handler.news_of here v n.own in
    or_stop (list_stop v n.members.len draws) (heap_stop w (n.disseminator.alive.len - collects_for n.settings.collect w (heap_view n.disseminator.alive)) n.disseminator.deceased.len) ≡ stop_of (view_node n) v draws
unfolding view_node
stop_there n r v draws =
    let w = handler.news_of here v n.own in
    let old = collects_for n.settings.collect w (heap_view n.disseminator.alive) in
    λ i. or_stop (list_stop v (sym (view_many n.members r.members.packed) i) draws)
    (heap_stop w (sym (view_length n.disseminator.alive r.heaps.alive) i - old) (sym (view_length n.disseminator.deceased r.heaps.deceased) i))

-- an event, its parts, D and the verdict, as the code has them
module _ (n : Node) (e : Event) (ds : List ℕ) (p : Parts) (d : Found) (v : Verdict) (is-p : p ≡ from_parts (W.parts_of here (to_event e))) (is-d : d ≡ from_found (M.held_death here p.subject (view_node n)))
    (is-v : v ≡ from_verdict (handler.judge here n.own (view_members n.members).table (to_found d) (to_event e))) where
  parts_is : to_parts p ≡ W.parts_of here (to_event e)
  parts_is = ap to_parts is-p

  found_is : d ≡ from_found (M.held_death here (W.parts_of here (to_event e)).subject (view_node n))
  unfolding view_node
  found_is = is-d ∙ ap (λ (q : W.Parts Addr). from_found (M.held_death here q.subject (view_node n))) parts_is

  dead_is : to_found d ≡ M.held_death here (W.parts_of here (to_event e)).subject (view_node n)
  dead_is = ap to_found found_is ∙ to_from_found (M.held_death here (W.parts_of here (to_event e)).subject (view_node n))

  verdict_is : to_verdict v ≡ verdict_on here (to_event e) (view_node n)
  unfolding view_node
  verdict_is =
      ap to_verdict is-v
      ∙ to_from_verdict (handler.judge here n.own (view_members n.members).table (to_found d) (to_event e))
      ∙ ap (λ (o : Option ℕ). handler.judge here n.own (view_members n.members).table o (to_event e)) dead_is

  pub weighing : unless_stopped (stop_of (view_node n) (to_verdict v) (length ds)) (parts_grounds (view_members n.members).table (to_parts p) d (to_verdict v)) ≡ weigh here (to_event e) (view_node n) ds
  unfolding view_node
  weighing =
      (λ i. unless_stopped (stop_of (view_node n) (verdict_is i) (length ds)) (parts_grounds (view_members n.members).table (parts_is i) (found_is i) (verdict_is i)))
      ∙ sym (weighed (to_event e) (view_node n) ds)

-- the call: 2, 5, then the rules
module _ (n : Node) (g : Gossip) (ds : List ℕ) where
  abbrev one : Bool × Refusal
  one = (not (sound here (stored_view n)), Unsound)

  abbrev two : Bool × Refusal
  two = (not (valid_gossip here (to_gossip g)), AddressRange)

  abbrev go : M.Node Addr → Grounds
  go s = weigh here (to_event g.event) s ds

  pub why_unsound : sound here (stored_view n) ≡ false → Refused Unsound ≡ why here (stored_view n) (to_gossip g) ds
  unfolding why
  why_unsound e = sym (test_fails one (two ∷ []) Refused (go (M.loaded (stored_view n))) (ap not e))

  module _ (e : sound here (stored_view n) ≡ true) where
    pub why-out_of_range : valid_gossip here (to_gossip g) ≡ false → Refused AddressRange ≡ why here (stored_view n) (to_gossip g) ds
    unfolding why
    why-out_of_range v = sym (test_passes one (two ∷ []) Refused (go (M.loaded (stored_view n))) (ap not e) ∙ test_fails two [] Refused (go (M.loaded (stored_view n))) (ap not v))

    pub why_weighs : valid_gossip here (to_gossip g) ≡ true → go (view_node n) ≡ why here (stored_view n) (to_gossip g) ds
    unfolding why
    why_weighs v =
        ap go (sym (loaded_view n))
        ∙ sym (test_passes one (two ∷ []) Refused (go (M.loaded (stored_view n))) (ap not e) ∙ test_passes two [] Refused (go (M.loaded (stored_view n))) (ap not v))
