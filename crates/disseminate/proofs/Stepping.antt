-- One try of the code at a heap: what it asks for, and that each way out is the model's try.
-- Assumes nothing.
use mathlib.Core.Path.{◌≡◌, refl, sym, ◌∙◌, ap, subst}
use mathlib.Core.Bool.{Bool, true, false, not, ◌||◌}
use mathlib.Core.List.{◌∷◌}
use mathlib.Core.Option.{Option, none, some}
use Prim.Native.Nat.{ℕ, zero, suc, ◌+◌, ◌*◌, ◌≤◌, ◌<◌}
use native.Mathlib.Omega.{arith}
use native.Mathlib.Nat.{add-zero}
use lib.Dec.{ltb}
use lib.ListN.{drop, take, get_or-map}
use lib.Seq.{drop-cons, get_or-take}
use borrow.Author.Tests.{ltb-false, leb-true}
use Rattle.model.specs.Bounds.{greatest_size}
use Rattle.model.specs.Rows.{every, one, pick}
use Rattle.address.specs.Here.{Addr, here}
use Rattle.model.specs.Words as W
use Rattle.laws.specs.Bools.{and_split}
use Rattle.model.specs.Choose as M
use Rattle.model.specs.Choose.{was_noted, take_top, try_heap, gave, try_alive, try_deceased, after_alive, after_deceased}
use Rattle.laws_choose.specs.ChooseLaws.{at_least}
use Rattle.model.specs.Sound.{sound_entry}
use Rattle.model.specs.declared.Kind.{Kind}
use Rattle.model.specs.declared.Kind.TheVariants as kind
use Rattle.laws_choose.specs.GoodHeap.{GoodHeap}
use Rattle.heap.specs.declared.Entry.{Entry}
use Rattle.heap.specs.declared.Heap.{Heap}
use Rattle.heap.specs.Views.{to_entry, no_entry, heap_view, pack_heap, Packed, view_length, view_pack, packed_pack}
use Rattle.disseminate.specs.declared.Terms.{Terms}
use Rattle.disseminate.specs.declared.Chosen.{Chosen}
use Rattle.disseminate.specs.declared.Choice.{Choice}
use Rattle.disseminate.specs.Views.{noted, to_terms, choice_view, NotedOne, Room, NotedIf, top_of, Open, Kept, Ready}
use Rattle.disseminate.proofs.Noting.{chosen-length}
use Rattle.disseminate.proofs.Trying.{try_empty, try_barred, try_takes, kept-alive, kept-deceased, sound-most}

-- what a try at a heap gives: both as they came where it gave none
pub record Tried : Type 0 where
  pub heap : Heap
  pub chosen : Chosen
  pub gave : Bool

-- what a try came to
abbrev pub Outcome : Heap → Chosen → Tried → Option (M.Taken Addr) → Type 0
Outcome h n r none = r ≡ record { heap = h; chosen = n; gave = false }
Outcome h n r (some k) =
    (r.heap ≡ pack_heap k.heap) × NotedOne n k.gossip k.sends k.size r.chosen × (r.gave ≡ true)

-- the top of a heap that has one
module _ (h : Heap) (p : Packed h) (held : 0 < h.len) where
  pub top_view : heap_view h ≡ to_entry (top_of h) ∷ drop 1 (heap_view h)
  top_view =
      drop-cons (heap_view h) 0 W.unused (omega (arith, view_length h p))
      ∙ ap (λ (e : W.Entry Addr). e ∷ drop 1 (heap_view h))
      (get_or-map to_entry (take h.len h.entries) 0 no_entry ∙ ap to_entry (get_or-take h.len h.entries 0 no_entry held))

  pub top_most : (k : Kind) → GoodHeap here k (heap_view h) → ((top_of h).size ≤ 111) × ((top_of h).sends ≤ 22)
  top_most k g =
      let s : every (sound_entry here k) (to_entry (top_of h) ∷ drop 1 (heap_view h)) ≡ true = rw top_view at g.entries in
      sound-most k (to_entry (top_of h)) (and_split (sound_entry here k (to_entry (top_of h))) (every (sound_entry here k) (drop 1 (heap_view h))) s).0

  pub top_least : every (at_least here 18) (heap_view h) ≡ true → 18 ≤ (top_of h).size
  top_least g =
      let s : every (at_least here 18) (to_entry (top_of h) ∷ drop 1 (heap_view h)) ≡ true = rw top_view at g in
      leb-true 18 (top_of h).size (and_split (at_least here 18 (to_entry (top_of h))) (every (at_least here 18) (drop 1 (heap_view h))) s).0

-- neither of two tests passed
pub or_left : (u v : Bool) → (u || v) ≡ false → u ≡ false
or_left true v e = e
or_left false v e = refl

pub or_right : (u v : Bool) → u ≡ false → v ≡ (u || v)
or_right true v e = cc
or_right false v e = refl

never : {A : Type 0} → false ≡ true → A
never e = let z : ◌≡◌ {A = ℕ} 0 1 = cc in absurd (omega arith)

-- a try of the code: what it asks of its calls, and its ways out
module _ (t : Terms) (h : Heap) (n : Chosen) (o : Open t h n) where
  abbrev pub tried : Option (M.Taken Addr)
  tried = try_heap here (to_terms t) n.size (noted n.rows n.sent n.count) (heap_view h)

  pub empty : h.len ≡ 0 → tried ≡ none
  empty e = try_empty (to_terms t) _ _ (heap_view h) (view_length h o.heap ∙ e)

  pub in_size : n.size ≤ greatest_size
  in_size = omega (arith, o.fits, o.size)

  -- what stops the top
  abbrev pub barrier : Bool
  barrier =
      ltb t.max_size (n.size + (top_of h).size)
      || was_noted here (to_entry (top_of h)).gossip (top_of h).sends (noted n.rows n.sent n.count)

  abbrev pub without_top : M.Taken Addr
  without_top = take_top here t.limit (to_entry (top_of h)) (heap_view h)

  module _ (held : 0 < h.len) where
    pub top_small : ((top_of h).size ≤ greatest_size) × ((top_of h).sends ≤ 22)
    top_small = let m = o.top held in (omega (arith, m.1), m.2)

    -- an entry of 18 bytes that is not stopped finds room: 64 of them are the most
    pub finds_room : barrier ≡ false → Room n (top_of h)
    finds_room b =
        let f : n.size + (top_of h).size ≤ t.max_size = ltb-false t.max_size (n.size + (top_of h).size) (or_left _ _ b) in
        let m = o.top held in
        (o.chosen, omega (arith, m.0, o.counted, o.size), in_size, top_small.0, top_small.1)

    -- both ways out where the heap holds an entry
    abbrev pub way : Bool → Option (M.Taken Addr)
    way b = pick b none (some without_top)

    pub way_out : (b : Bool) → barrier ≡ b → tried ≡ way b
    way_out true b = try_barred (to_terms t) _ _ (heap_view h) _ _ (top_view h o.heap held) b
    way_out false b = try_takes (to_terms t) _ _ (heap_view h) _ _ (top_view h o.heap held) b

    pub gives_is : (b : Bool) → b ≡ barrier → not b ≡ gave here tried
    gives_is true e = sym (ap (gave here) (way_out true (sym e)))
    gives_is false e = sym (ap (gave here) (way_out false (sym e)))

  -- where a top is given the heap holds an entry and nothing stops it
  pub record Given : Type 0 where
    pub held : 0 < h.len
    pub passes : barrier ≡ false

  pub given : gave here tried ≡ true → Given
  given g = go h.len refl barrier refl
    where
      go : (k : ℕ) → h.len ≡ k → (b : Bool) → barrier ≡ b → Given
      go zero e b q = never (sym (ap (gave here) (empty e)) ∙ g)
      go (suc k) e true q = never (sym (ap (gave here) (way_out (omega arith) true q)) ∙ g)
      go (suc k) e false q = record { held = omega arith; passes = q }

  -- so it may be noted and taken
  pub may_note : (g : Bool) → g ≡ gave here tried → g ≡ true → Room n (top_of h)
  may_note g e q = let v = given (sym e ∙ q) in finds_room v.held v.passes

  pub may_spend : (g : Bool) → g ≡ gave here tried → g ≡ true → Packed h × (0 < h.len) × ((top_of h).sends ≤ 22)
  may_spend g e q = let v = given (sym e ∙ q) in (o.heap, v.held, (top_small v.held).1)

  pub outcome :
      (g : Bool) (c : Chosen) (a : Heap) →
      g ≡ gave here tried →
      NotedIf g n (top_of h) c →
      a ≡ pick g (pack_heap without_top.heap) h →
      Outcome h n (record { heap = a; chosen = c; gave = g }) tried
  unfolding take_top
  outcome true c a e w p =
      let v = given (sym e) in
      subst (Outcome h n (record { heap = a; chosen = c; gave = true })) (sym (way_out v.held false v.passes)) (p, w, refl)
  outcome false c a e w p = go tried refl
    where
      go : (x : Option (M.Taken Addr)) → tried ≡ x → Outcome h n (record { heap = a; chosen = c; gave = false }) x
      go none q = λ i. record { heap = p i; chosen = w i; gave = false }
      go (some k) q = never (e ∙ ap (gave here) q)

-- what a choosing is after a try at the heap of the living, and of the dead
abbrev pub with_alive : Choice → Tried → Choice
with_alive c x =
    record {
      alive = x.heap;
      deceased = c.deceased;
      chosen = x.chosen;
      from_alive = c.from_alive + one x.gave;
      from_deceased = c.from_deceased;
    }

abbrev pub with_deceased : Choice → Tried → Choice
with_deceased c x =
    record {
      alive = c.alive;
      deceased = x.heap;
      chosen = x.chosen;
      from_alive = c.from_alive;
      from_deceased = c.from_deceased + one x.gave;
    }

-- a choosing that is ready may try either heap
module _ (t : Terms) (c : Choice) (r : Ready t c) where
  open_at : (k : Kind) (h : Heap) → Packed h → GoodHeap here k (heap_view h) → every (at_least here 18) (heap_view h) ≡ true → Open t h c.chosen
  open_at k h p g l =
      record {
        heap = p;
        top = λ held. let m = top_most h p held k g in (top_least h p held l, m.0, m.1);
        chosen = r.chosen;
        counted = omega (arith, r.kept.within.counted, chosen-length c.chosen r.chosen);
        fits = r.kept.within.fits;
        size = r.size;
      }

  pub open_alive : Open t c.alive c.chosen
  open_alive = open_at kind.Alive c.alive r.alive r.kept.heaps.alive r.kept.within.alive

  pub open_deceased : Open t c.deceased c.chosen
  open_deceased = open_at kind.Deceased c.deceased r.deceased r.kept.heaps.deceased r.kept.within.deceased

  pub counts_fit : (c.from_alive ≤ 64) × (c.from_deceased ≤ 64)
  counts_fit =
      let l = chosen-length c.chosen r.chosen in
      (omega (arith, l, r.kept.living, r.chosen.few), omega (arith, l, r.kept.dead, r.chosen.few))

  abbrev AliveTried : Choice → Type 0
  AliveTried b = (choice_view b ≡ after_alive here (choice_view c) (try_alive here (to_terms t) (choice_view c))) × Ready t b

  alive-tried : (x : Tried) → Outcome c.alive c.chosen x (tried t c.alive c.chosen open_alive) → AliveTried (with_alive c x)
  unfolding try_alive
  alive-tried x = go (try_alive here (to_terms t) (choice_view c)) refl
    where
      go : (y : Option (M.Taken Addr)) → try_alive here (to_terms t) (choice_view c) ≡ y → Outcome c.alive c.chosen x y → AliveTried (with_alive c x)
      go none e w =
          let q : c.from_alive + one x.gave ≡ c.from_alive = ap (λ (y : Tried). c.from_alive + one y.gave) w ∙ add-zero c.from_alive in
          let same : with_alive c x ≡ c = λ i. record { alive = (w i).heap; deceased = c.deceased; chosen = (w i).chosen; from_alive = q i; from_deceased = c.from_deceased } in
          subst AliveTried (sym same) (sym (ap (after_alive here (choice_view c)) e), r)
      go (some k) e w =
          let q : c.from_alive + one x.gave ≡ c.from_alive + 1 = ap (λ (b : Bool). c.from_alive + one b) w.2 in
          let h : heap_view x.heap ≡ k.heap = ap heap_view w.0 ∙ view_pack k.heap in
          let viewed : choice_view (with_alive c x) ≡ after_alive here (choice_view c) (some k) = λ i. record { alive = h i; deceased = heap_view c.deceased; chosen = w.1.chosen i; noted = w.1.noted i; from-alive = q i; from-deceased = c.from_deceased; size = w.1.size i } in
          let kept : Kept (to_terms t) (after_alive here (choice_view c) (some k)) = kept-alive (to_terms t) r.limit (choice_view c) (some k) e r.kept in (
            viewed ∙ sym (ap (after_alive here (choice_view c)) e),
            record { alive = subst Packed (sym w.0) (packed_pack k.heap kept.heaps.alive.few); deceased = r.deceased; chosen = w.1.packed; size = r.size; limit = r.limit; kept = subst (Kept (to_terms t)) (sym viewed) kept },
          )

  pub alive-turn :
      (g : Bool) (n : Chosen) (a : Heap) →
      g ≡ gave here (tried t c.alive c.chosen open_alive) →
      NotedIf g c.chosen (top_of c.alive) n →
      a ≡ pick g (pack_heap (without_top t c.alive c.chosen open_alive).heap) c.alive →
      AliveTried (with_alive c (record { heap = a; chosen = n; gave = g }))
  alive-turn g n a e w p = alive-tried _ (outcome t c.alive c.chosen open_alive g n a e w p)

  abbrev DeceasedTried : Choice → Type 0
  DeceasedTried b = (choice_view b ≡ after_deceased here (choice_view c) (try_deceased here (to_terms t) (choice_view c))) × Ready t b

  deceased-tried : (x : Tried) → Outcome c.deceased c.chosen x (tried t c.deceased c.chosen open_deceased) → DeceasedTried (with_deceased c x)
  unfolding try_deceased
  deceased-tried x = go (try_deceased here (to_terms t) (choice_view c)) refl
    where
      go : (y : Option (M.Taken Addr)) → try_deceased here (to_terms t) (choice_view c) ≡ y → Outcome c.deceased c.chosen x y → DeceasedTried (with_deceased c x)
      go none e w =
          let q : c.from_deceased + one x.gave ≡ c.from_deceased = ap (λ (y : Tried). c.from_deceased + one y.gave) w ∙ add-zero c.from_deceased in
          let same : with_deceased c x ≡ c = λ i. record { alive = c.alive; deceased = (w i).heap; chosen = (w i).chosen; from_alive = c.from_alive; from_deceased = q i } in
          subst DeceasedTried (sym same) (sym (ap (after_deceased here (choice_view c)) e), r)
      go (some k) e w =
          let q : c.from_deceased + one x.gave ≡ c.from_deceased + 1 = ap (λ (b : Bool). c.from_deceased + one b) w.2 in
          let h : heap_view x.heap ≡ k.heap = ap heap_view w.0 ∙ view_pack k.heap in
          let viewed : choice_view (with_deceased c x) ≡ after_deceased here (choice_view c) (some k) = λ i. record { alive = heap_view c.alive; deceased = h i; chosen = w.1.chosen i; noted = w.1.noted i; from-alive = c.from_alive; from-deceased = q i; size = w.1.size i } in
          let kept : Kept (to_terms t) (after_deceased here (choice_view c) (some k)) = kept-deceased (to_terms t) r.limit (choice_view c) (some k) e r.kept in (
            viewed ∙ sym (ap (after_deceased here (choice_view c)) e),
            record { alive = r.alive; deceased = subst Packed (sym w.0) (packed_pack k.heap kept.heaps.deceased.few); chosen = w.1.packed; size = r.size; limit = r.limit; kept = subst (Kept (to_terms t)) (sym viewed) kept },
          )

  pub deceased-turn :
      (g : Bool) (n : Chosen) (d : Heap) →
      g ≡ gave here (tried t c.deceased c.chosen open_deceased) →
      NotedIf g c.chosen (top_of c.deceased) n →
      d ≡ pick g (pack_heap (without_top t c.deceased c.chosen open_deceased).heap) c.deceased →
      DeceasedTried (with_deceased c (record { heap = d; chosen = n; gave = g }))
  deceased-turn g n d e w p = deceased-tried _ (outcome t c.deceased c.chosen open_deceased g n d e w p)
