-- The test of a heap, entry by entry and place by place.
-- Assumes nothing.
use mathlib.Core.Path.{◌≡◌, refl, ap, sym, ◌∙◌}
use mathlib.Core.Bool.{Bool, true, false, ◌&&◌}
use mathlib.Core.List.{List, [], ◌∷◌, map}
use Prim.Native.Nat.{ℕ, zero, suc, ◌+◌, ◌-◌, ◌≤◌, ◌<◌}
use native.Mathlib.Omega.{arith}
use native.Mathlib.Nat.{le_of_suc-le-suc, not-suc-le-zero}
use lib.Dec.{eqb, leb, ltb}
use lib.ListN.{length, get_or, drop, length-drop, get_or-map}
use lib.Seq.{get_or-take, get_or-drop, length-take-le}
use borrow.Author.Tests.{le-leb, ltb-true, ltb-false, lt-ltb, le-ltb}
use Rattle.address.specs.Here.{Addr, here}
use Rattle.model.specs.Rows.{pick, every}
use Rattle.model.specs.Words as W
use Rattle.model.specs.Words.{parts_of}
use Rattle.model.specs.Size.{size_over, size_of}
use Rattle.model.specs.Heap.{parent, rank, all_below, stands_in_order}
use Rattle.model.specs.Node.{Row, used_places}
use Rattle.model.specs.Sound.{of_kind, valid_gossip, sound_entry, is_unused, sound_heap}
use Rattle.model.specs.declared.Kind.{Kind}
use Rattle.model.specs.declared.Kind.TheVariants.{Alive, Deceased}
use Rattle.laws.specs.Bools.{and_join, and_split}
use Rattle.laws_heap.specs.HeapTests.{all_at, all_from, all_fails}
use Rattle.types.specs.declared.Parts.{Parts}
use Rattle.types.specs.Views.{to_event, from_parts}
use Rattle.heap.specs.declared.Entry.{Entry}
use Rattle.heap.specs.Views.{to_entry, no_entry}

-- what the code asks of an entry, by the parts of its event
abbrev asked : Kind → Entry → Parts → Bool
asked kind e p =
    of_kind kind p.kind
    && eqb e.size (size_over (here.chars p.from) (here.chars p.subject) p.number)
    && leb e.sends 22
    && (here.valid p.from && here.valid p.subject)

-- no event is of no heap's kind, so that its size and its addresses don't matter
pub entry-by_parts : (kind : Kind) (e : Entry) (p : Parts) → p ≡ from_parts (parts_of here (to_event e.gossip.event)) → asked kind e p ≡ sound_entry here kind (to_entry e)
unfolding sound_entry valid_gossip parts_of size_of
entry-by_parts kind e p q = ap (asked kind e) q ∙ by kind (to_event e.gossip.event)
  where
    by : (k : Kind) (v : W.Event Addr) → asked k e (from_parts (parts_of here v)) ≡ sound_entry here k (record { gossip = record { event = v }; sends = e.sends; size = e.size })
    by Alive W.Nothing = refl
    by Deceased W.Nothing = refl
    by k (W.Joined f s n) = refl
    by k (W.Recovered f s n) = refl
    by k (W.Suspected f s n) = refl
    by k (W.Deceased f s n) = refl

pub unused-by_parts : (e : Entry) (p : Parts) → p ≡ from_parts (parts_of here (to_event e.gossip.event)) → (eqb p.kind 0 && eqb e.sends 0 && eqb e.size 0) ≡ is_unused here (to_entry e)
unused-by_parts e p q = ap (λ (x : Parts). eqb x.kind 0 && eqb e.sends 0 && eqb e.size 0) q

and_none : (a : Bool) → (a && false) ≡ false
and_none true = refl
and_none false = refl

-- one of four clauses fails
fails_2 : (a b c d : Bool) → b ≡ false → false ≡ (a && b && c && d)
fails_2 a b c d e = rw (e, and_none a)

fails_3 : (a b c d : Bool) → c ≡ false → false ≡ (a && b && c && d)
fails_3 a b c d e = rw (e, and_none (a && b))

fails_4 : (a b c d : Bool) → d ≡ false → false ≡ (a && b && c && d)
fails_4 a b c d e = rw (e, and_none (a && b && c))

-- a test of every element, place by place
module _ {A : Type 0} (f : A → Bool) (d : A) where
  every-from : (l : List A) → ((j : ℕ) → j < length l → f (get_or l j d) ≡ true) → every f l ≡ true
  every-from [] h = refl
  every-from (x ∷ l) h = and_join (h 0 (omega arith)) (every-from l (λ j k. h (suc j) (omega arith)))

  every_fails : (l : List A) (i : ℕ) → i < length l → f (get_or l i d) ≡ false → every f l ≡ false
  every_fails [] i h e = absurd (not-suc-le-zero h)
  every_fails (x ∷ l) zero h e = rw e
  every_fails (x ∷ l) (suc i) h e = ap (λ (u : Bool). f x && u) (every_fails l i (le_of_suc-le-suc h) e) ∙ and_none (f x)

-- a row, place by place: used ones are sound and sent no less often than the one above, others unused
module _ (kind : Kind) (r : Row (W.Entry Addr)) where
  abbrev at : ℕ → W.Entry Addr
  at j = get_or r.places j W.unused

  abbrev used_well : ℕ → Bool
  used_well j = sound_entry here kind (at j) && leb (at (parent j)).sends (at j).sends

  unfoldable pub place : ℕ → Bool
  place j = pick (ltb j r.used) (used_well j) (is_unused here (at j))

  abbrev entries_sound : Bool
  entries_sound = every (sound_entry here kind) (used_places r)

  abbrev rest_unused : Bool
  rest_unused = every (is_unused here) (drop r.used r.places)

  abbrev order : ℕ → Bool
  order j = leb (rank W.unused W.sends_of (used_places r) (parent j)) (rank W.unused W.sends_of (used_places r) j)

  module _ (few : r.used ≤ 128) (whole : length r.places ≡ 128) where
    long : length (used_places r) ≡ r.used
    long = length-take-le r.used r.places (omega arith)

    in_use : (j : ℕ) → j < r.used → get_or (used_places r) j W.unused ≡ at j
    in_use j h = get_or-take r.used r.places j W.unused h

    ordered : (j : ℕ) → j < r.used → order j ≡ leb (at (parent j)).sends (at j).sends
    ordered j h = rw (in_use j h, in_use (parent j) (omega arith))

    behind : (j : ℕ) → r.used ≤ j → get_or (drop r.used r.places) (j - r.used) W.unused ≡ at j
    behind j h =
        get_or-drop r.used r.places (j - r.used) W.unused
        ∙ ap at (omega arith)

    pub all_pass : all_below place 128 ≡ true → true ≡ sound_heap here kind r
    unfolding sound_heap place
    all_pass p = sym (and_join (and_join (and_join (le-leb _ _ few) entries) orders) rest)
      where
        passed : (j : ℕ) → j < r.used → (sound_entry here kind (at j) ≡ true) × (leb (at (parent j)).sends (at j).sends ≡ true)
        passed j h = and_split _ _ (sym (ap (λ (u : Bool). pick u (used_well j) (is_unused here (at j))) (lt-ltb j r.used h)) ∙ all_at place 128 j (omega arith) p)

        entries : every (sound_entry here kind) (used_places r) ≡ true
        entries = every-from (sound_entry here kind) W.unused (used_places r) (λ j h. rw (in_use j (omega (arith, long))) (passed j (omega (arith, long))).0)

        orders : stands_in_order W.unused W.sends_of (used_places r) r.used ≡ true
        orders = all_from order r.used (λ j h. ordered j h ∙ (passed j h).1)

        rest : every (is_unused here) (drop r.used r.places) ≡ true
        rest =
            every-from (is_unused here) W.unused (drop r.used r.places)
            (λ j h.
            rw (get_or-drop r.used r.places j W.unused)
            (sym (ap (λ (u : Bool). pick u (used_well (r.used + j)) (is_unused here (at (r.used + j)))) (le-ltb (r.used + j) r.used (omega arith)))
            ∙ all_at place 128 (r.used + j) (omega (arith, length-drop r.used r.places)) p))

    pub place_fails : (i : ℕ) → i < 128 → place i ≡ false → false ≡ sound_heap here kind r
    unfolding sound_heap place
    place_fails i h =
        (elim (ltb i r.used) as (λ u. ltb i r.used ≡ u → pick u (used_well i) (is_unused here (at i)) ≡ false → false ≡ sound_heap here kind r) [
          | true ↦ λ e. used_fails (ltb-true i r.used e)
          | false ↦ λ e f.
              fails_4 (leb r.used 128) entries_sound (all_below order r.used) rest_unused
              (every_fails (is_unused here) W.unused (drop r.used r.places) (i - r.used)
              (omega (arith, length-drop r.used r.places, ltb-false i r.used e))
              (ap (is_unused here) (behind i (ltb-false i r.used e)) ∙ f))
        ])
        refl
      where
        used_fails : i < r.used → used_well i ≡ false → false ≡ sound_heap here kind r
        used_fails l =
            (elim (sound_entry here kind (at i)) as (λ u. sound_entry here kind (at i) ≡ u → (u && leb (at (parent i)).sends (at i).sends) ≡ false → false ≡ sound_heap here kind r) [
              | true ↦ λ e f. fails_3 (leb r.used 128) entries_sound (all_below order r.used) rest_unused (all_fails order r.used i l (ordered i l ∙ f))
              | false ↦ λ e f.
                  fails_2 (leb r.used 128) entries_sound (all_below order r.used) rest_unused
                  (every_fails (sound_entry here kind) W.unused (used_places r) i (omega (arith, long)) (ap (sound_entry here kind) (in_use i l) ∙ e))
            ])
            refl

-- the code's rows, and its question of a place
abbrev pub row_over : ℕ → List Entry → Row (W.Entry Addr)
row_over len es = record { places = map to_entry es; used = len }

pub at_place :
    (kind : Kind) (len : ℕ) (es : List Entry) (i c : ℕ) (u : Bool) →
    c ≡ parent i →
    u ≡ pick (ltb i len) (sound_entry here kind (to_entry (get_or es i no_entry)) && leb (get_or es c no_entry).sends (get_or es i no_entry).sends) (is_unused here (to_entry (get_or es i no_entry))) →
    place kind (row_over len es) i ≡ u
unfolding place
at_place kind len es i c u e x = rw (x, e, get_or-map to_entry es i no_entry, get_or-map to_entry es (parent i) no_entry)
