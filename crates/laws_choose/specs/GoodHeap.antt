-- A good heap: what soundness says of the heap that a row holds. The test of a row passes exactly for the row of a good heap.
-- Assumes nothing.
use Rattle.std.specs.Prelude.{◌≡◌, true, List, ◌-◌, ◌≤◌, eqb}
use Rattle.std.proofs.Math.Path.{refl}
use Rattle.std.proofs.Common.{arith}
use Rattle.std.proofs.Math.ListN.{length}
use Rattle.std.proofs.Math.Seq.{length-take-le}
use borrow.Author.Tests.{eqb-true, leb-true, le-leb}
use Rattle.model.specs.Rows.{every, pad_to}
use Rattle.model.specs.Words.{Address, Entry, Event, Nothing, Joined, Recovered, Suspected, Deceased, parts_of, unused, sends_of}
use Rattle.model.specs.Heap.{stands_in_order}
use Rattle.model.specs.Node.{Row, used_places, row_of}
use Rattle.model.specs.declared.Kind.{Kind}
use Rattle.model.specs.Sound.{sound_entry, is_unused, sound_heap}
use Rattle.laws.specs.Bools.{and_split, and_join, every-replicate}
use Rattle.laws.specs.Pad.{take_pad, drop_pad, pad_take}

module _ {A : Type 0} (address : Address A) where
  pub record GoodHeap (k : Kind) (h : List (Entry A)) : Type 0 where
    pub few : length h ≤ 128
    pub entries : every (sound_entry address k) h ≡ true
    pub order : stands_in_order unused sends_of h (length h) ≡ true

  no_event : (e : Event A) → eqb (parts_of address e).kind 0 ≡ true → e ≡ Nothing
  unfolding parts_of
  no_event Nothing p = refl
  no_event (Joined f s n) p = cc
  no_event (Recovered f s n) p = cc
  no_event (Suspected f s n) p = cc
  no_event (Deceased f s n) p = cc

  no-entry : (e : Entry A) → is_unused address e ≡ true → e ≡ unused
  no-entry e h =
      let p = and_split _ _ h in
      let q = and_split _ _ p.0 in
      let x : e.gossip.event ≡ Nothing = no_event e.gossip.event q.0 in
      let y : e.sends ≡ 0 = eqb-true _ _ q.1 in
      let z : e.size ≡ 0 = eqb-true _ _ p.1 in
      λ i. record { gossip = record { event = x i }; sends = y i; size = z i }

  unused_is : is_unused address unused ≡ true
  unfolding parts_of
  unused_is = refl

  -- the row of a good heap passes the test
  pub sound-heap : (k : Kind) (h : List (Entry A)) → GoodHeap k h → sound_heap address k (row_of 128 unused h) ≡ true
  unfolding sound_heap
  sound-heap k h g =
      rw (take_pad 128 unused h, drop_pad 128 unused h)
      (and_join (and_join (and_join (le-leb (length h) 128 g.few) g.entries) g.order) (every-replicate (is_unused address) (128 - length h) unused unused_is))

  -- and a row that passes it holds a good heap
  pub heap_good : (k : Kind) (h : Row (Entry A)) → length h.places ≡ 128 → sound_heap address k h ≡ true
      → GoodHeap k (used_places h) × (length (used_places h) ≡ h.used) × (h.places ≡ pad_to 128 unused (used_places h))
  unfolding sound_heap
  heap_good k h e p =
      let q = and_split _ _ p in
      let r = and_split _ _ q.0 in
      let t = and_split _ _ r.0 in
      let few : h.used ≤ 128 = leb-true _ _ t.0 in
      let l : length (used_places h) ≡ h.used = length-take-le h.used h.places (omega arith) in (
        record { few = omega arith; entries = t.1; order = rw l r.1 },
        l,
        pad_take (is_unused address) unused no-entry 128 h.used h.places e few q.1,
      )
