-- A good node: what soundness says of the node that the rows hold. The test of a stored node passes exactly for the rows of a good node.
-- Assumes nothing.
use Rattle.std.specs.Prelude.{◌≡◌, refl, true, List, ℕ, zero, suc, ◌-◌, ◌≤◌}
use Rattle.std.proofs.Math.Path.{ap, sym}
use Rattle.std.proofs.Common.{◌∙◌}
use native.Mathlib.Omega.{arith}
use Rattle.std.proofs.Math.ListN.{length, take, drop, replicate}
use Rattle.std.proofs.Math.Seq.{length-take-le}
use Rattle.std.proofs.Math.Dec.{eqb-suc-zero}
use borrow.Author.Tests.{eqb-true, eq-eqb, ltb-true, lt-ltb, leb-true, le-leb}
use Rattle.model.specs.declared.State.{State}
use Rattle.model.specs.declared.State.TheVariants as state
use Rattle.model.specs.declared.Lamps.{Lamps}
use Rattle.model.specs.Rows.{every, pad_to, occurs}
use Rattle.model.specs.Words.{Address, Lawful, is_alive, Member, Timer, Departed, unused, blank_member, no_timer, no_departed}
use Rattle.model.specs.Members.{Members, addrs}
use Rattle.model.specs.Departed.{gone}
use Rattle.model.specs.Lamps.{lamps_of, same_lamps}
use Rattle.model.specs.Node.{heap_of, Node, Row, Stored, used_places, row_of, loaded, stored}
use Rattle.model.specs.declared.Kind.{Kind}
use Rattle.model.specs.declared.Kind.TheVariants as kind
use Rattle.model.specs.Sound.{in_range, positioned, sound_heap, is_no_member, sound_rows, sound_members, is_no_timer, sound_timers, is_no_departed, sound_departed, sound}
use Rattle.laws_list.specs.Whole.{Whole}
use Rattle.laws_list.proofs.Counting.{lamps_eq, lamps_same}
use Rattle.laws_list.specs.Distinct.{distinct_once, once_distinct, permutes-counts, counts-permutes}
use Rattle.laws.specs.Bools.{and_split, and_join, every-replicate}
use Rattle.laws.specs.Pad.{take_pad, drop_pad, pad_take}
use Rattle.laws_choose.specs.GoodHeap.{GoodHeap, sound-heap, heap_good}

module _ {A : Type 0} (address : Address A) where
  -- what a row of the departed holds: no more than its places, each address once, all in range
  pub record GoodDeparted (r : List (Departed A)) : Type 0 where
    pub few : length r ≤ 128
    pub once : (b : A) → occurs address.same b (gone r) ≤ 1
    pub valid : every address.valid (gone r) ≡ true

  pub record Good (s : Node A) : Type 0 where
    pub settings : in_range s.settings ≡ true
    pub own : address.valid s.own ≡ true
    pub whole : Whole address.same s.members
    pub valid : every address.valid (addrs s.members.table) ≡ true
    pub heaps : (k : Kind) → GoodHeap address k (heap_of k s.disseminator)
    pub few : length s.timers ≤ 16
    pub timers : every (λ (t : Timer A). address.valid t.addr) s.timers ≡ true
    pub departed : GoodDeparted s.departed

-- the rows have as many places as the scope says
pub record FullRows {A : Type 0} (s : Stored A) : Type 0 where
  pub table : length s.table ≡ 64
  pub order : length s.order ≡ 64
  pub alive : length s.alive.places ≡ 128
  pub deceased : length s.deceased.places ≡ 128
  pub timers : length s.timers.places ≡ 16
  pub departed : length s.departed.places ≡ 128

-- "position below the length, or 0 if empty"
pub positioned_le : (p n : ℕ) → positioned p n ≡ true → p ≤ n - 1
unfolding positioned
positioned_le p zero e = omega (arith, eqb-true p 0 e)
positioned_le p (suc n) e = omega (arith, ltb-true p (suc n) (rw (eqb-suc-zero n) at e))

pub le_positioned : (p n : ℕ) → p ≤ n - 1 → positioned p n ≡ true
unfolding positioned
le_positioned p zero h = eq-eqb p 0 (omega arith)
le_positioned p (suc n) h = rw (eqb-suc-zero n) (lt-ltb p (suc n) (omega arith))

module _ {A : Type 0} (address : Address A) (lawful : Lawful address) where
  is-alive : (st : State) → is_alive st ≡ true → st ≡ state.Alive
  is-alive state.Alive e = refl
  is-alive state.Pending e = cc
  is-alive state.Suspected e = cc

  no_member : (m : Member A) → is_no_member address m ≡ true → m ≡ blank_member address
  no_member m e =
      let p = and_split _ _ e in
      let q = and_split _ _ p.0 in
      let x : m.addr ≡ address.blank = lawful.test.same_eq _ _ q.0 in
      let y : m.state ≡ state.Alive = is-alive m.state q.1 in
      let z : m.number ≡ 0 = eqb-true _ _ p.1 in
      λ i. record { addr = x i; state = y i; number = z i }

  no-timer : (t : Timer A) → is_no_timer address t ≡ true → t ≡ no_timer address
  no-timer t e =
      let p = and_split _ _ e in
      let q = and_split _ _ p.0 in
      let x : t.addr ≡ address.blank = lawful.test.same_eq _ _ q.0 in
      let y : t.number ≡ 0 = eqb-true _ _ q.1 in
      let z : t.since ≡ 0 = eqb-true _ _ p.1 in
      λ i. record { addr = x i; number = y i; since = z i }

  no-departed : (d : Departed A) → is_no_departed address d ≡ true → d ≡ no_departed address
  no-departed d e =
      let p = and_split _ _ e in
      let x : d.addr ≡ address.blank = lawful.test.same_eq _ _ p.0 in
      let y : d.number ≡ 0 = eqb-true _ _ p.1 in
      λ i. record { addr = x i; number = y i }

  blank_same : address.same address.blank address.blank ≡ true
  blank_same = lawful.test.same_refl address.blank

  -- The rows of a good node pass the test. First each part
  sound-timers : (l : List (Timer A)) → length l ≤ 16 → every (λ (t : Timer A). address.valid t.addr) l ≡ true → sound_timers address (row_of 16 (no_timer address) l) ≡ true
  unfolding sound_timers
  sound-timers l h e =
      rw (take_pad 16 (no_timer address) l, drop_pad 16 (no_timer address) l)
      (and_join (and_join (le-leb (length l) 16 h) e) (every-replicate (is_no_timer address) (16 - length l) (no_timer address) (and_join (and_join blank_same refl) refl)))

  sound-departed : (r : List (Departed A)) → GoodDeparted address r → sound_departed address (row_of 128 (no_departed address) r) ≡ true
  unfolding sound_departed
  sound-departed r g =
      rw (take_pad 128 (no_departed address) r, drop_pad 128 (no_departed address) r)
      (and_join
      (and_join (and_join (le-leb (length r) 128 g.few) (once_distinct address.same lawful.test (gone r) g.once)) g.valid)
      (every-replicate (is_no_departed address) (128 - length r) (no_departed address) (and_join blank_same refl)))

  sound-members : (own : A) (m : Members A) → Whole address.same m → every address.valid (addrs m.table) ≡ true
      → sound_members address own (pad_to 64 (blank_member address) m.table) (pad_to 64 address.blank m.order) (length m.table) m.position
      (lamps_of address.same own m.table)
      ≡ true
  unfolding sound_members sound_rows
  sound-members own m w v =
      let to : take (length m.table) (pad_to 64 address.blank m.order) ≡ m.order =
      ap (λ (n : ℕ). take n (pad_to 64 address.blank m.order)) (sym w.long) ∙ take_pad 64 address.blank m.order in
      let dro : drop (length m.table) (pad_to 64 address.blank m.order) ≡ replicate (64 - length m.order) address.blank =
      ap (λ (n : ℕ). drop n (pad_to 64 address.blank m.order)) (sym w.long) ∙ drop_pad 64 address.blank m.order in
      rw (take_pad 64 (blank_member address) m.table, drop_pad 64 (blank_member address) m.table, to, dro)
      (and_join
      (and_join
      (and_join
      (and_join
      (and_join
      (and_join
      (and_join (le-leb (length m.table) 64 w.few) (once_distinct address.same lawful.test (addrs m.table) w.once))
      (counts-permutes address.same lawful.test m.order (addrs m.table) w.counts))
      (le_positioned m.position (length m.table) (omega (arith, w.place, w.long))))
      v)
      (every-replicate (is_no_member address) (64 - length m.table) (blank_member address) (and_join (and_join blank_same refl) refl)))
      (every-replicate (λ (a : A). address.same a address.blank) (64 - length m.order) address.blank blank_same))
      (lamps_same (lamps_of address.same own m.table)))

  pub good_sound : (s : Node A) → Good address s → sound address (stored address s) ≡ true
  unfolding sound stored
  good_sound s g =
      and_join
      (and_join
      (and_join
      (and_join
      (and_join
      (and_join g.settings g.own)
      (sound-members s.own s.members g.whole g.valid))
      (sound-heap address kind.Alive s.disseminator.alive (g.heaps kind.Alive)))
      (sound-heap address kind.Deceased s.disseminator.deceased (g.heaps kind.Deceased)))
      (sound-timers s.timers g.few g.timers))
      (sound-departed s.departed g.departed)

  -- what is stored is loaded again
  pub loaded-stored : (s : Node A) → Whole address.same s.members → loaded (stored address s) ≡ s
  unfolding loaded stored
  loaded-stored s w =
      let t : take (length s.members.table) (pad_to 64 (blank_member address) s.members.table) ≡ s.members.table = take_pad 64 (blank_member address) s.members.table in
      let o : take (length s.members.table) (pad_to 64 address.blank s.members.order) ≡ s.members.order =
      ap (λ (n : ℕ). take n (pad_to 64 address.blank s.members.order)) (sym w.long) ∙ take_pad 64 address.blank s.members.order in
      let a = take_pad 128 unused s.disseminator.alive in
      let d = take_pad 128 unused s.disseminator.deceased in
      let m : take (length s.timers) (pad_to 16 (no_timer address) s.timers) ≡ s.timers = take_pad 16 (no_timer address) s.timers in
      let e = take_pad 128 (no_departed address) s.departed in
      λ i. record {
        settings = s.settings;
        own = s.own;
        members = record { table = t i; order = o i; position = s.members.position };
        disseminator = record { alive = a i; deceased = d i };
        timers = m i;
        departed = e i;
      }

  -- Rows that pass the test hold a good node. First each part
  timers_good : (r : Row (Timer A)) → length r.places ≡ 16 → sound_timers address r ≡ true
      → (length (used_places r) ≤ 16) × (every (λ (t : Timer A). address.valid t.addr) (used_places r) ≡ true) × (length (used_places r) ≡ r.used) × (r.places ≡ pad_to 16 (no_timer address) (used_places r))
  unfolding sound_timers
  timers_good r e p =
      let q = and_split _ _ p in
      let t = and_split _ _ q.0 in
      let few : r.used ≤ 16 = leb-true _ _ t.0 in
      let l : length (used_places r) ≡ r.used = length-take-le r.used r.places (omega arith) in
      (omega arith, t.1, l, pad_take (is_no_timer address) (no_timer address) no-timer 16 r.used r.places e few q.1)

  departed_good : (r : Row (Departed A)) → length r.places ≡ 128 → sound_departed address r ≡ true
      → GoodDeparted address (used_places r) × (length (used_places r) ≡ r.used) × (r.places ≡ pad_to 128 (no_departed address) (used_places r))
  unfolding sound_departed
  departed_good r e p =
      let p₁ = and_split _ _ p in
      let p₂ = and_split _ _ p₁.0 in
      let p₃ = and_split _ _ p₂.0 in
      let few : r.used ≤ 128 = leb-true _ _ p₃.0 in
      let l : length (used_places r) ≡ r.used = length-take-le r.used r.places (omega arith) in (
        record { few = omega arith; once = distinct_once address.same lawful.test (gone (used_places r)) p₃.1; valid = p₂.1 },
        l,
        pad_take (is_no_departed address) (no_departed address) no-departed 128 r.used r.places e few p₁.1,
      )

  pub record GoodRows (own : A) (ms : List (Member A)) (os : List A) (n position : ℕ) (ls : Lamps) : Type 0 where
    pub whole : Whole address.same (record { table = take n ms; order = take n os; position = position })
    pub valid : every address.valid (addrs (take n ms)) ≡ true
    pub long : length (take n ms) ≡ n
    pub table : ms ≡ pad_to 64 (blank_member address) (take n ms)
    pub order : os ≡ pad_to 64 address.blank (take n os)
    pub lamps : ls ≡ lamps_of address.same own (take n ms)

  -- the counts are those of the list
  lamps_clause : (own : A) (table : List (Member A)) (order : List A) (n position : ℕ) (lamps : Lamps) → sound_members address own table order n position lamps ≡ true
      → lamps ≡ lamps_of address.same own (take n table)
  unfolding sound_members
  lamps_clause own table order n position lamps p =
      let l = lamps_of address.same own (take n table) in
      lamps_eq lamps l (and_split (sound_rows address table order n position) (same_lamps lamps l) p).1

  pub members_good : (own : A) (table : List (Member A)) (order : List A) (n position : ℕ) (lamps : Lamps) → length table ≡ 64 → length order ≡ 64
      → sound_members address own table order n position lamps ≡ true → GoodRows own table order n position lamps
  unfolding sound_members sound_rows
  members_good own table order n position lamps et eo p =
      let p₀ = and_split (sound_rows address table order n position) (same_lamps lamps (lamps_of address.same own (take n table))) p in
      let p₁ = and_split _ _ p₀.0 in
      let p₂ = and_split _ _ p₁.0 in
      let p₃ = and_split _ _ p₂.0 in
      let p₄ = and_split _ _ p₃.0 in
      let p₅ = and_split _ _ p₄.0 in
      let p₆ = and_split _ _ p₅.0 in
      let few : n ≤ 64 = leb-true _ _ p₆.0 in
      let lt : length (take n table) ≡ n = length-take-le n table (omega arith) in
      let lo : length (take n order) ≡ n = length-take-le n order (omega arith) in
      record {
        whole =
            record {
              once = distinct_once address.same lawful.test (addrs (take n table)) p₆.1;
              counts = permutes-counts address.same lawful.test (take n order) (addrs (take n table)) p₅.1;
              long = omega arith;
              few = omega arith;
              place = omega (arith, positioned_le position n p₄.1);
            };
        valid = p₃.1;
        long = lt;
        table = pad_take (is_no_member address) (blank_member address) no_member 64 n table et few p₂.1;
        order = pad_take (λ (a : A). address.same a address.blank) address.blank (λ y e. lawful.test.same_eq y address.blank e) 64 n order eo few p₁.1;
        lamps = lamps_clause own table order n position lamps p;
      }

  -- the parts of a sound node
  parts-of : (s : Stored A) → sound address s ≡ true
      → (in_range s.settings ≡ true) × (address.valid s.own ≡ true) × (sound_members address s.own s.table s.order s.listed s.position s.lamps ≡ true)
      × (sound_heap address kind.Alive s.alive ≡ true) × (sound_heap address kind.Deceased s.deceased ≡ true) × (sound_timers address s.timers ≡ true)
      × (sound_departed address s.departed ≡ true)
  unfolding sound
  parts-of s p =
      let p₁ = and_split _ _ p in
      let p₂ = and_split _ _ p₁.0 in
      let p₃ = and_split _ _ p₂.0 in
      let p₄ = and_split _ _ p₃.0 in
      let p₅ = and_split _ _ p₄.0 in
      let p₆ = and_split _ _ p₅.0 in
      (p₆.0, p₆.1, p₅.1, p₄.1, p₃.1, p₂.1, p₁.1)

  -- and so are those of a sound node, whatever its rows
  pub sound_lamps : (s : Stored A) → sound address s ≡ true → s.lamps ≡ lamps_of address.same s.own (loaded s).members.table
  unfolding loaded
  sound_lamps s p = lamps_clause s.own s.table s.order s.listed s.position s.lamps (parts-of s p).2

  pub sound_good : (s : Stored A) → FullRows s → sound address s ≡ true → Good address (loaded s)
  unfolding loaded
  sound_good s f p =
      let q = parts-of s p in
      let m = members_good s.own s.table s.order s.listed s.position s.lamps f.table f.order q.2 in
      let t = timers_good s.timers f.timers q.5 in
      record {
        settings = q.0;
        own = q.1;
        whole = m.whole;
        valid = m.valid;
        heaps = λ k.
            elim k as (λ j. GoodHeap address j (heap_of j (record { alive = used_places s.alive; deceased = used_places s.deceased }))) [
              | kind.Alive ↦ (heap_good address kind.Alive s.alive f.alive q.3).0
              | kind.Deceased ↦ (heap_good address kind.Deceased s.deceased f.deceased q.4).0
            ];
        few = t.0;
        timers = t.1;
        departed = (departed_good s.departed f.departed q.6).0;
      }

  -- and they are the rows of that node
  pub stored_loaded : (s : Stored A) → FullRows s → sound address s ≡ true → stored address (loaded s) ≡ s
  unfolding loaded stored
  stored_loaded s f p =
      let q = parts-of s p in
      let m = members_good s.own s.table s.order s.listed s.position s.lamps f.table f.order q.2 in
      let t = timers_good s.timers f.timers q.5 in
      let a = heap_good address kind.Alive s.alive f.alive q.3 in
      let d = heap_good address kind.Deceased s.deceased f.deceased q.4 in
      let e = departed_good s.departed f.departed q.6 in
      λ i. record {
        settings = s.settings;
        own = s.own;
        table = sym m.table i;
        order = sym m.order i;
        listed = m.long i;
        position = s.position;
        lamps = sym m.lamps i;
        alive = record { places = sym a.2 i; used = a.1 i };
        deceased = record { places = sym d.2 i; used = d.1 i };
        timers = record { places = sym t.3 i; used = t.2 i };
        departed = record { places = sym e.2 i; used = e.1 i };
      }
