-- What a heap still owes: how often each of its entries is to be taken before it leaves. Each taking pays one, and a choosing takes one at least from an alive heap that holds any.
-- Assumes nothing.
use Rattle.std.specs.Prelude.{◌≡◌, ◌&&◌, ◌||◌, ltb}
use Rattle.std.proofs.Math.Path.{refl, subst}
use Rattle.std.proofs.Common.{ap, sym, suc-mul, mul-le-mul, le_trans, le_refl}
use Rattle.std.proofs.Math.Bool.{Bool, true, false}
use mathlib.Core.List.{List, [], ◌∷◌}
use Rattle.std.proofs.Math.Option.{Option, none, some}
use Prim.Native.Nat.{ℕ, zero, suc, ◌+◌, ◌-◌, ◌*◌, ◌/◌, ◌≤◌, ◌<◌, min, max}
use native.Mathlib.Omega.{arith}
use Rattle.std.proofs.Math.ListN.{length, length-append}
use Rattle.std.proofs.Math.Dec.{eqb, leb}
use borrow.Author.Tests.{eqb-true, ltb-true, ltb-false, le-ltb, leb-true, leb-false, lt-leb, le-leb}
use Rattle.model.specs.Rows.{one, pick, count, every}
use Rattle.model.specs.Words.{Address, Event, Nothing, Joined, Recovered, Suspected, Deceased, Entry, unused, sends_of, parts_of}
use Rattle.model.specs.Size.{varint_from, varint_length, size_of_number, size_over, size_of}
use Rattle.model.specs.Heap.{sink_top, remove_top}
use Rattle.model.specs.Choose.{Terms, Choice, Taken, was_noted, take_top, try_heap, try_alive, try_deceased, after_alive, after_deceased, over, rounds, begin, choose}
use Rattle.model.specs.declared.Kind.{Kind}
use Rattle.model.specs.Sound.{of_kind, valid_gossip, sound_entry}
use Rattle.laws.specs.Bools.{and_split, every_weaken}
use Rattle.laws_heap.specs.HeapLaws.{sink_top-count, sink_top-length, remove_top-count, remove_top-length}
use Rattle.laws_choose.specs.ChooseLaws.{Gave, rounds_keep, after-deceased}
use Rattle.supply.specs.Owed.{turns, owed, Pays, Spent, turn}

-- ---- sums over a list, by counts: two lists in which every test counts the same, but for one entry, have the same sum but for it
module _ {A : Type 0} (w : A → ℕ) where
  abbrev sum : List A → ℕ
  sum [] = 0
  sum (x ∷ l) = w x + sum l

  -- each summand cut off at j
  cut : ℕ → List A → ℕ
  cut j [] = 0
  cut j (x ∷ l) = min j (w x) + cut j l

  one_ltb : (j n : ℕ) → min (suc j) n ≡ min j n + one (ltb j n)
  one_ltb j n =
      (elim (ltb j n) as (λ u. ltb j n ≡ u → min (suc j) n ≡ min j n + one u) [
        | true ↦ λ e. omega (arith, ltb-true j n e)
        | false ↦ λ e. omega (arith, ltb-false j n e)
      ]) refl

  cut-more : (j : ℕ) (l : List A) → cut (suc j) l ≡ cut j l + count (λ x. ltb j (w x)) l
  unfolding cut count
  cut-more j [] = refl
  cut-more j (x ∷ l) = omega (arith, cut-more j l, one_ltb j (w x))

  cut-none : (l : List A) → cut 0 l ≡ 0
  unfolding cut
  cut-none [] = refl
  cut-none (x ∷ l) = omega (arith, cut-none l)

  cut_all : (j : ℕ) (l : List A) → ((x : A) → w x ≤ j) → cut j l ≡ sum l
  unfolding cut
  cut_all j [] h = refl
  cut_all j (x ∷ l) h = omega (arith, cut_all j l h, h x)

  -- an entry is traded for another
  module _ (x y : A) (l m : List A) (counts : (f : A → Bool) → count f m + one (f x) ≡ count f l + one (f y)) where
    cut_trade : (j : ℕ) → cut j m + min j (w x) ≡ cut j l + min j (w y)
    cut_trade zero = omega (arith, cut-none l, cut-none m)
    cut_trade (suc j) = omega (arith, cut_trade j, cut-more j l, cut-more j m, one_ltb j (w x), one_ltb j (w y), counts (λ z. ltb j (w z)))

    pub sum_trade : (j : ℕ) → ((z : A) → w z ≤ j) → sum m + w x ≡ sum l + w y
    sum_trade j h = omega (arith, cut_trade j, cut_all j l h, cut_all j m h, h x, h y)

  -- an entry goes
  module _ (x : A) (l m : List A) (counts : (f : A → Bool) → count f m + one (f x) ≡ count f l) where
    cut-go : (j : ℕ) → cut j m + min j (w x) ≡ cut j l
    cut-go zero = omega (arith, cut-none l, cut-none m)
    cut-go (suc j) = omega (arith, cut-go j, cut-more j l, cut-more j m, one_ltb j (w x), counts (λ z. ltb j (w z)))

    pub sum-go : (j : ℕ) → ((z : A) → w z ≤ j) → sum m + w x ≡ sum l
    sum-go j h = omega (arith, cut-go j, cut_all j l h, cut_all j m h, h x)

module _ {A : Type 0} where
  owed-sum : (limit : ℕ) (h : List (Entry A)) → owed limit h ≡ sum (turns limit) h
  owed-sum limit [] = refl
  owed-sum limit (e ∷ h) = omega (arith, owed-sum limit h)

  -- one at least for each entry, and no more than the limit
  pub owed-least : (limit : ℕ) (h : List (Entry A)) → length h ≤ owed limit h
  owed-least limit [] = omega arith
  owed-least limit (e ∷ h) = omega (arith, owed-least limit h)

  pub owed-most : (limit : ℕ) (h : List (Entry A)) → owed limit h ≤ length h * max 1 limit
  owed-most limit [] = omega arith
  owed-most limit (e ∷ h) =
      let more : suc (length h) * max 1 limit ≡ length h * max 1 limit + max 1 limit = suc-mul (length h) (max 1 limit) in
      let rest : owed limit h ≤ length h * max 1 limit = owed-most limit h in
      rw more (add_le_add_comm rest (omega arith))
    where
      add_le_add_comm : {a b c d : ℕ} → a ≤ b → c ≤ d → c + a ≤ b + d
      add_le_add_comm p q = omega arith

  -- with no more than 128 entries
  pub owed-full : (limit : ℕ) (h : List (Entry A)) → length h ≤ 128 → owed limit h ≤ 128 * max 1 limit
  owed-full limit h l = le_trans (owed-most limit h) (mul-le-mul l (le_refl (max 1 limit)))

  -- the sums of both kinds of taking
  sunk_sum : (limit : ℕ) (e : Entry A) (es : List (Entry A)) (e' : Entry A) → owed limit (sink_top unused sends_of (e ∷ es) e') + turns limit e ≡ owed limit (e ∷ es) + turns limit e'
  sunk_sum limit e es e' =
      let out = sink_top unused sends_of (e ∷ es) e' in
      let t = sum_trade (turns limit) e e' (e ∷ es) out (sink_top-count unused sends_of (e ∷ es) (omega arith) e') (suc limit) (λ z. omega arith) in
      omega (arith, t, owed-sum limit out, owed-sum limit (e ∷ es))

  gone-sum : (limit : ℕ) (e : Entry A) (es : List (Entry A)) → owed limit (remove_top unused sends_of (e ∷ es)) + turns limit e ≡ owed limit (e ∷ es)
  gone-sum limit e es =
      let out = remove_top unused sends_of (e ∷ es) in
      let t = sum-go (turns limit) e (e ∷ es) out (remove_top-count unused sends_of (e ∷ es) (omega arith)) (suc limit) (λ z. omega arith) in
      omega (arith, t, owed-sum limit out, owed-sum limit (e ∷ es))

module _ {A : Type 0} (address : Address A) where
  pub taking_pays : (t : Terms) (size : ℕ) (h : List (Entry A)) (k : Taken A) → Gave address t size h k → (Pays address) t h k
  unfolding take_top
  taking_pays t size h k v =
      let e = v.top in
      let es = v.rest in
      let p : 0 < length (e ∷ es) = omega arith in
      let e' : Entry A = record { gossip = e.gossip; sends = e.sends + 1; size = e.size } in
      rw (v.taken, v.is)
      ((elim (leb t.limit (e.sends + 1)) as (λ u. leb t.limit (e.sends + 1) ≡ u
      → (Pays address) t (e ∷ es) (record {
        heap = pick u (remove_top unused sends_of (e ∷ es)) (sink_top unused sends_of (e ∷ es) e');
        gossip = e.gossip;
        sends = e.sends + 1;
        size = e.size;
      })) [
        | true ↦ λ q. record {
          one_paid = omega (arith, gone-sum t.limit e es, leb-true t.limit (e.sends + 1) q);
          more_paid = λ most l. omega (arith, gone-sum most e es);
          none-added = λ limit. omega (arith, gone-sum limit e es);
          shorter = omega (arith, remove_top-length unused sends_of (e ∷ es) p);
        }
        | false ↦ λ q. record {
          one_paid = omega (arith, sunk_sum t.limit e es e', leb-false t.limit (e.sends + 1) q);
          more_paid = λ most l. omega (arith, sunk_sum most e es e', leb-false t.limit (e.sends + 1) q);
          none-added = λ limit. omega (arith, sunk_sum limit e es e');
          shorter = omega (arith, sink_top-length unused sends_of (e ∷ es) p e');
        }
      ]) refl)

  -- by any limit a choosing adds nothing, and by one no smaller than its own each record from the alive heap pays one at least
  pub choose_adds_none : (limit : ℕ) (t : Terms) (alive deceased : List (Entry A)) → owed limit (choose address t alive deceased).alive ≤ owed limit alive
  unfolding choose
  choose_adds_none limit t alive deceased =
      rounds_keep address t (λ c. owed limit c.alive ≤ owed limit alive)
      (λ c k p v. omega (arith, (taking_pays t c.size c.alive k v).none-added limit))
      (λ c k p v. p)
      64 (begin address alive deceased) (omega arith)

  pub choose_pays_more : (most : ℕ) (t : Terms) (alive deceased : List (Entry A)) → t.limit ≤ most
      → owed most (choose address t alive deceased).alive + (choose address t alive deceased).from-alive ≤ owed most alive
  unfolding choose
  choose_pays_more most t alive deceased l =
      rounds_keep address t (λ c. owed most c.alive + c.from-alive ≤ owed most alive)
      (λ c k p v. omega (arith, (taking_pays t c.size c.alive k v).more_paid most l))
      (λ c k p v. p)
      64 (begin address alive deceased) (omega arith)

  -- every record that a choosing takes is a send of the heap that it came from
  pub choose_spends : (t : Terms) (alive deceased : List (Entry A)) → (Spent address) t.limit alive deceased (choose address t alive deceased)
  unfolding choose
  choose_spends t alive deceased =
      rounds_keep address t ((Spent address) t.limit alive deceased)
      (λ c k p v.
      let q = taking_pays t c.size c.alive k v in
      record {
        from-alive = omega (arith, q.one_paid, p.from-alive);
        from-deceased = p.from-deceased;
        all = omega (arith, length-append c.chosen (k.gossip ∷ []), p.all);
        alive-less = omega (arith, q.shorter, p.alive-less);
        deceased-less = p.deceased-less;
      })
      (λ c k p v.
      let q = taking_pays t c.size c.deceased k v in
      record {
        from-alive = p.from-alive;
        from-deceased = omega (arith, q.one_paid, p.from-deceased);
        all = omega (arith, length-append c.chosen (k.gossip ∷ []), p.all);
        alive-less = p.alive-less;
        deceased-less = omega (arith, q.shorter, p.deceased-less);
      })
      64 (begin address alive deceased)
      (record { from-alive = omega arith; from-deceased = omega arith; all = refl; alive-less = omega arith; deceased-less = omega arith })

  -- ---- the first one of the alive heap is taken
  pays_on : (t : Terms) (f : ℕ) (c : Choice A) → 1 ≤ c.from-alive → 1 ≤ (rounds address f t c).from-alive
  pays_on t f c h = rounds_keep address t (λ x. 1 ≤ x.from-alive) (λ x k p v. omega arith) (λ x k p v. p) f c h

  turn_on : (t : Terms) (f : ℕ) (c : Choice A) (k : Taken A) → over address t c ≡ false → try_alive address t c ≡ some k → 1 ≤ (rounds address (suc f) t c).from-alive
  unfolding rounds
  turn_on t f c k o a =
      let c₁ = after_alive address c (some k) in
      let b = try_deceased address t c₁ in
      subst (λ (u : Bool). 1 ≤ ((turn address) t f c u (try_alive address t c)).from-alive) (sym o)
      (subst (λ (x : Option (Taken A)). 1 ≤ ((turn address) t f c false x).from-alive) (sym a)
      (pays_on t f (after_deceased address c₁ b)
      (after-deceased address t (λ x. 1 ≤ x.from-alive) (λ x j p v. omega arith) (λ x j p v. p) c₁ b refl (omega arith))))

  first_taken : (t : Terms) (f : ℕ) (e : Entry A) (es deceased : List (Entry A)) → e.size ≤ t.max_size → 1 ≤ t.alive_share
      → 1 ≤ (rounds address (suc f) t (begin address (e ∷ es) deceased)).from-alive
  unfolding over try_alive try_heap was_noted
  first_taken t f e es deceased h k =
      turn_on t f (begin address (e ∷ es) deceased) (take_top address t.limit e (e ∷ es))
      (ap (λ (u : Bool). u && leb t.deceased_share 0) (lt-leb t.alive_share 0 (omega arith)))
      (ap (λ (u : Bool). pick (u || false) none (some (take_top address t.limit e (e ∷ es)))) (le-ltb t.max_size (0 + e.size) (omega arith)))

  -- an alive heap that holds any gives one, where its top fits and the alive have a share
  pub choose_takes : (t : Terms) (alive deceased : List (Entry A)) → every (λ (e : Entry A). leb e.size t.max_size) alive ≡ true → 1 ≤ t.alive_share → 0 < length alive
      → 1 ≤ (choose address t alive deceased).from-alive
  unfolding choose
  choose_takes t [] deceased h k l = absurd (omega arith)
  choose_takes t (e ∷ es) deceased h k l =
      first_taken t 63 e es deceased (leb-true e.size t.max_size (and_split (leb e.size t.max_size) (every (λ (x : Entry A). leb x.size t.max_size) es) h).0) k

  -- ---- sizes
  varint_from-most : (f n : ℕ) → varint_from f n ≤ suc f
  unfolding varint_from
  varint_from-most zero n = omega arith
  varint_from-most (suc f) n =
      elim (ltb n 128) as (λ u. elim u [ true ↦ 1 | false ↦ suc (varint_from f (n / 128)) ] ≤ suc (suc f)) [
        | true ↦ omega arith
        | false ↦ omega (arith, varint_from-most f (n / 128))
      ]

  number_size-most : (n : ℕ) → size_of_number n ≤ 11
  unfolding size_of_number varint_length
  number_size-most n =
      elim (eqb n 0) as (λ u. pick u 0 (1 + varint_from 9 n) ≤ 11) [
        | true ↦ omega arith
        | false ↦ omega (arith, varint_from-most 9 n)
      ]

  size_over-most : (f s n : ℕ) → f ≤ 47 → s ≤ 47 → size_over f s n ≤ 111
  unfolding size_over
  size_over-most f s n h k = omega (arith, number_size-most n)

  -- ---- a sound entry is small: no text of an address in range has more than 47 characters
  module _ (texts : (a : A) → address.valid a ≡ true → address.chars a ≤ 47) where
    size_most : (f s : A) (n : ℕ) → (address.valid f && address.valid s) ≡ true → size_over (address.chars f) (address.chars s) n ≤ 111
    size_most f s n h =
        let p = and_split (address.valid f) (address.valid s) h in
        size_over-most (address.chars f) (address.chars s) n (texts f p.0) (texts s p.1)

    event-most : (e : Event A) → valid_gossip address (record { event = e }) ≡ true → size_of address (record { event = e }) ≤ 111
    unfolding size_of valid_gossip parts_of
    event-most Nothing h = omega arith
    event-most (Joined f s n) h = size_most f s n h
    event-most (Recovered f s n) h = size_most f s n h
    event-most (Suspected f s n) h = size_most f s n h
    event-most (Deceased f s n) h = size_most f s n h

    entry-most : (k : Kind) (e : Entry A) → sound_entry address k e ≡ true → e.size ≤ 111
    unfolding sound_entry
    entry-most k e h =
        let kind : Bool = of_kind k (parts_of address e.gossip.event).kind in
        let p = and_split (kind && eqb e.size (size_of address e.gossip) && leb e.sends 22) (valid_gossip address e.gossip) h in
        let q = and_split (kind && eqb e.size (size_of address e.gossip)) (leb e.sends 22) p.0 in
        let r = and_split kind (eqb e.size (size_of address e.gossip)) q.0 in
        omega (arith, eqb-true e.size (size_of address e.gossip) r.1, event-most e.gossip.event p.1)

    pub entries_fit : (k : Kind) (most : ℕ) (h : List (Entry A)) → 111 ≤ most → every (sound_entry address k) h ≡ true → every (λ (e : Entry A). leb e.size most) h ≡ true
    entries_fit k most h l s = every_weaken (sound_entry address k) (λ (e : Entry A). leb e.size most) (λ e q. le-leb e.size most (omega (arith, entry-most k e q))) h s
