-- A whole ring: its order is its listed addresses, each once, and its position is a place of it. Each operation keeps a ring whole.
-- Assumes nothing.
use Rattle.std.specs.Prelude.{◌≢◌, ◌≡◌, refl, Bool, true, false, eqb}
use Rattle.std.proofs.Math.Path.{ap, sym}
use Rattle.std.proofs.Common.{◌∙◌, not-suc-le-zero, zero-lt-suc}
use mathlib.Core.List.{List, [], ◌∷◌, ◌++◌}
use Prim.Native.Nat.{ℕ, zero, suc, ◌+◌, ◌-◌, ◌%◌, ◌≤◌, ◌<◌}
use native.Mathlib.Omega.{arith}
use Rattle.std.proofs.Math.Nat.{mod-lt}
use Rattle.std.proofs.Math.ListN.{length, length-set, length-append}
use Rattle.std.proofs.lemmas.List.{length-map}
use Rattle.std.proofs.lemmas.Bool.{eqb-false}
use Rattle.model.specs.Rows.{one, pick, swap, occurs, has, erase, Test}
use Rattle.model.specs.declared.State.TheVariants.{Alive}
use Rattle.laws.specs.After.{After, halts, gives, after_map, after-when, after_then}
use Rattle.model.specs.Words.{Member}
use Rattle.model.specs.Members.{Members, addrs, shuffle_from, shuffle, strike, put, merged, listed, added, remove, update, advance, position_after}
use Rattle.laws.specs.Pad.{length-insert_at}
use Rattle.laws.specs.Counts.{occurs-append, occurs-insert_at, occurs-swap, occurs-erase, has_le, has-none}

module _ {A : Type 0} (same : A → A → Bool) where
  pub record Alike (l m : List A) : Type 0 where
    pub counts : (a : A) → occurs same a m ≡ occurs same a l
    pub long : length m ≡ length l

  length-swap : (d : A) (l : List A) (i j : ℕ) → length (swap d l i j) ≡ length l
  unfolding swap
  length-swap d l i j = simp length-set

  pub shuffle-alike : (blank : A) (i : ℕ) (l : List A) (ds : List ℕ) → i ≤ length l - 1 → After (Alike l) (shuffle_from blank i l ds)
  shuffle-alike blank zero l ds h = gives (record { counts = λ a. refl; long = refl })
  shuffle-alike blank (suc i) l [] h = halts
  shuffle-alike blank (suc i) l (d ∷ ds) h =
      let j : ℕ = d % suc (suc i) in
      after_map
      (λ m k. record {
        counts = λ a. k.counts a ∙ occurs-swap same a blank l (suc i) j (omega arith) (omega (arith, mod-lt d (zero-lt-suc (suc i))));
        long = k.long ∙ length-swap blank l (suc i) j;
      })
      (shuffle-alike blank i (swap blank l (suc i) j) ds (omega (arith, length-swap blank l (suc i) j)))

  pub record Whole (r : Members A) : Type 0 where
    pub once : (a : A) → occurs same a (addrs r.table) ≤ 1
    pub counts : (a : A) → occurs same a r.order ≡ occurs same a (addrs r.table)
    pub long : length r.order ≡ length r.table
    pub few : length r.table ≤ 64
    pub place : r.position ≤ length r.order - 1

  pub addrs-append : (t u : List (Member A)) → addrs (t ++ u) ≡ addrs t ++ addrs u
  addrs-append [] u = refl
  addrs-append (m ∷ t) u = ap (λ (l : List A). m.addr ∷ l) (addrs-append t u)

  module _ (test : Test same) where
    -- what is not there is not there under an equal name
    absent : (a b : A) (l : List A) → has same a l ≡ false → same b a ≡ true → occurs same b l ≡ 0
    absent a b l e q = rw (test.same_eq b a q) (has-none same a l e)

    once_more : (a b : A) (l : List A) → has same a l ≡ false → occurs same b l ≤ 1 → occurs same b l + one (same b a) ≤ 1
    once_more a b l e h =
        (elim (same b a) as (λ u. same b a ≡ u → occurs same b l + one u ≤ 1) [
          | true ↦ λ q. omega (arith, absent a b l e q)
          | false ↦ λ q. omega arith
        ]) refl

    pub count-added : (b : A) (t : List (Member A)) (m : Member A) → occurs same b (addrs (t ++ (m ∷ []))) ≡ occurs same b (addrs t) + one (same b m.addr)
    count-added b t m = rw (addrs-append t (m ∷ [])) (omega (arith, occurs-append same b (addrs t) (m.addr ∷ [])))

    pub added-whole : (a : A) (n d : ℕ) (r : Members A) → Whole r → listed same a r.table ≡ false → length r.table < 64 → Whole (added same a n d r)
    unfolding added
    added-whole a n d r w e h =
        let m : Member A = record { addr = a; state = Alive; number = n } in
        let i : ℕ = d % suc (length r.order) in
        record {
          once = λ b. omega (arith, count-added b r.table m, once_more a b (addrs r.table) e (w.once b));
          counts = λ b. omega (arith, count-added b r.table m, occurs-insert_at same b r.order i a, w.counts b);
          long = omega (arith, length-insert_at r.order i a, length-append r.table (m ∷ []), w.long);
          few = omega (arith, length-append r.table (m ∷ []));
          place = omega (arith, length-insert_at r.order i a, w.place);
        }

    pub strike-addrs : (a : A) (t : List (Member A)) → addrs (strike same a t) ≡ erase same a (addrs t)
    strike-addrs a [] = refl
    strike-addrs a (m ∷ t) =
        elim (same a m.addr) as (λ u. addrs (pick u t (m ∷ strike same a t)) ≡ pick u (addrs t) (m.addr ∷ erase same a (addrs t))) [
          | true ↦ refl
          | false ↦ ap (λ (l : List A). m.addr ∷ l) (strike-addrs a t)
        ]

    pub put-addrs : (m : Member A) (t : List (Member A)) → addrs (put same m t) ≡ addrs t
    put-addrs m [] = refl
    put-addrs m (k ∷ t) =
        (elim (same m.addr k.addr) as (λ u. same m.addr k.addr ≡ u → addrs (pick u (m ∷ t) (k ∷ put same m t)) ≡ k.addr ∷ addrs t) [
          | true ↦ λ e. ap (λ (x : A). x ∷ addrs t) (test.same_eq m.addr k.addr e)
          | false ↦ λ e. ap (λ (l : List A). k.addr ∷ l) (put-addrs m t)
        ]) refl

    pub length-erase : (a : A) (l : List A) → 0 < occurs same a l → suc (length (erase same a l)) ≡ length l
    length-erase a [] h = absurd (not-suc-le-zero h)
    length-erase a (x ∷ l) h =
        (elim (same a x) as (λ u. 0 < one u + occurs same a l → suc (length (pick u l (x ∷ erase same a l))) ≡ suc (length l)) [
          | true ↦ λ k. refl
          | false ↦ λ k. ap suc (length-erase a l (omega arith))
        ]) h

    length-addrs : (t : List (Member A)) → length (addrs t) ≡ length t
    length-addrs t = length-map t (λ m. m.addr)

    place_after : (p n : ℕ) → p ≤ n → position_after same p n ≤ n - 1
    place_after p n h =
        (elim (eqb p n) as (λ u. eqb p n ≡ u → pick u (n - 1) p ≤ n - 1) [
          | true ↦ λ e. omega arith
          | false ↦ λ e. omega (arith, ne p n (eqb-false p n e))
        ]) refl
      where
        ne : (x y : ℕ) → (x ≡ y → ⊥) → x ≢ y
        ne x y f = f

    pub remove-whole : (a : A) (r : Members A) → Whole r → listed same a r.table ≡ true → Whole (remove same a r)
    unfolding remove
    remove-whole a r w e =
        let t : List A = addrs r.table in
        let in-t : 0 < occurs same a t = omega (arith, has_le same a t, ap one e) in
        let in-o : 0 < occurs same a r.order = omega (arith, w.counts a) in
        let lt : suc (length (strike same a r.table)) ≡ length r.table =
        omega (arith, length-erase a t in-t, length-addrs r.table, length-addrs (strike same a r.table), ap length (strike-addrs a r.table)) in
        record {
          once = λ b. rw (strike-addrs a r.table) (omega (arith, occurs-erase same test a b t in-t, w.once b));
          counts = λ b. rw (strike-addrs a r.table) (omega (arith, occurs-erase same test a b t in-t, occurs-erase same test a b r.order in-o, w.counts b));
          long = omega (arith, length-erase a r.order in-o, lt, w.long);
          few = omega (arith, lt, w.few);
          place = place_after r.position (length (erase same a r.order)) (omega (arith, length-erase a r.order in-o, w.place));
        }

    pub update-whole : (m : Member A) (r : Members A) → Whole r → Whole (update same m r)
    unfolding update
    update-whole m r w =
        let k = merged same m r.table in
        record {
          once = λ b. rw (put-addrs k r.table) (w.once b);
          counts = λ b. rw (put-addrs k r.table) (w.counts b);
          long = w.long ∙ sym (put-length k r.table);
          few = omega (arith, put-length k r.table, w.few);
          place = w.place;
        }
      where
        put-length : (k : Member A) (t : List (Member A)) → length (put same k t) ≡ length t
        put-length k t = omega (arith, length-addrs t, length-addrs (put same k t), ap length (put-addrs k t))

  -- advancing needs a place to go to
  pub advance-whole : (blank : A) (r : Members A) (ds : List ℕ) → Whole r → 0 < length r.order → After Whole (advance blank r ds)
  unfolding advance shuffle
  advance-whole blank r ds w h =
      let next : ℕ = (r.position + 1) % length r.order in
      let below : next < length r.order = mod-lt (r.position + 1) h in
      after-when
      (λ e. after_then (shuffle-alike blank (length r.order - 1) r.order ds (omega arith))
      (λ o rest k. gives (record {
        once = w.once;
        counts = λ a. k.counts a ∙ w.counts a;
        long = k.long ∙ w.long;
        few = w.few;
        place = omega (arith, k.long);
      })))
      (λ e. gives (record { once = w.once; counts = w.counts; long = w.long; few = w.few; place = omega arith }))
