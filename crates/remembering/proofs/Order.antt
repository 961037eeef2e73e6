-- What the fold of removals comes to, said without it: who is in the row, and in which order, by the addresses of the removals alone. Each address stands where it was removed last, and of
-- those the newest 128 are the row.
-- Assumes nothing.
use Rattle.std.specs.Prelude.{◌≡◌, Bool, ℕ, suc, ◌+◌, ◌-◌, ◌≤◌, drop}
use Rattle.std.proofs.Math.Path.{refl, ap, sym}
use Rattle.std.proofs.Common.{◌∙◌, arith, leb-true}
use Rattle.std.proofs.Math.Bool.{true, false}
use mathlib.Core.List.{List, [], ◌∷◌, ◌++◌, append-nil, append_assoc}
use Rattle.std.proofs.Math.ListN.{length, length-append, length-map}
use Rattle.std.proofs.Math.Dec.{leb}
use Rattle.model.specs.Rows.{one, pick, has, erase, occurs, Test}
use Rattle.model.specs.Words.{Departed}
use Rattle.model.specs.Departed.{gone, greatest, make_room, look_up, without, depart}
use Rattle.laws.specs.Counts.{has_le}
use Rattle.laws_list.specs.Departing.{without-addrs, gone-append, depart_once, depart_few}
use Rattle.laws_list.specs.Held.{has-append}
use Rattle.remembering.specs.Removals.{row_by}
use Rattle.remembering.specs.Order.{lasts, newest}

module _ {A : Type 0} (same : A → A → Bool) (test : Test same) where
  abbrev Single : List A → Type 0
  Single l = (b : A) → occurs same b l ≤ 1

  has_in : (z x : A) (l m : List A) → same z x ≡ true → has same z (l ++ (x ∷ m)) ≡ true
  has_in z x [] m e = ap (λ (u : Bool). pick u true (has same z m)) e
  has_in z x (w ∷ l) m e = elim (same z w) as (λ u. pick u true (has same z (l ++ (x ∷ m))) ≡ true) [ true ↦ refl | false ↦ has_in z x l m e ]

  has_erased : (z x : A) (l m : List A) → has same z (erase same x l ++ (x ∷ m)) ≡ has same z (l ++ (x ∷ m))
  has_erased z x [] m = refl
  has_erased z x (w ∷ l) m =
      (elim (same x w) as (λ u. same x w ≡ u → has same z (pick u l (w ∷ erase same x l) ++ (x ∷ m)) ≡ pick (same z w) true (has same z (l ++ (x ∷ m)))) [
        | true ↦ λ e.
            (elim (same z w) as (λ v. same z w ≡ v → has same z (l ++ (x ∷ m)) ≡ pick v true (has same z (l ++ (x ∷ m)))) [
              | true ↦ λ q. has_in z x l m (ap (same z) (test.same_eq x w e) ∙ q)
              | false ↦ λ q. refl
            ]) refl
        | false ↦ λ e. ap (pick (same z w) true) (has_erased z x l m)
      ]) refl

  -- an earlier place of an address that comes again is no place
  erased : (x : A) (l m : List A) → lasts same (erase same x l ++ (x ∷ m)) ≡ lasts same (l ++ (x ∷ m))
  erased x [] m = refl
  erased x (z ∷ l) m =
      (elim (same x z) as (λ u. same x z ≡ u → lasts same (pick u l (z ∷ erase same x l) ++ (x ∷ m)) ≡ lasts same (z ∷ (l ++ (x ∷ m)))) [
        | true ↦ λ e.
            let h : has same z (l ++ (x ∷ m)) ≡ true = has_in z x l m (ap (same z) (test.same_eq x z e) ∙ test.same_refl z) in
            sym (ap (λ (u : Bool). pick u (lasts same (l ++ (x ∷ m))) (z ∷ lasts same (l ++ (x ∷ m)))) h)
        | false ↦ λ e.
            ap (λ (u : Bool). pick u (lasts same (erase same x l ++ (x ∷ m))) (z ∷ lasts same (erase same x l ++ (x ∷ m)))) (has_erased z x l m)
            ∙ ap (λ (k : List A). pick (has same z (l ++ (x ∷ m))) k (z ∷ k)) (erased x l m)
      ]) refl

  new-last : (y : A) (l : List A) → has same y l ≡ false → length (lasts same (l ++ (y ∷ []))) ≡ suc (length (lasts same l))
  new-last y [] e = refl
  new-last y (z ∷ l) e =
      (elim (same y z) as (λ u. same y z ≡ u → pick u true (has same y l) ≡ false → length (lasts same (z ∷ (l ++ (y ∷ [])))) ≡ suc (length (lasts same (z ∷ l)))) [
        | true ↦ λ q h. absurd (omega (arith, ap one h))
        | false ↦ λ q h.
            let other : same z y ≡ false = flip z q in
            let there : has same z (l ++ (y ∷ [])) ≡ has same z l = has-append same z y l ∙ ap (pick (has same z l) true) other ∙ whole (has same z l) in
            ap (λ (u : Bool). length (pick u (lasts same (l ++ (y ∷ []))) (z ∷ lasts same (l ++ (y ∷ []))))) there
            ∙ (elim (has same z l) as (λ v. length (pick v (lasts same (l ++ (y ∷ []))) (z ∷ lasts same (l ++ (y ∷ [])))) ≡ suc (length (pick v (lasts same l) (z ∷ lasts same l)))) [
              | true ↦ new-last y l h
              | false ↦ ap suc (new-last y l h)
            ])
      ]) refl e
    where
      whole : (u : Bool) → pick u true false ≡ u
      whole true = refl
      whole false = refl

      flip : (z : A) → same y z ≡ false → same z y ≡ false
      flip z q =
          (elim (same z y) as (λ w. same z y ≡ w → w ≡ false) [
            | true ↦ λ h. absurd (omega (arith, ap one (sym q ∙ ap (same y) (test.same_eq z y h) ∙ test.same_refl y)))
            | false ↦ λ h. refl
          ]) refl

  one_more : (y : A) (l : List A) → length (lasts same l) ≤ length (lasts same (l ++ (y ∷ [])))
  one_more y [] = omega arith
  one_more y (z ∷ l) =
      (elim (has same z l) as (λ v. has same z l ≡ v → length (pick v (lasts same l) (z ∷ lasts same l)) ≤ length (lasts same (z ∷ (l ++ (y ∷ []))))) [
        | true ↦ λ h.
            let t : has same z (l ++ (y ∷ [])) ≡ true = has-append same z y l ∙ ap (λ (u : Bool). pick u true (same z y)) h in
            rw t (one_more y l)
        | false ↦ λ h.
            (elim (same z y) as (λ u. same z y ≡ u → suc (length (lasts same l)) ≤ length (lasts same (z ∷ (l ++ (y ∷ []))))) [
              | true ↦ λ q.
                  let t : has same z (l ++ (y ∷ [])) ≡ true = has_in z y l [] q in
                  let n : has same y l ≡ false = ap (λ (x : A). has same x l) (sym (test.same_eq z y q)) ∙ h in
                  rw t (omega (arith, new-last y l n))
              | false ↦ λ q.
                  let t : has same z (l ++ (y ∷ [])) ≡ false = has-append same z y l ∙ ap (λ (u : Bool). pick u true (same z y)) h ∙ q in
                  rw t (omega (arith, one_more y l))
            ]) refl
      ]) refl

  more : (l m : List A) → length (lasts same l) ≤ length (lasts same (l ++ m))
  more l [] = rw (append-nil l) (omega arith)
  more l (y ∷ m) = omega (arith, one_more y l, more (l ++ (y ∷ [])) m, ap (λ (k : List A). length (lasts same k)) (append_assoc l (y ∷ []) m))

  lasts_single : (l : List A) → Single l → lasts same l ≡ l
  lasts_single [] o = refl
  lasts_single (x ∷ l) o =
      let h : has same x l ≡ false =
      (elim (has same x l) as (λ u. one u ≤ occurs same x l → u ≡ false) [
        | true ↦ λ q. absurd (omega (arith, o x, ap one (test.same_refl x)))
        | false ↦ λ q. refl
      ]) (has_le same x l) in
      ap (λ (u : Bool). pick u (lasts same l) (x ∷ lasts same l)) h ∙ ap (λ (k : List A). x ∷ k) (lasts_single l (λ b. omega (arith, o b)))

  newest_all : (k : ℕ) (l : List A) → length l ≤ k → newest k l ≡ l
  newest_all k l h = let z : length l - k ≡ 0 = omega arith in ap (λ (n : ℕ). drop n l) z

  newest-rest : (k : ℕ) (x : A) (l : List A) → k ≤ length l → newest k (x ∷ l) ≡ newest k l
  newest-rest k x l h = let z : suc (length l) - k ≡ suc (length l - k) = omega arith in ap (λ (n : ℕ). drop n (x ∷ l)) z

  -- the first of a full row is none of the newest 128 once another comes
  room : (x : A) (q : List (Departed A)) (m : List A) → Single (gone (make_room q) ++ (x ∷ [])) → newest 128 (lasts same (gone (make_room q) ++ (x ∷ m))) ≡ newest 128 (lasts same (gone q ++ (x ∷ m)))
  unfolding make_room
  room x q m o =
      (elim (leb 128 (length q)) as (λ u. leb 128 (length q) ≡ u → Single (gone (pick u (drop 1 q) q) ++ (x ∷ [])) → newest 128 (lasts same (gone (pick u (drop 1 q) q) ++ (x ∷ m))) ≡ newest 128 (lasts same (gone q ++ (x ∷ m)))) [
        | true ↦ λ e p. first q (leb-true 128 (length q) e) p
        | false ↦ λ e p. refl
      ]) refl o
    where
      first : (q : List (Departed A)) → 128 ≤ length q → Single (gone (drop 1 q) ++ (x ∷ [])) → newest 128 (lasts same (gone (drop 1 q) ++ (x ∷ m))) ≡ newest 128 (lasts same (gone q ++ (x ∷ m)))
      first [] h p = absurd (omega arith)
      first (d ∷ q) h p =
          let k = gone q ++ (x ∷ []) in
          let l = gone q ++ (x ∷ m) in
          let long : 128 ≤ length (lasts same l) =
          omega (arith, h, length-append (gone q) (x ∷ []), length-map q (λ (y : Departed A). y.addr), ap length (lasts_single k p), more k m, ap (λ (j : List A). length (lasts same j)) (append_assoc (gone q) (x ∷ []) m)) in
          elim (has same d.addr l) as (λ u. newest 128 (lasts same l) ≡ newest 128 (pick u (lasts same l) (d.addr ∷ lasts same l))) [
            | true ↦ refl
            | false ↦ sym (newest-rest 128 d.addr (lasts same l) long)
          ]

  abbrev Once : List (Departed A) → Type 0
  Once r = Single (gone r)

  one-removal : (a : A) (n : ℕ) (r : List (Departed A)) (m : List A) → Once r → newest 128 (lasts same (gone (depart same a n r) ++ m)) ≡ newest 128 (lasts same (gone r ++ (a ∷ m)))
  unfolding depart
  one-removal a n r m o =
      let q = without same a r in
      let d : Departed A = record { addr = a; number = greatest (look_up same a r) n } in
      let g : gone (make_room q ++ (d ∷ [])) ≡ gone (make_room q) ++ (a ∷ []) = gone-append (make_room q) (d ∷ []) in
      ap (λ (l : List A). newest 128 (lasts same (l ++ m))) g
      ∙ ap (λ (l : List A). newest 128 (lasts same l)) (append_assoc (gone (make_room q)) (a ∷ []) m)
      ∙ room a q m (λ b. omega (arith, ap (occurs same b) g, depart_once same test a n r o b))
      ∙ ap (λ (l : List A). newest 128 (lasts same (l ++ (a ∷ m)))) (without-addrs same a r)
      ∙ ap (newest 128) (erased a (gone r) m)

  ordered_from : (xs r : List (Departed A)) → Once r → length r ≤ 128 → gone (row_by same xs r) ≡ newest 128 (lasts same (gone r ++ gone xs))
  ordered_from [] r o h =
      sym (ap (λ (l : List A). newest 128 (lasts same l)) (append-nil (gone r)) ∙ ap (newest 128) (lasts_single (gone r) o) ∙ newest_all 128 (gone r) (omega (arith, length-map r (λ (y : Departed A). y.addr))))
  ordered_from (x ∷ xs) r o h =
      ordered_from xs (depart same x.addr x.number r) (depart_once same test x.addr x.number r o) (depart_few same x.addr x.number r h)
      ∙ one-removal x.addr x.number r (gone xs) o

  -- "the oldest last removal first", "when full the first makes room": of any removals
  pub ordered : (xs : List (Departed A)) → gone (row_by same xs []) ≡ newest 128 (lasts same (gone xs))
  ordered xs = ordered_from xs [] (λ b. omega arith) (omega arith)
