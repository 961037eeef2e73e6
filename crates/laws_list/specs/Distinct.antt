-- The tests of a sound node on list and order say what `Whole` says: in both directions.
-- Assumes nothing.
use Rattle.std.specs.Prelude.{◌≡◌, refl, Bool, true, false, not, ◌&&◌, List, [], ◌∷◌, suc, ◌+◌, ◌≤◌, ◌<◌, length}
use Rattle.std.proofs.Common.{ap, sym, ◌∙◌, arith}
use Rattle.std.proofs.lemmas.Bool.{not-true}
use Rattle.model.specs.Rows.{one, pick, has, occurs, erase, Test}
use Rattle.model.specs.Sound.{distinct, permutes}
use Rattle.laws.specs.Bools.{and_split}
use Rattle.laws.specs.Counts.{occurs-erase, has_le, has-none}
use Rattle.laws_list.specs.Whole.{length-erase}

module _ {A : Type 0} (same : A → A → Bool) where
  -- what the code can ask instead: each of o stands in t
  abbrev pub all_in : List A → List A → Bool
  all_in [] t = true
  all_in (x ∷ o) t = has same x t && all_in o t

module _ {A : Type 0} (same : A → A → Bool) (test : Test same) where
  pub distinct_once : (l : List A) → distinct same l ≡ true → (a : A) → occurs same a l ≤ 1
  distinct_once [] e a = omega arith
  distinct_once (x ∷ l) e a =
      let p = and_split (not (has same x l)) (distinct same l) e in
      (elim (same a x) as (λ u. same a x ≡ u → one u + occurs same a l ≤ 1) [
        | true ↦ λ q. let z : occurs same a l ≡ 0 = rw (test.same_eq a x q) (has-none same x l (not-true (has same x l) p.0)) in omega arith
        | false ↦ λ q. omega (arith, distinct_once l p.1 a)
      ]) refl

  pub once_distinct : (l : List A) → ((a : A) → occurs same a l ≤ 1) → distinct same l ≡ true
  once_distinct [] h = refl
  once_distinct (x ∷ l) h =
      let n : has same x l ≡ false =
      (elim (has same x l) as (λ u. one u ≤ occurs same x l → u ≡ false) [
        | true ↦ λ q. absurd (omega (arith, h x, ap one (test.same_refl x)))
        | false ↦ λ q. refl
      ]) (has_le same x l) in
      rw n (once_distinct l (λ a. omega (arith, h a)))

  pub permutes-counts : (o t : List A) → permutes same o t ≡ true → (a : A) → occurs same a o ≡ occurs same a t
  permutes-counts [] [] e a = refl
  permutes-counts [] (y ∷ t) e a = cc
  permutes-counts (x ∷ o) t e a =
      let p = and_split (has same x t) (permutes same o (erase same x t)) e in
      omega (arith, permutes-counts o (erase same x t) p.1 a, occurs-erase same test x a t (omega (arith, has_le same x t, ap one p.0)))

  pub counts-permutes : (o t : List A) → ((a : A) → occurs same a o ≡ occurs same a t) → permutes same o t ≡ true
  counts-permutes [] [] h = refl
  counts-permutes [] (y ∷ t) h = absurd (omega (arith, h y, ap one (test.same_refl y)))
  counts-permutes (x ∷ o) t h =
      let i : 0 < occurs same x t = omega (arith, h x, ap one (test.same_refl x)) in
      let e : has same x t ≡ true =
      (elim (has same x t) as (λ u. has same x t ≡ u → u ≡ true) [
        | true ↦ λ q. refl
        | false ↦ λ q. absurd (omega (arith, has-none same x t q))
      ]) refl in
      rw e (counts-permutes o (erase same x t) (λ a. omega (arith, h a, occurs-erase same test x a t i)))

  -- what differs from x is not lost with x
  has_other : (x y : A) (t : List A) → same y x ≡ false → has same y t ≡ true → has same y (erase same x t) ≡ true
  has_other x y [] q e = e
  has_other x y (z ∷ t) q e =
      (elim (same x z) as (λ u. same x z ≡ u → has same y (pick u t (z ∷ erase same x t)) ≡ true) [
        | true ↦ λ r. let n : same y z ≡ false = ap (same y) (sym (test.same_eq x z r)) ∙ q in rw n at e
        | false ↦ λ r.
            (elim (same y z) as (λ u. pick u true (has same y t) ≡ true → pick u true (has same y (erase same x t)) ≡ true) [
              | true ↦ λ _. refl
              | false ↦ λ h. has_other x y t q h
            ]) e
      ]) refl

  all_erase : (x : A) (o t : List A) → has same x o ≡ false → all_in same o t ≡ true → all_in same o (erase same x t) ≡ true
  all_erase x [] t n e = refl
  all_erase x (y ∷ o) t n e =
      let p = and_split (has same y t) (all_in same o t) e in
      let d : (same x y ≡ false) × (has same x o ≡ false) =
      (elim (same x y) as (λ u. pick u true (has same x o) ≡ false → (u ≡ false) × (has same x o ≡ false)) [
        | true ↦ λ h. (cc, cc)
        | false ↦ λ h. (refl, h)
      ]) n in
      rw (has_other x y t (flip x y d.0) p.0) (all_erase x o t d.1 p.1)
    where
      flip : (u v : A) → same u v ≡ false → same v u ≡ false
      flip u v q =
          (elim (same v u) as (λ w. same v u ≡ w → w ≡ false) [
            | true ↦ λ e₁. let z : same u v ≡ true = ap (same u) (test.same_eq v u e₁) ∙ test.same_refl u in cc
            | false ↦ λ e₁. refl
          ]) refl

  -- as many, distinct, and each there: a permutation
  pub pigeons : (o t : List A) → length o ≡ length t → distinct same o ≡ true → all_in same o t ≡ true → permutes same o t ≡ true
  pigeons [] [] l d e = refl
  pigeons [] (y ∷ t) l d e = absurd (omega arith)
  pigeons (x ∷ o) t l d e =
      let p = and_split (not (has same x o)) (distinct same o) d in
      let q = and_split (has same x t) (all_in same o t) e in
      let n : suc (length (erase same x t)) ≡ length t = length-erase same test x t (omega (arith, has_le same x t, ap one q.0)) in
      rw q.0 (pigeons o (erase same x t) (omega arith) p.1 (all_erase x o t (not-true (has same x o) p.0) q.1))
