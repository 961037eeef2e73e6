-- How often an address stands in a row, after each operation on rows.
-- Assumes nothing.
use Rattle.std.specs.Prelude.{◌≡◌, refl, Bool, true, false, List, [], ◌∷◌, ◌++◌, ℕ, zero, suc, ◌+◌, ◌≤◌, ◌<◌, length, get_or, set}
use Rattle.std.proofs.Common.{ap, sym, not-suc-le-zero, le_of_suc-le-suc, lt-length-set, get_or-set_same, get_or-set_other}
use Rattle.std.proofs.Math.Path.{subst}
use native.Mathlib.Omega.{arith}
use Rattle.std.proofs.Math.Decide.{ℕ_discrete}
use Rattle.model.specs.Rows.{one, pick, insert_at, swap, occurs, has, erase, Test}

module _ {A : Type 0} (same : A → A → Bool) where
  pub occurs-append : (a : A) (l m : List A) → occurs same a (l ++ m) ≡ occurs same a l + occurs same a m
  occurs-append a [] m = omega arith
  occurs-append a (x ∷ l) m = omega (arith, occurs-append a l m)

  pub occurs-insert_at : (a : A) (l : List A) (i : ℕ) (x : A) → occurs same a (insert_at l i x) ≡ one (same a x) + occurs same a l
  occurs-insert_at a [] i x = refl
  occurs-insert_at a (y ∷ l) zero x = refl
  occurs-insert_at a (y ∷ l) (suc i) x = omega (arith, occurs-insert_at a l i x)

  pub occurs-set : (a d : A) (l : List A) (i : ℕ) (x : A) → i < length l
      → occurs same a (set l i x) + one (same a (get_or l i d)) ≡ occurs same a l + one (same a x)
  occurs-set a d [] i x h = absurd (not-suc-le-zero h)
  occurs-set a d (y ∷ l) zero x h = omega arith
  occurs-set a d (y ∷ l) (suc i) x h = omega (arith, occurs-set a d l i x (le_of_suc-le-suc h))

  pub one_le : (b : Bool) → one b ≤ 1
  one_le true = omega arith
  one_le false = omega arith

  -- the test for an address and its count
  pub has_le : (a : A) (l : List A) → one (has same a l) ≤ occurs same a l
  has_le a [] = omega arith
  has_le a (x ∷ l) =
      elim (same a x) as (λ u. one (pick u true (has same a l)) ≤ one u + occurs same a l) [
        | true ↦ omega arith
        | false ↦ omega (arith, has_le a l)
      ]

  pub has-none : (a : A) (l : List A) → has same a l ≡ false → occurs same a l ≡ 0
  has-none a [] e = refl
  has-none a (x ∷ l) e =
      (elim (same a x) as (λ u. pick u true (has same a l) ≡ false → one u + occurs same a l ≡ 0) [
        | true ↦ λ h. let z : ◌≡◌ {A = ℕ} 0 1 = cc in omega arith
        | false ↦ λ h. omega (arith, has-none a l h)
      ]) e

  pub has_is : (a : A) (l : List A) → occurs same a l ≤ 1 → occurs same a l ≡ one (has same a l)
  has_is a l h =
      (elim (has same a l) as (λ u. has same a l ≡ u → one u ≤ occurs same a l → occurs same a l ≡ one u) [
        | true ↦ λ e k. omega arith
        | false ↦ λ e k. has-none a l e
      ]) refl (has_le a l)

  -- after place i has what stood at j, place j is as it was
  stays : (d : A) (l : List A) (i j : ℕ) → i < length l → get_or (set l i (get_or l j d)) j d ≡ get_or l j d
  stays d l i j h =
      elim (ℕ_discrete j i) [
        | yes e ↦ rw e (get_or-set_same l i (get_or l i d) d h)
        | no n ↦ get_or-set_other l i j (get_or l j d) d n
      ]

  -- swapping two places counts the same
  pub occurs-swap : (a d : A) (l : List A) (i j : ℕ) → i < length l → j < length l → occurs same a (swap d l i j) ≡ occurs same a l
  unfolding swap
  occurs-swap a d l i j hi hj =
      omega (
        arith,
        occurs-set a d l i (get_or l j d) hi,
        subst (λ (y : A). occurs same a (swap d l i j) + one (same a y) ≡ occurs same a (set l i (get_or l j d)) + one (same a (get_or l i d)))
            (stays d l i j hi)
            (occurs-set a d (set l i (get_or l j d)) j (get_or l i d) (lt-length-set l i (get_or l j d) hj)),
      )

  module _ (test : Test same) where
    pub same_alike : (a b x : A) → same a x ≡ true → same b x ≡ same b a
    same_alike a b x e = ap (same b) (sym (test.same_eq a x e))

    pub occurs-erase : (a b : A) (l : List A) → 0 < occurs same a l
        → occurs same b (erase same a l) + one (same b a) ≡ occurs same b l
    occurs-erase a b [] h = absurd (not-suc-le-zero h)
    occurs-erase a b (x ∷ l) h =
        (elim (same a x) as (λ u. same a x ≡ u → 0 < one u + occurs same a l
        → occurs same b (pick u l (x ∷ erase same a l)) + one (same b a) ≡ one (same b x) + occurs same b l) [
          | true ↦ λ e h'. rw (same_alike a b x e) (omega arith)
          | false ↦ λ e h'. omega (arith, occurs-erase a b l (omega arith))
        ]) refl h
