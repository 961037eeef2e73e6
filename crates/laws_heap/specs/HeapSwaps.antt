-- What a swap of two places keeps: the length, how many entries pass a test, and each place but two. Over any element.
-- Two lists have the same entries where every test counts the same in both.
-- Assumes nothing.
use Rattle.std.specs.Prelude.{◌≡◌, refl, Bool, true, false, eqb, ltb, get_or, set}
use Rattle.std.proofs.Common.{◌∙◌, le_of_suc-le-suc, not-suc-le-zero, eqb-true, ltb-true, ltb-false}
use Rattle.std.proofs.Math.Path.{ap}
use mathlib.Core.List.{List, [], ◌∷◌}
use Prim.Native.Nat.{ℕ, zero, suc, ◌+◌, ◌≤◌, ◌<◌}
use native.Mathlib.Omega.{arith}
use Rattle.std.proofs.Math.Seq.{get_or-set_same, get_or-set_other}
use Rattle.std.proofs.lemmas.List.{set-get_or}
use Rattle.std.proofs.lemmas.Bool.{eqb-false}
use Rattle.std.proofs.Math.ListN.{length, length-set}
use Rattle.model.specs.Rows.{swap, one, count}

module _ {A : Type 0} (d : A) where
  pub length-swap : (xs : List A) (p q : ℕ) → length (swap d xs p q) ≡ length xs
  unfolding swap
  length-swap xs p q = simp length-set

  -- a store trades what stood there for what stands there now
  pub count_set :
      (f : A → Bool) (xs : List A) (p : ℕ) (a : A) →
      p < length xs →
      count f (set xs p a) + one (f (get_or xs p d)) ≡ count f xs + one (f a)
  unfolding count
  count_set f [] p a h = absurd (not-suc-le-zero h)
  count_set f (x ∷ xs) zero a h = omega arith
  count_set f (x ∷ xs) (suc p) a h = omega (arith, count_set f xs p a (le_of_suc-le-suc h))

-- two numbers are the same or not
pub by : {P : Type 0} (p q : ℕ) → (p ≡ q → P) → ((p ≡ q → ⊥) → P) → P
by {P} p q f g = go (eqb p q) refl where
  go : (b : Bool) → eqb p q ≡ b → P
  go true e = f (eqb-true p q e)
  go false e = g (eqb-false p q e)

pub below_or_not : {P : Type 0} (m n : ℕ) → (m < n → P) → (n ≤ m → P) → P
below_or_not {P} m n f g = go (ltb m n) refl where
  go : (b : Bool) → ltb m n ≡ b → P
  go true e = f (ltb-true m n e)
  go false e = g (ltb-false m n e)

module _ {A : Type 0} (d : A) (xs : List A) (p q : ℕ) where
  pub kept : get_or (set xs p (get_or xs q d)) q d ≡ get_or xs q d
  kept = by q p (λ e. rw e (rw set-get_or)) (λ n. get_or-set_other xs p q (get_or xs q d) d n)

  pub swap-second : q < length xs → get_or (swap d xs p q) q d ≡ get_or xs p d
  unfolding swap
  swap-second h = get_or-set_same (set xs p (get_or xs q d)) q (get_or xs p d) d (rw length-set h)

  pub swap-first : p < length xs → (p ≡ q → ⊥) → get_or (swap d xs p q) p d ≡ get_or xs q d
  unfolding swap
  swap-first h n = get_or-set_other (set xs p (get_or xs q d)) q p (get_or xs p d) d n ∙ get_or-set_same xs p (get_or xs q d) d h

  pub swap_other : (i : ℕ) → (i ≡ p → ⊥) → (i ≡ q → ⊥) → get_or (swap d xs p q) i d ≡ get_or xs i d
  unfolding swap
  swap_other i n m = get_or-set_other (set xs p (get_or xs q d)) q i (get_or xs p d) d m ∙ get_or-set_other xs p i (get_or xs q d) d n

  pub count-swap : (f : A → Bool) → p < length xs → q < length xs → count f (swap d xs p q) ≡ count f xs
  unfolding swap
  count-swap f h k =
      let l : q < length (set xs p (get_or xs q d)) = rw length-set k in
      omega (
        arith,
        count_set d f xs p (get_or xs q d) h,
        count_set d f (set xs p (get_or xs q d)) q (get_or xs p d) l,
        ap (λ (x : A). one (f x)) kept,
      )
