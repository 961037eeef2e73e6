-- The laws of climbing and of going down by which a proof goes, for any type of entry: each way out, and one induction for each.
-- Assumes nothing.
use Rattle.std.specs.Prelude.{◌≡◌, Bool, true, false, eqb, ltb, leb, get_or}
use Rattle.std.proofs.Math.Path.{refl}
use mathlib.Core.List.{List}
use Prim.Native.Nat.{ℕ, zero, suc, ◌+◌, ◌*◌, ◌≤◌, ◌<◌}
use Rattle.std.proofs.Common.{pos_of_ne-zero, arith}
use Rattle.std.proofs.Math.Dec.{eqb-suc-zero}
use borrow.Author.Tests.{lt-ltb, le-ltb, le-leb, lt-leb, eqb-true, eqb-false, ltb-true, ltb-false, leb-true, leb-false}
use Rattle.model.specs.Rows.{pick, swap}
use Rattle.model.specs.Heap.{parent, climb_in, climb, lower, down_in, down, rank}

module _ {A : Type 0} (d : A) (key : A → ℕ) where
  -- any two allowances that are enough give the same
  climb_enough : (n m : ℕ) (xs : List A) (p : ℕ) → p ≤ n → p ≤ m → climb_in d key n xs p ≡ climb_in d key m xs p
  unfolding climb_in
  climb_enough zero zero xs p h k = refl
  climb_enough zero (suc m) xs zero h k = refl
  climb_enough zero (suc m) xs (suc p) h k = absurd (omega arith)
  climb_enough (suc n) zero xs zero h k = refl
  climb_enough (suc n) zero xs (suc p) h k = absurd (omega arith)
  climb_enough (suc n) (suc m) xs zero h k = refl
  climb_enough (suc n) (suc m) xs (suc p) h k =
      rw (climb_enough n m (swap d xs (suc p) (parent (suc p))) (parent (suc p)) (omega arith) (omega arith))

  pub climb_top : (xs : List A) (p : ℕ) → p ≡ 0 → climb d key xs p ≡ xs
  unfolding climb climb_in
  climb_top xs zero e = refl
  climb_top xs (suc p) e = absurd (omega arith)

  pub climb-step :
      (xs : List A) (p : ℕ) →
      0 < p →
      key (get_or xs p d) < key (get_or xs (parent p) d) →
      climb d key xs p ≡ climb d key (swap d xs p (parent p)) (parent p)
  unfolding climb climb_in
  climb-step xs zero h k = absurd (omega arith)
  climb-step xs (suc p) h k =
      rw (eqb-suc-zero, lt-ltb _ _ k)
      (climb_enough p (parent (suc p)) (swap d xs (suc p) (parent (suc p))) (parent (suc p)) (omega arith) (omega arith))

  pub climb_stop :
      (xs : List A) (p : ℕ) → key (get_or xs (parent p) d) ≤ key (get_or xs p d) → climb d key xs p ≡ xs
  unfolding climb climb_in
  climb_stop xs zero k = refl
  climb_stop xs (suc p) k = rw (eqb-suc-zero, le-ltb _ _ k)

pub pick_elim :
    {A : Type 0} (P : A → Type 0) (b : Bool) (x y : A) → (b ≡ true → P x) → (b ≡ false → P y) → P (pick b x y)
pick_elim P true x y f g = f refl
pick_elim P false x y f g = g refl

module _ {A : Type 0} (d : A) (key : A → ℕ) where
  -- left has fewer than right
  abbrev pub fewer : List A → ℕ → Bool
  fewer xs p = ltb (key (get_or xs (2 * p + 1) d)) (key (get_or xs (2 * p + 2) d))

  pub lower-above : (xs : List A) (len p : ℕ) → p < lower d key xs len p
  unfolding lower
  lower-above xs len p =
      pick_elim (λ (c : ℕ). p < c) (ltb (2 * p + 2) len) (pick (fewer xs p) (2 * p + 1) (2 * p + 2)) (2 * p + 1)
      (λ e. pick_elim (λ (c : ℕ). p < c) (fewer xs p) (2 * p + 1) (2 * p + 2) (λ f. omega arith) (λ f. omega arith))
      (λ e. omega arith)

  pub lower_within : (xs : List A) (len p : ℕ) → 2 * p + 1 < len → lower d key xs len p < len
  unfolding lower
  lower_within xs len p h =
      pick_elim (λ (c : ℕ). c < len) (ltb (2 * p + 2) len) (pick (fewer xs p) (2 * p + 1) (2 * p + 2)) (2 * p + 1)
      (λ e. pick_elim (λ (c : ℕ). c < len) (fewer xs p) (2 * p + 1) (2 * p + 2) (λ f. h) (λ f. ltb-true _ _ e))
      (λ e. h)

  module _ (goes : A → A → Bool) (out : List A → ℕ → List A) where
    -- any two allowances that are enough give the same
    fall_enough :
        (n m : ℕ) (xs : List A) (len p : ℕ) →
        len ≤ p + n →
        len ≤ p + m →
        down_in d key goes out n xs len p ≡ down_in d key goes out m xs len p
    unfolding down_in
    fall_enough zero zero xs len p h k = refl
    fall_enough zero (suc m) xs len p h k = rw (le-leb len (2 * p + 1) (omega arith))
    fall_enough (suc n) zero xs len p h k = rw (le-leb len (2 * p + 1) (omega arith))
    fall_enough (suc n) (suc m) xs len p h k =
        let a : p < lower d key xs len p = lower-above xs len p in
        rw (fall_enough n m (swap d xs p (lower d key xs len p)) len (lower d key xs len p) (omega arith) (omega arith))

    pub down_end : (xs : List A) (len p : ℕ) → len ≤ 2 * p + 1 → down d key goes out xs len p ≡ out xs p
    unfolding down down_in
    down_end xs zero p h = refl
    down_end xs (suc n) p h = rw (le-leb (suc n) (2 * p + 1) h)

    pub down_stop :
        (xs : List A) (len p : ℕ) →
        goes (get_or xs (lower d key xs len p) d) (get_or xs p d) ≡ false →
        down d key goes out xs len p ≡ out xs p
    unfolding down down_in
    down_stop xs zero p e = refl
    down_stop xs (suc n) p e = rw e
        (pick_elim (λ (z : List A). z ≡ out xs p) (leb (suc n) (2 * p + 1)) (out xs p) (out xs p) (λ f. refl) (λ f. refl))

    pub down_step :
        (xs : List A) (len p : ℕ) →
        2 * p + 1 < len →
        goes (get_or xs (lower d key xs len p) d) (get_or xs p d) ≡ true →
        down d key goes out xs len p
        ≡ down d key goes out (swap d xs p (lower d key xs len p)) len (lower d key xs len p)
    unfolding down down_in
    down_step xs zero p h e = absurd (omega arith)
    down_step xs (suc n) p h e =
        let a : p < lower d key xs (suc n) p = lower-above xs (suc n) p in
        rw (lt-leb (suc n) (2 * p + 1) h, e)
        (fall_enough n (suc n) (swap d xs p (lower d key xs (suc n) p)) (suc n) (lower d key xs (suc n) p) (omega arith) (omega arith))

    -- the same where the place below has a name
    pub down_stop_at :
        (xs : List A) (len p c : ℕ) →
        c ≡ lower d key xs len p →
        goes (get_or xs c d) (get_or xs p d) ≡ false →
        down d key goes out xs len p ≡ out xs p
    down_stop_at xs len p c q e = down_stop xs len p (rw q at e)

    pub down-step-at :
        (xs : List A) (len p c : ℕ) →
        c ≡ lower d key xs len p →
        2 * p + 1 < len →
        goes (get_or xs c d) (get_or xs p d) ≡ true →
        down d key goes out xs len p ≡ down d key goes out (swap d xs p c) len c
    down-step-at xs len p c q h e = rw q (down_step xs len p h (rw q at e))

module _ {A : Type 0} (d : A) (key : A → ℕ) where
  -- what holds at the start and is kept by each step holds where the climb ends
  module _
      (P : List A → ℕ → Type 0)
      (Q : List A → Type 0)
      (ends : (xs : List A) (p : ℕ) → P xs p → (0 < p → rank d key xs (parent p) ≤ rank d key xs p) → Q xs)
      (step : (xs : List A) (p : ℕ) → P xs p → 0 < p → rank d key xs p < rank d key xs (parent p) → P (swap d xs p (parent p)) (parent p))
    where
      climb_in_ind : (n : ℕ) (xs : List A) (p : ℕ) → p ≤ n → P xs p → Q (climb_in d key n xs p)
      unfolding climb_in
      climb_in_ind zero xs p h s = ends xs p s (λ k. absurd (omega arith))
      climb_in_ind (suc n) xs p h s =
          pick_elim Q (eqb p 0) xs _
          (λ e. ends xs p s (λ k. absurd (omega (arith, eqb-true p 0 e))))
          (λ e. pick_elim Q (ltb (rank d key xs p) (rank d key xs (parent p)))
          (climb_in d key n (swap d xs p (parent p)) (parent p))
          xs
          (λ f. climb_in_ind n (swap d xs p (parent p)) (parent p) (omega arith)
          (step xs p s (pos_of_ne-zero (eqb-false p 0 e)) (ltb-true _ _ f)))
          (λ f. ends xs p s (λ k. ltb-false _ _ f)))

      pub climb_ind : (xs : List A) (p : ℕ) → P xs p → Q (climb d key xs p)
      unfolding climb
      climb_ind xs p s = climb_in_ind p xs p (omega arith) s

  module _
      (goes : A → A → Bool)
      (out : List A → ℕ → List A)
      (len : ℕ)
      (P : List A → ℕ → Type 0)
      (Q : List A → Type 0)
      (ends : (xs : List A) (p : ℕ) → P xs p → len ≤ 2 * p + 1 → Q (out xs p))
      (stops :
      (xs : List A) (p : ℕ) →
      P xs p →
      2 * p + 1 < len →
      goes (get_or xs (lower d key xs len p) d) (get_or xs p d) ≡ false →
      Q (out xs p))
      (step :
      (xs : List A) (p : ℕ) →
      P xs p →
      2 * p + 1 < len →
      goes (get_or xs (lower d key xs len p) d) (get_or xs p d) ≡ true →
      P (swap d xs p (lower d key xs len p)) (lower d key xs len p))
    where
      down_in_ind : (n : ℕ) (xs : List A) (p : ℕ) → len ≤ p + n → P xs p → Q (down_in d key goes out n xs len p)
      unfolding down_in
      down_in_ind zero xs p h s = ends xs p s (omega arith)
      down_in_ind (suc n) xs p h s =
          pick_elim Q (leb len (2 * p + 1)) (out xs p) _
          (λ e. ends xs p s (leb-true _ _ e))
          (λ e. pick_elim Q (goes (get_or xs (lower d key xs len p) d) (get_or xs p d))
          (down_in d key goes out n (swap d xs p (lower d key xs len p)) len (lower d key xs len p))
          (out xs p)
          (λ f. down_in_ind n (swap d xs p (lower d key xs len p)) (lower d key xs len p)
          (omega (arith, lower-above d key xs len p))
          (step xs p s (leb-false _ _ e) f))
          (λ f. stops xs p s (leb-false _ _ e) f))

      pub down_ind : (xs : List A) (p : ℕ) → P xs p → Q (down d key goes out xs len p)
      unfolding down
      down_ind xs p s = down_in_ind len xs p (omega arith) s
