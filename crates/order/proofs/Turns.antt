-- One turn of a shuffle, over the model.
-- Assumes nothing.
use mathlib.Core.Path.{◌≡◌, ap, sym, ◌∙◌}
use mathlib.Core.List.{List, ◌++◌}
use Prim.Native.Nat.{ℕ, suc, ◌+◌, ◌-◌, ◌≤◌, ◌<◌, ◌%◌}
use native.Mathlib.Omega.{arith}
use native.Mathlib.Numerals.{add-one}
use lib.ListN.{length, get_or, take, drop, length-drop, take-append-drop, drop_of_length-le}
use lib.Seq.{drop-cons, take-set-lt, drop-set-lt, get_or-take}
use Rattle.address.specs.Here.{Addr}
use Rattle.model.specs.Rows.{swap}
use Rattle.model.specs.declared.Refusal.TheVariants.{DrawsShort}
use Rattle.model.specs.Answers.{done, refused}
use Rattle.model.specs.Members.{shuffle_from}
use Rattle.order.specs.declared.Shuffled.{Shuffled}
use Rattle.model.specs.declared.Drew.TheVariants.{Used}
use Rattle.order.specs.Views.{shuffled_as}

module _ {A : Type 0} (z : A) where
  pub shuffle-turn : (i : ℕ) (l : List A) (ds : List ℕ) (u : ℕ) → 1 < i → u < length ds
      → shuffle_from z (i - 1) l (drop u ds) ≡ shuffle_from z (i - 1 - 1) (swap z l (i - 1) (get_or ds u 0 % i)) (drop (u + 1) ds)
  shuffle-turn i l ds u h k =
      let e : i - 1 ≡ suc (i - 1 - 1) = omega arith in
      let e₂ : suc (suc (i - 1 - 1)) ≡ i = omega arith in
      ap (λ (m : ℕ). shuffle_from z m l (drop u ds)) e
      ∙ ap (λ (s : List ℕ). shuffle_from z (suc (i - 1 - 1)) l s) (drop-cons ds u 0 k)
      ∙ ap (λ (m : ℕ). shuffle_from z (i - 1 - 1) (swap z l (suc (i - 1 - 1)) (get_or ds u 0 % m)) (drop (suc u) ds)) e₂
      ∙ ap (λ (m : ℕ). shuffle_from z (i - 1 - 1) (swap z l m (get_or ds u 0 % i)) (drop (suc u) ds)) (sym e)
      ∙ ap (λ (m : ℕ). shuffle_from z (i - 1 - 1) (swap z l (i - 1) (get_or ds u 0 % i)) (drop m ds)) (sym (add-one u))

  pub shuffle-short : (i : ℕ) (l : List A) (ds : List ℕ) (u : ℕ) → 1 < i → length ds ≤ u → shuffle_from z (i - 1) l (drop u ds) ≡ refused DrawsShort
  shuffle-short i l ds u h k =
      let e : i - 1 ≡ suc (i - 1 - 1) = omega arith in
      ap (λ (m : ℕ). shuffle_from z m l (drop u ds)) e ∙ ap (λ (s : List ℕ). shuffle_from z (suc (i - 1 - 1)) l s) (drop_of_length-le ds k)

  pub shuffle-over : (i : ℕ) (l : List A) (ds : List ℕ) → i ≤ 1 → shuffle_from z (i - 1) l ds ≡ done l ds
  shuffle-over i l ds h =
      let e : i - 1 ≡ 0 = omega arith in
      ap (λ (m : ℕ). shuffle_from z m l ds) e

  pub take-swap : (n : ℕ) (l : List A) (i j : ℕ) → i < n → j < n → take n (swap z l i j) ≡ swap z (take n l) i j
  unfolding swap
  take-swap n l i j hi hj = simp (take-set-lt, get_or-take)

  pub drop-swap : (n : ℕ) (l : List A) (i j : ℕ) → i < n → j < n → drop n (swap z l i j) ≡ drop n l
  unfolding swap
  drop-swap n l i j hi hj = simp drop-set-lt

pub shuffled_done : (row out : List Addr) (ds : List ℕ) (n from next : ℕ) → drop n out ≡ drop n row → from ≤ next → next ≤ length ds
    → ◌≡◌ {A = Shuffled} (record { row = out; drew = Used (next - from) }) (shuffled_as row n (length ds - from) (done (take n out) (drop next ds)))
shuffled_done row out ds n from next e h k =
    let p : out ≡ take n out ++ drop n row = sym (take-append-drop n out) ∙ ap (λ (r : List Addr). take n out ++ r) e in
    let q : next - from ≡ length ds - from - length (drop next ds) = omega (arith, length-drop next ds) in
    λ i. record { row = p i; drew = Used (q i) }
