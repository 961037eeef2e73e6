-- Those of a list that pass a test, and what becomes of them in an empty heap: by counting, each is there and no other.
-- Assumes nothing.
use Rattle.std.specs.Prelude.{◌≡◌, Bool, ◌&&◌}
use Rattle.std.proofs.Math.Path.{refl}
use Rattle.std.proofs.Common.{sym, ◌∙◌, ap}
use Rattle.std.proofs.Math.Bool.{true, false, not}
use mathlib.Core.List.{List, [], ◌∷◌}
use Prim.Native.Nat.{ℕ, suc, ◌+◌}
use native.Mathlib.Omega.{arith}
use Rattle.std.proofs.Math.ListN.{length}
use Rattle.model.specs.Rows.{one, pick, count, those, every}
use Rattle.model.specs.Heap.{push, push_all, stands_in_order}
use Rattle.laws.specs.Bools.{and_split, and_join}
use Rattle.laws_heap.specs.HeapLaws.{push-length, push-count, push-every}
use Rattle.laws_heap.specs.HeapTests.{push-in_order}

module _ {A : Type 0} (f : A → Bool) where
  pub those-length : (xs : List A) → length (those f xs) ≡ count f xs
  unfolding those count
  those-length [] = refl
  those-length (x ∷ xs) =
      elim (f x) as (λ u. length (pick u (x ∷ those f xs) (those f xs)) ≡ one u + count f xs) [
        | true ↦ omega (arith, those-length xs)
        | false ↦ omega (arith, those-length xs)
      ]

  -- of those that pass, as many pass another test as pass both
  pub those-count : (g : A → Bool) (xs : List A) → count g (those f xs) ≡ count (λ x. f x && g x) xs
  unfolding those count
  those-count g [] = refl
  those-count g (x ∷ xs) =
      elim (f x) as (λ u. count g (pick u (x ∷ those f xs) (those f xs)) ≡ one (u && g x) + count (λ y. f y && g y) xs) [
        | true ↦ omega (arith, those-count g xs)
        | false ↦ omega (arith, those-count g xs)
      ]

  pub those-every : (g : A → Bool) (xs : List A) → every g xs ≡ true → every g (those f xs) ≡ true
  unfolding those
  those-every g [] e = refl
  those-every g (x ∷ xs) e =
      let p = and_split (g x) (every g xs) e in
      elim (f x) as (λ u. every g (pick u (x ∷ those f xs) (those f xs)) ≡ true) [
        | true ↦ and_join p.0 (those-every g xs p.1)
        | false ↦ those-every g xs p.1
      ]

  -- whoever passes a test or doesn't makes up the whole
  pub count_split : (xs : List A) → count f xs + count (λ x. not (f x)) xs ≡ length xs
  unfolding count
  count_split [] = refl
  count_split (x ∷ xs) =
      elim (f x) as (λ u. one u + count f xs + (one (not u) + count (λ y. not (f y)) xs) ≡ suc (length xs)) [
        | true ↦ omega (arith, count_split xs)
        | false ↦ omega (arith, count_split xs)
      ]

-- a test that passes nowhere counts nothing
pub count_never : {A : Type 0} (f : A → Bool) → ((x : A) → f x ≡ false) → (xs : List A) → count f xs ≡ 0
unfolding count
count_never f h [] = refl
count_never f h (x ∷ xs) = omega (arith, ap one (h x), count_never f h xs)

-- and where a test passes nowhere, whoever doesn't pass it are all
pub count-others : {A : Type 0} (f g : A → Bool) (xs : List A) → count f xs ≡ 0 → count g xs ≡ count (λ x. not (f x) && g x) xs
unfolding count
count-others f g [] e = refl
count-others f g (x ∷ xs) e =
    (elim (f x) as (λ u. one u + count f xs ≡ 0 → one (g x) + count g xs ≡ one (not u && g x) + count (λ y. not (f y) && g y) xs) [
      | true ↦ λ z. absurd (omega arith)
      | false ↦ λ z. omega (arith, count-others f g xs (omega arith))
    ]) e

module _ {A : Type 0} (d : A) (key : A → ℕ) where
  pub all_length : (h xs : List A) → length (push_all d key h xs) ≡ length h + length xs
  unfolding push_all
  all_length h [] = omega arith
  all_length h (x ∷ xs) = omega (arith, all_length (push d key h x) xs, push-length d key h x)

  pub all_count : (f : A → Bool) (h xs : List A) → count f (push_all d key h xs) ≡ count f h + count f xs
  unfolding push_all count
  all_count f h [] = omega arith
  all_count f h (x ∷ xs) = omega (arith, all_count f (push d key h x) xs, push-count d key h x f)

  pub all_every : (f : A → Bool) (h xs : List A) → every f h ≡ true → every f xs ≡ true → every f (push_all d key h xs) ≡ true
  unfolding push_all
  all_every f h [] p q = p
  all_every f h (x ∷ xs) p q =
      let r = and_split (f x) (every f xs) q in
      all_every f (push d key h x) xs (push-every d key h x f p r.0) r.1

  pub all_in-order : (h xs : List A) → stands_in_order d key h (length h) ≡ true → stands_in_order d key (push_all d key h xs) (length (push_all d key h xs)) ≡ true
  unfolding push_all
  all_in-order h [] e = e
  all_in-order h (x ∷ xs) e = all_in-order (push d key h x) xs (push-in_order d key h e x)
