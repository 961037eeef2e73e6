-- The place of an address in a list, and what each rule by addresses comes to at that place.
-- Assumes nothing.
use Rattle.std.specs.Prelude.{◌≡◌, Bool, length}
use Rattle.std.proofs.Math.Path.{refl, ap, sym}
use Rattle.std.proofs.Common.{◌∙◌, arith, not-suc-le-zero, le_of_suc-le-suc}
use Rattle.std.proofs.Math.Bool.{true, false}
use mathlib.Core.List.{List, [], ◌∷◌}
use Prim.Native.Nat.{ℕ, suc, ◌<◌}
use Rattle.std.proofs.Math.ListN.{get_or, set}
use Rattle.std.proofs.Math.Dec.{ltb}
use borrow.Author.Tests.{lt-ltb, le-ltb, ltb-true, ltb-false}
use Rattle.model.specs.declared.State.TheVariants.{Alive}
use Rattle.model.specs.Rows.{pick, remove_at, has, erase, Test}
use Rattle.model.specs.Words.{Member}
use Rattle.laws.specs.Loops.{first_place}
use Rattle.model.specs.Members.{addrs, strike, put, held, held_state}

module _ {A : Type 0} (same : A → A → Bool) where
  -- the first place that holds a, or the length where there is none
  abbrev pub place_of : A → List A → ℕ
  place_of a = first_place (same a)

  pub has-place : (a : A) (l : List A) → has same a l ≡ ltb (place_of a l) (length l)
  unfolding first_place
  has-place a [] = sym (le-ltb 0 0 (omega arith))
  has-place a (x ∷ l) =
      elim (same a x) as (λ u. pick u true (has same a l) ≡ ltb (pick u 0 (suc (place_of a l))) (suc (length l))) [
        | true ↦ sym (lt-ltb 0 (suc (length l)) (omega arith))
        | false ↦ has-place a l ∙ shift (place_of a l) (length l)
      ]
    where
      shift : (p n : ℕ) → ltb p n ≡ ltb (suc p) (suc n)
      shift p n =
          (elim (ltb p n) as (λ u. ltb p n ≡ u → u ≡ ltb (suc p) (suc n)) [
            | true ↦ λ e. sym (lt-ltb (suc p) (suc n) (omega (arith, ltb-true p n e)))
            | false ↦ λ e. sym (le-ltb (suc p) (suc n) (omega (arith, ltb-false p n e)))
          ]) refl

  pub erase-place : (a : A) (l : List A) → erase same a l ≡ remove_at l (place_of a l)
  unfolding first_place
  erase-place a [] = refl
  erase-place a (x ∷ l) =
      elim (same a x) as (λ u. pick u l (x ∷ erase same a l) ≡ remove_at (x ∷ l) (pick u 0 (suc (place_of a l)))) [
        | true ↦ refl
        | false ↦ ap (λ (m : List A). x ∷ m) (erase-place a l)
      ]

  pub strike-place : (a : A) (t : List (Member A)) → strike same a t ≡ remove_at t (place_of a (addrs t))
  unfolding first_place
  strike-place a [] = refl
  strike-place a (m ∷ t) =
      elim (same a m.addr) as (λ u. pick u t (m ∷ strike same a t) ≡ remove_at (m ∷ t) (pick u 0 (suc (place_of a (addrs t))))) [
        | true ↦ refl
        | false ↦ ap (λ (l : List (Member A)). m ∷ l) (strike-place a t)
      ]

  pub put-place : (k : Member A) (t : List (Member A)) → put same k t ≡ set t (place_of k.addr (addrs t)) k
  unfolding first_place
  put-place k [] = refl
  put-place k (m ∷ t) =
      elim (same k.addr m.addr) as (λ u. pick u (k ∷ t) (m ∷ put same k t) ≡ set (m ∷ t) (pick u 0 (suc (place_of k.addr (addrs t)))) k) [
        | true ↦ refl
        | false ↦ ap (λ (l : List (Member A)). m ∷ l) (put-place k t)
      ]

  pub held_place : (a : A) (t : List (Member A)) (d : Member A) → d.number ≡ 0 → held same a t ≡ (get_or t (place_of a (addrs t)) d).number
  unfolding first_place
  held_place a [] d e = sym e
  held_place a (m ∷ t) d e =
      elim (same a m.addr) as (λ u. pick u m.number (held same a t) ≡ (get_or (m ∷ t) (pick u 0 (suc (place_of a (addrs t)))) d).number) [
        | true ↦ refl
        | false ↦ held_place a t d e
      ]

  pub state_place : (a : A) (t : List (Member A)) (d : Member A) → d.state ≡ Alive → held_state same a t ≡ (get_or t (place_of a (addrs t)) d).state
  unfolding first_place
  state_place a [] d e = sym e
  state_place a (m ∷ t) d e =
      elim (same a m.addr) as (λ u. pick u m.state (held_state same a t) ≡ (get_or (m ∷ t) (pick u 0 (suc (place_of a (addrs t)))) d).state) [
        | true ↦ refl
        | false ↦ state_place a t d e
      ]

  module _ (test : Test same) where
    -- what stands at the place of a is a
    pub place-holds : (a d : A) (l : List A) → place_of a l < length l → get_or l (place_of a l) d ≡ a
    unfolding first_place
    place-holds a d [] h = absurd (not-suc-le-zero h)
    place-holds a d (x ∷ l) h =
        (elim (same a x) as (λ u. same a x ≡ u → pick u 0 (suc (place_of a l)) < suc (length l) → get_or (x ∷ l) (pick u 0 (suc (place_of a l))) d ≡ a) [
          | true ↦ λ e _. sym (test.same_eq a x e)
          | false ↦ λ e k. place-holds a d l (le_of_suc-le-suc k)
        ]) refl h
