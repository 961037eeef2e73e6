-- RFC 5952 4.2.3, without the words of the recursion: "the longest run of zero groups is shortened, the first of equals". A run of n zero groups from place p on is
-- n groups there that are all zero. What `Text6` leaves out is such a run, none is longer, and none of its length starts before it.
-- Assumes nothing.
use Rattle.std.specs.Prelude.{◌≡◌, refl, true, false, List, [], ◌∷◌, ℕ, zero, suc, ◌≤◌, ◌<◌, eqb, leb}
use Rattle.std.proofs.Common.{arith, eqb-true, eq-eqb, leb-true, leb-false}
use Rattle.ip6.specs.Text6.{leading, longest, place}
use Rattle.datagram_promises.specs.Rfc5952.{Zeros}

-- the run at the start
leads : (gs : List ℕ) → Zeros 0 (leading gs) gs
unfolding leading
leads [] = tt
leads (g ∷ gs) =
    (elim (eqb g 0) as (λ u. eqb g 0 ≡ u → Zeros 0 (elim u [ true ↦ suc (leading gs) | false ↦ 0 ]) (g ∷ gs)) [
      | true ↦ λ e. (eqb-true g 0 e, leads gs)
      | false ↦ λ e. tt
    ]) refl

leads-most : (n : ℕ) (gs : List ℕ) → Zeros 0 n gs → n ≤ leading gs
unfolding leading
leads-most zero gs z = omega arith
leads-most (suc n) [] z = absurd z
leads-most (suc n) (g ∷ gs) z =
    let h = leads-most n gs z.1 in
    (elim (eqb g 0) as (λ u. u ≡ true → suc n ≤ elim u [ true ↦ suc (leading gs) | false ↦ 0 ]) [
      | true ↦ λ _. omega (arith, h)
      | false ↦ λ e. let x : ◌≡◌ {A = ℕ} 0 1 = cc in absurd (omega arith)
    ]) (eq-eqb g 0 z.0)

further : (n p g : ℕ) (gs : List ℕ) → Zeros p n gs → Zeros (suc p) n (g ∷ gs)
further zero p g gs z = tt
further (suc n) p g gs z = z

-- IT IS A RUN
pub left-out_is_zero : (gs : List ℕ) → Zeros (place gs) (longest gs) gs
unfolding place longest
left-out_is_zero [] = tt
left-out_is_zero (g ∷ gs) =
    elim (leb (longest gs) (leading (g ∷ gs))) as (λ u. Zeros (elim u [ true ↦ 0 | false ↦ suc (place gs) ]) (elim u [ true ↦ leading (g ∷ gs) | false ↦ longest gs ]) (g ∷ gs)) [
      | true ↦ leads (g ∷ gs)
      | false ↦ further (longest gs) (place gs) g gs (left-out_is_zero gs)
    ]

-- NONE IS LONGER
pub none-longer : (p n : ℕ) (gs : List ℕ) → Zeros p n gs → n ≤ longest gs
unfolding longest
none-longer p zero gs z = omega arith
none-longer p (suc n) [] z = absurd z
none-longer zero (suc n) (g ∷ gs) z =
    let h = leads-most (suc n) (g ∷ gs) z in
    (elim (leb (longest gs) (leading (g ∷ gs))) as (λ u. leb (longest gs) (leading (g ∷ gs)) ≡ u → suc n ≤ elim u [ true ↦ leading (g ∷ gs) | false ↦ longest gs ]) [
      | true ↦ λ e. h
      | false ↦ λ e. omega (arith, h, leb-false (longest gs) (leading (g ∷ gs)) e)
    ]) refl
none-longer (suc p) (suc n) (g ∷ gs) z =
    let h = none-longer p (suc n) gs z in
    (elim (leb (longest gs) (leading (g ∷ gs))) as (λ u. leb (longest gs) (leading (g ∷ gs)) ≡ u → suc n ≤ elim u [ true ↦ leading (g ∷ gs) | false ↦ longest gs ]) [
      | true ↦ λ e. omega (arith, h, leb-true (longest gs) (leading (g ∷ gs)) e)
      | false ↦ λ e. h
    ]) refl

-- NONE OF ITS LENGTH STARTS BEFORE IT
pub first_of_equals : (p n : ℕ) (gs : List ℕ) → 0 < n → Zeros p n gs → n ≡ longest gs → place gs ≤ p
unfolding place longest
first_of_equals p zero gs h z e = absurd (omega arith)
first_of_equals p (suc n) [] h z e = absurd z
first_of_equals zero (suc n) (g ∷ gs) h z e =
    let m = leads-most (suc n) (g ∷ gs) z in
    (elim (leb (longest gs) (leading (g ∷ gs))) as (λ u. leb (longest gs) (leading (g ∷ gs)) ≡ u → suc n ≡ elim u [ true ↦ leading (g ∷ gs) | false ↦ longest gs ]
    → elim u [ true ↦ 0 | false ↦ suc (place gs) ] ≤ 0) [
      | true ↦ λ _ _. omega arith
      | false ↦ λ q k. absurd (omega (arith, m, leb-false (longest gs) (leading (g ∷ gs)) q))
    ]) refl e
first_of_equals (suc p) (suc n) (g ∷ gs) h z e =
    (elim (leb (longest gs) (leading (g ∷ gs))) as (λ u. leb (longest gs) (leading (g ∷ gs)) ≡ u → suc n ≡ elim u [ true ↦ leading (g ∷ gs) | false ↦ longest gs ]
    → elim u [ true ↦ 0 | false ↦ suc (place gs) ] ≤ suc p) [
      | true ↦ λ _ _. omega arith
      | false ↦ λ q k. let i = first_of_equals p (suc n) gs h z k in omega (arith, i)
    ]) refl e
