-- How long the text of an address is.
-- Assumes nothing.
use Rattle.std.specs.Prelude.{◌≡◌, refl, Bool, true, false, ℕ, ◌+◌, ◌/◌, ◌%◌, ◌≤◌, ◌<◌, zero, suc, List, [], ◌∷◌, ◌++◌, length, ltb}
use Rattle.std.proofs.Common.{length-append, arith, ltb-false, ltb-true}
use Rattle.model.specs.Rows.{pick}
use Rattle.address.specs.IPv4.{digits, octet, port, text_length}
use Rattle.address.specs.Text.{decimal_in, decimal, text}

pick_elim : (P : ℕ → Type 0) (b : Bool) (x y : ℕ) → (b ≡ true → P x) → (b ≡ false → P y) → P (pick b x y)
pick_elim P true x y f g = f refl
pick_elim P false x y f g = g refl

abbrev Among : ℕ → ℕ → Type 0
Among most k = (1 ≤ k) × (k ≤ most)

pub digits_few : (n : ℕ) → Among 5 (digits n)
unfolding digits
digits_few n =
    pick_elim (Among 5) (ltb n 10) 1 _ (λ e. (omega arith, omega arith))
    (λ e. pick_elim (Among 5) (ltb n 100) 2 _ (λ e. (omega arith, omega arith))
    (λ e. pick_elim (Among 5) (ltb n 1000) 3 _ (λ e. (omega arith, omega arith))
    (λ e. pick_elim (Among 5) (ltb n 10000) 4 5 (λ e. (omega arith, omega arith)) (λ e. (omega arith, omega arith)))))

-- a number below 1000 has three at most
pub digits-three : (n : ℕ) → n < 1000 → Among 3 (digits n)
unfolding digits
digits-three n h =
    pick_elim (Among 3) (ltb n 10) 1 _ (λ e. (omega arith, omega arith))
    (λ e. pick_elim (Among 3) (ltb n 100) 2 _ (λ e. (omega arith, omega arith))
    (λ e. pick_elim (Among 3) (ltb n 1000) 3 _ (λ e. (omega arith, omega arith)) (λ f. absurd (omega (arith, ltb-false n 1000 f)))))

octet-three : (a place : ℕ) → Among 3 (digits (octet a place))
octet-three a place = digits-three (octet a place) (omega arith)

-- "From 9 to 21"
pub text-length : (a : ℕ) → (9 ≤ text_length a) × (text_length a ≤ 21)
unfolding text_length
text-length a =
    let a3 = octet-three a 3 in
    let a2 = octet-three a 2 in
    let a1 = octet-three a 1 in
    let a0 = octet-three a 0 in
    let p = digits_few (port a) in
    (omega arith, omega arith)

one : (f n : ℕ) → n < 10 → length (decimal_in f n) ≡ 1
unfolding decimal_in
one zero n h = refl
one (suc f) n h =
    (elim (ltb n 10) as (λ u. ltb n 10 ≡ u → length {A = ℕ} (elim u [ true ↦ (n + 48) ∷ [] | false ↦ decimal_in f (n / 10) ++ ((n % 10 + 48) ∷ []) ]) ≡ 1) [
      | true ↦ λ e. refl
      | false ↦ λ e. absurd (omega (arith, ltb-false n 10 e))
    ]) refl

more : (f n : ℕ) → 10 ≤ n → length (decimal_in (suc f) n) ≡ length (decimal_in f (n / 10)) + 1
unfolding decimal_in
more f n h =
    (elim (ltb n 10) as (λ u. ltb n 10 ≡ u → length {A = ℕ} (elim u [ true ↦ (n + 48) ∷ [] | false ↦ decimal_in f (n / 10) ++ ((n % 10 + 48) ∷ []) ]) ≡ length (decimal_in f (n / 10)) + 1) [
      | true ↦ λ e. absurd (omega (arith, ltb-true n 10 e))
      | false ↦ λ e. length-append (decimal_in f (n / 10)) ((n % 10 + 48) ∷ [])
    ]) refl

abbrev Digits : ℕ → ℕ → Type 0
Digits n k = length (decimal n) ≡ k

pub decimal-length : (n : ℕ) → n < 100000 → length (decimal n) ≡ digits n
unfolding digits
decimal-length n h =
    pick_elim (Digits n) (ltb n 10) 1 _ (λ e. one 4 n (ltb-true n 10 e))
    (λ a.
    let a' : 10 ≤ n = ltb-false n 10 a in
    pick_elim (Digits n) (ltb n 100) 2 _ (λ e. let e' : n < 100 = ltb-true n 100 e in omega (arith, more 3 n a', one 3 (n / 10) (omega arith)))
    (λ b.
    let b' : 100 ≤ n = ltb-false n 100 b in
    pick_elim (Digits n) (ltb n 1000) 3 _
    (λ e. let e' : n < 1000 = ltb-true n 1000 e in omega (arith, more 3 n a', more 2 (n / 10) (omega arith), one 2 (n / 10 / 10) (omega arith)))
    (λ c.
    let c' : 1000 ≤ n = ltb-false n 1000 c in
    pick_elim (Digits n) (ltb n 10000) 4 5
    (λ e.
    let e' : n < 10000 = ltb-true n 10000 e in
    omega (arith, more 3 n a', more 2 (n / 10) (omega arith), more 1 (n / 10 / 10) (omega arith), one 1 (n / 10 / 10 / 10) (omega arith)))
    (λ d.
    let d' : 10000 ≤ n = ltb-false n 10000 d in
    omega (
      arith,
      more 3 n a',
      more 2 (n / 10) (omega arith),
      more 1 (n / 10 / 10) (omega arith),
      more 0 (n / 10 / 10 / 10) (omega arith),
      one 0 (n / 10 / 10 / 10 / 10) (omega arith),
    )))))

-- the text is as long as the rule says
pub text_is_long : (a : ℕ) → length (text a) ≡ text_length a
unfolding text_length
text_is_long a =
    let a3 : List ℕ = decimal (octet a 3) in
    let a2 : List ℕ = 46 ∷ decimal (octet a 2) in
    let a1 : List ℕ = 46 ∷ decimal (octet a 1) in
    let a0 : List ℕ = 46 ∷ decimal (octet a 0) in
    let p : List ℕ = 58 ∷ decimal (port a) in
    omega (
      arith,
      length-append (a3 ++ a2 ++ a1 ++ a0) p,
      length-append (a3 ++ a2 ++ a1) a0,
      length-append (a3 ++ a2) a1,
      length-append a3 a2,
      decimal-length (octet a 3) (omega arith),
      decimal-length (octet a 2) (omega arith),
      decimal-length (octet a 1) (omega arith),
      decimal-length (octet a 0) (omega arith),
      decimal-length (port a) (omega arith),
    )
