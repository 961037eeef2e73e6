-- How long a number is in a base, and how its digits go.
-- Assumes nothing.
use Rattle.std.specs.Prelude.{◌≡◌, refl, Bool, true, false, List, [], ◌∷◌, ◌++◌, ℕ, zero, suc, ◌+◌, ◌*◌, ◌-◌, ◌/◌, ◌%◌, ◌^◌, ◌≤◌, ◌<◌, ltb, length}
use Rattle.std.proofs.Common.{ap, sym, ◌∙◌, arith, pow-suc, div-lt_iff_lt-mul, lt_of_lt_of_le, mul-le-mul_left, length-append, lt-ltb, le-ltb, ltb-true, ltb-false}
use Rattle.ip6.specs.Text6.{digit, numeral_in, decimal, hex}

pub one_in : (b f n : ℕ) → n < b → numeral_in b f n ≡ digit n ∷ []
unfolding numeral_in
one_in b zero n h = refl
one_in b (suc f) n h = ap (λ (u : Bool). elim u [ true ↦ digit n ∷ [] | false ↦ numeral_in b f (n / b) ++ (digit (n % b) ∷ []) ]) (lt-ltb n b h)

pub more_in : (b f n : ℕ) → b ≤ n → numeral_in b (suc f) n ≡ numeral_in b f (n / b) ++ (digit (n % b) ∷ [])
unfolding numeral_in
more_in b f n h = ap (λ (u : Bool). elim u [ true ↦ digit n ∷ [] | false ↦ numeral_in b f (n / b) ++ (digit (n % b) ∷ []) ]) (le-ltb n b h)

pub one-long : (b f n : ℕ) → n < b → length (numeral_in b f n) ≡ 1
one-long b f n h = ap (λ (l : List ℕ). length l) (one_in b f n h)

pub more-long : (b f n k : ℕ) → b ≤ n → length (numeral_in b f (n / b)) ≡ k → length (numeral_in b (suc f) n) ≡ k + 1
more-long b f n k h e =
    ap (λ (l : List ℕ). length l) (more_in b f n h) ∙ length-append (numeral_in b f (n / b)) (digit (n % b) ∷ []) ∙ ap (λ (x : ℕ). x + 1) e

-- lengths in hexadecimal
pub hex_1 : (n : ℕ) → n < 16 → length (hex n) ≡ 1
hex_1 n h = one-long 16 4 n h

pub hex_2 : (n : ℕ) → 16 ≤ n → n < 256 → length (hex n) ≡ 2
hex_2 n l h = more-long 16 3 n 1 l (one-long 16 3 (n / 16) (omega arith))

pub hex_3 : (n : ℕ) → 256 ≤ n → n < 4096 → length (hex n) ≡ 3
hex_3 n l h = more-long 16 3 n 2 (omega arith) (more-long 16 2 (n / 16) 1 (omega arith) (one-long 16 2 (n / 16 / 16) (omega arith)))

pub hex_4 : (n : ℕ) → 4096 ≤ n → n < 65536 → length (hex n) ≡ 4
hex_4 n l h =
    more-long 16 3 n 3 (omega arith)
    (more-long 16 2 (n / 16) 2 (omega arith) (more-long 16 1 (n / 16 / 16) 1 (omega arith) (one-long 16 1 (n / 16 / 16 / 16) (omega arith))))

-- and in decimal
pub decimal_1 : (n : ℕ) → n < 10 → length (decimal n) ≡ 1
decimal_1 n h = one-long 10 4 n h

pub decimal_2 : (n : ℕ) → 10 ≤ n → n < 100 → length (decimal n) ≡ 2
decimal_2 n l h = more-long 10 3 n 1 l (one-long 10 3 (n / 10) (omega arith))

pub decimal_3 : (n : ℕ) → 100 ≤ n → n < 1000 → length (decimal n) ≡ 3
decimal_3 n l h = more-long 10 3 n 2 (omega arith) (more-long 10 2 (n / 10) 1 (omega arith) (one-long 10 2 (n / 10 / 10) (omega arith)))

pub decimal_4 : (n : ℕ) → 1000 ≤ n → n < 10000 → length (decimal n) ≡ 4
decimal_4 n l h =
    more-long 10 3 n 3 (omega arith)
    (more-long 10 2 (n / 10) 2 (omega arith) (more-long 10 1 (n / 10 / 10) 1 (omega arith) (one-long 10 1 (n / 10 / 10 / 10) (omega arith))))

pub decimal_5 : (n : ℕ) → 10000 ≤ n → n < 100000 → length (decimal n) ≡ 5
decimal_5 n l h =
    more-long 10 3 n 4 (omega arith)
    (more-long 10 2 (n / 10) 3 (omega arith)
    (more-long 10 1 (n / 10 / 10) 2 (omega arith)
    (more-long 10 0 (n / 10 / 10 / 10) 1 (omega arith) (one-long 10 0 (n / 10 / 10 / 10 / 10) (omega arith)))))

-- any number of digits that is enough gives the same
tenth : (b n m : ℕ) → 10 ≤ b → n < m * 10 → n / b < m
tenth b n m k h = (div-lt_iff_lt-mul {k = b} {x = n} {y = m} (omega arith)).1 (lt_of_lt_of_le h (mul-le-mul_left m k))

same_in : (b f g n : ℕ) → 10 ≤ b → n < 10 ^ suc f → n < 10 ^ suc g → numeral_in b f n ≡ numeral_in b g n
same_in b zero g n t h k = let s : n < b = omega arith in one_in b zero n s ∙ sym (one_in b g n s)
same_in b (suc f) zero n t h k = let s : n < b = omega arith in one_in b (suc f) n s ∙ sym (one_in b zero n s)
same_in b (suc f) (suc g) n t h k =
    (elim (ltb n b) as (λ u. ltb n b ≡ u → numeral_in b (suc f) n ≡ numeral_in b (suc g) n) [
      | true ↦ λ e. one_in b (suc f) n (ltb-true n b e) ∙ sym (one_in b (suc g) n (ltb-true n b e))
      | false ↦ λ e.
          more_in b f n (ltb-false n b e)
          ∙ ap (λ (l : List ℕ). l ++ (digit (n % b) ∷ []))
          (same_in b f g (n / b) t (tenth b n (10 ^ suc f) t (rw pow-suc at h)) (tenth b n (10 ^ suc g) t (rw pow-suc at k)))
          ∙ sym (more_in b g n (ltb-false n b e))
    ]) refl

pub small-part : (b n m : ℕ) → 10 ≤ b → n < m * 10 → n / b < m
small-part b n m k h = tenth b n m k h

pub numeral_more : (b n : ℕ) → 10 ≤ b → b ≤ n → n < 65536 → numeral_in b 4 n ≡ numeral_in b 4 (n / b) ++ (digit (n % b) ∷ [])
numeral_more b n t h k =
    let x : n / b < 10 ^ 4 = tenth b n 10000 t (omega arith) in
    let y : n / b < 10 ^ 5 = omega arith in
    more_in b 3 n h ∙ ap (λ (l : List ℕ). l ++ (digit (n % b) ∷ [])) (same_in b 3 4 (n / b) t x y)
