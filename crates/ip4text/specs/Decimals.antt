-- A number in decimal: how its digits go, and that what is written reads back.
-- Assumes nothing.
use Rattle.std.specs.Prelude.{◌≡◌, refl, Bool, true, false, List, [], ◌∷◌, ◌++◌, ◌⊎◌, ℕ, zero, suc, ◌+◌, ◌*◌, ◌-◌, ◌/◌, ◌%◌, ◌^◌, ◌≤◌, ◌<◌, ltb, leb, length}
use Rattle.std.proofs.Common.{ap, sym, ◌∙◌, inl, inr, arith, pow-suc, lit<, length-append, lt-ltb, le-ltb, ltb-false, ltb-true, le-leb, eq-eqb, ne_eqb}
use Rattle.std.proofs.Math.Seq.{append_snoc}
use Rattle.std.proofs.lemmas.Bool.{lt-leb}
use Rattle.varint.specs.declared.Number.TheVariants.{Stopped, Found}
use Rattle.address.specs.Text.{decimal_in, decimal}
use Rattle.ip4text.specs.Reading.{is_digit, ended, digits_from, decimal_at}

-- how the digits are written: any number of them that is enough gives the same
one_in : (f n : ℕ) → n < 10 → decimal_in f n ≡ (n + 48) ∷ []
unfolding decimal_in
one_in zero n h = refl
one_in (suc f) n h = ap (λ (u : Bool). elim u [ true ↦ (n + 48) ∷ [] | false ↦ decimal_in f (n / 10) ++ ((n % 10 + 48) ∷ []) ]) (lt-ltb n 10 h)

more_in : (f n : ℕ) → 10 ≤ n → decimal_in (suc f) n ≡ decimal_in f (n / 10) ++ ((n % 10 + 48) ∷ [])
unfolding decimal_in
more_in f n h = ap (λ (u : Bool). elim u [ true ↦ (n + 48) ∷ [] | false ↦ decimal_in f (n / 10) ++ ((n % 10 + 48) ∷ []) ]) (le-ltb n 10 h)

tenth : (n m : ℕ) → n < m * 10 → n / 10 < m
tenth n m h = omega arith

same_in : (f g n : ℕ) → n < 10 ^ suc f → n < 10 ^ suc g → decimal_in f n ≡ decimal_in g n
same_in zero g n h k = one_in zero n h ∙ sym (one_in g n h)
same_in (suc f) zero n h k = one_in (suc f) n k ∙ sym (one_in zero n k)
same_in (suc f) (suc g) n h k =
    (elim (ltb n 10) as (λ u. ltb n 10 ≡ u → decimal_in (suc f) n ≡ decimal_in (suc g) n) [
      | true ↦ λ e. one_in (suc f) n (ltb-true n 10 e) ∙ sym (one_in (suc g) n (ltb-true n 10 e))
      | false ↦ λ e.
          more_in f n (ltb-false n 10 e)
          ∙ ap (λ (l : List ℕ). l ++ ((n % 10 + 48) ∷ []))
          (same_in f g (n / 10) (tenth n (10 ^ suc f) (rw pow-suc at h)) (tenth n (10 ^ suc g) (rw pow-suc at k)))
          ∙ sym (more_in g n (ltb-false n 10 e))
    ]) refl

pub decimal-one : (n : ℕ) → n < 10 → decimal n ≡ (n + 48) ∷ []
decimal-one n h = one_in 4 n h

pub decimal-more : (n : ℕ) → 10 ≤ n → n < 100000 → decimal n ≡ decimal (n / 10) ++ ((n % 10 + 48) ∷ [])
decimal-more n h k =
    let a : n / 10 < 10 ^ 4 = omega arith in
    let b : n / 10 < 10 ^ 5 = omega arith in
    more_in 3 n h ∙ ap (λ (l : List ℕ). l ++ ((n % 10 + 48) ∷ [])) (same_in 3 4 (n / 10) a b)

-- how they are read
digit : (b : ℕ) → 48 ≤ b → b ≤ 57 → is_digit b ≡ true
digit b h k = simp (le-leb 48 b h, le-leb b 57 k)

pub digits_more : (limit n k b : ℕ) (bytes : List ℕ) → 48 ≤ b → b ≤ 57 → n * 10 + (b - 48) ≤ limit
    → digits_from limit n k (b ∷ bytes) ≡ digits_from limit (n * 10 + (b - 48)) (suc k) bytes
unfolding digits_from
digits_more limit n k b bytes l h s =
    ap (λ (u : Bool). elim u [
      | true ↦ elim (leb (n * 10 + (b - 48)) limit) [ true ↦ digits_from limit (n * 10 + (b - 48)) (suc k) bytes | false ↦ Stopped ]
      | false ↦ ended n k
    ]) (digit b l h)
    ∙ ap (λ (u : Bool). elim u [ true ↦ digits_from limit (n * 10 + (b - 48)) (suc k) bytes | false ↦ Stopped ]) (le-leb (n * 10 + (b - 48)) limit s)

pub digits-over : (limit n k b : ℕ) (bytes : List ℕ) → 48 ≤ b → b ≤ 57 → limit < n * 10 + (b - 48)
    → digits_from limit n k (b ∷ bytes) ≡ Stopped
unfolding digits_from
digits-over limit n k b bytes l h s =
    ap (λ (u : Bool). elim u [
      | true ↦ elim (leb (n * 10 + (b - 48)) limit) [ true ↦ digits_from limit (n * 10 + (b - 48)) (suc k) bytes | false ↦ Stopped ]
      | false ↦ ended n k
    ]) (digit b l h)
    ∙ ap (λ (u : Bool). elim u [ true ↦ digits_from limit (n * 10 + (b - 48)) (suc k) bytes | false ↦ Stopped ]) (lt-leb (n * 10 + (b - 48)) limit s)

pub digits_low : (limit n k b : ℕ) (bytes : List ℕ) → b < 48 → digits_from limit n k (b ∷ bytes) ≡ ended n k
unfolding digits_from
digits_low limit n k b bytes l = simp (lt-leb 48 b l, digits_from)

pub digits_high : (limit n k b : ℕ) (bytes : List ℕ) → 57 < b → digits_from limit n k (b ∷ bytes) ≡ ended n k
unfolding digits_from
digits_high limit n k b bytes h = let l : 48 ≤ b = omega arith in simp (le-leb 48 b l, lt-leb b 57 h, digits_from)

pub digits_end : (limit n k : ℕ) → digits_from limit n k [] ≡ ended n k
unfolding digits_from
digits_end limit n k = refl

pub starts : (limit b : ℕ) (bytes : List ℕ) → (b ≡ 48 → ⊥) → decimal_at limit (b ∷ bytes) ≡ digits_from limit 0 0 (b ∷ bytes)
unfolding decimal_at
starts limit b bytes h = simp (ne_eqb b 48 h)

pub zero_alone : (limit b : ℕ) (bytes : List ℕ) → b ≡ 48 → decimal_at limit (b ∷ bytes) ≡ Found 0 1
unfolding decimal_at
zero_alone limit b bytes h = simp (eq-eqb b 48 h)

pub nothing-there : (limit : ℕ) → decimal_at limit [] ≡ Stopped
unfolding decimal_at
nothing-there limit = refl

-- the digits of a number that is not 0 say it
one-back : (f limit n : ℕ) (rest : List ℕ) → 1 ≤ n → n < 10 → n ≤ limit
    → decimal_at limit (decimal_in f n ++ rest) ≡ digits_from limit n (length (decimal_in f n)) rest
one-back f limit n rest p h s =
    let v : 0 * 10 + (n + 48 - 48) ≡ n = omega arith in
    rw (one_in f n h)
    (starts limit (n + 48) rest (λ e. omega arith)
    ∙ digits_more limit 0 0 (n + 48) rest (omega arith) (omega arith) (omega arith)
    ∙ ap (λ (x : ℕ). digits_from limit x 1 rest) v)

more-back : (f limit n : ℕ) (rest : List ℕ) → 10 ≤ n → n ≤ limit
    → ((rest : List ℕ) → decimal_at limit (decimal_in f (n / 10) ++ rest) ≡ digits_from limit (n / 10) (length (decimal_in f (n / 10))) rest)
    → decimal_at limit (decimal_in (suc f) n ++ rest) ≡ digits_from limit n (length (decimal_in (suc f) n)) rest
more-back f limit n rest h s back =
    let v : n / 10 * 10 + (n % 10 + 48 - 48) ≡ n = omega arith in
    let w : suc (length (decimal_in f (n / 10))) ≡ length (decimal_in f (n / 10) ++ ((n % 10 + 48) ∷ [])) =
    omega (arith, length-append (decimal_in f (n / 10)) ((n % 10 + 48) ∷ [])) in
    rw (more_in f n h)
    (ap (decimal_at limit) (append_snoc (decimal_in f (n / 10)) (n % 10 + 48) rest)
    ∙ back ((n % 10 + 48) ∷ rest)
    ∙ digits_more limit (n / 10) (length (decimal_in f (n / 10))) (n % 10 + 48) rest (omega arith) (omega arith) (omega arith)
    ∙ ap (λ (x : ℕ). digits_from limit x (suc (length (decimal_in f (n / 10)))) rest) v
    ∙ ap (λ (x : ℕ). digits_from limit n x rest) w)

back_in : (f limit n : ℕ) (rest : List ℕ) → 1 ≤ n → n ≤ limit → n < 10 ^ suc f
    → decimal_at limit (decimal_in f n ++ rest) ≡ digits_from limit n (length (decimal_in f n)) rest
back_in zero limit n rest p s h = one-back zero limit n rest p h s
back_in (suc f) limit n rest p s h =
    (elim (ltb n 10) as (λ u. ltb n 10 ≡ u → decimal_at limit (decimal_in (suc f) n ++ rest) ≡ digits_from limit n (length (decimal_in (suc f) n)) rest) [
      | true ↦ λ e. one-back (suc f) limit n rest p (ltb-true n 10 e) s
      | false ↦ λ e.
          let e' : 10 ≤ n = ltb-false n 10 e in
          more-back f limit n rest e' s (λ r. back_in f limit (n / 10) r (omega arith) (omega arith) (tenth n (10 ^ suc f) (rw pow-suc at h)))
    ]) refl

-- what can stand behind a number: nothing, or no digit
unfoldable pub NoDigit : List ℕ → Type 0
NoDigit [] = Unit
NoDigit (b ∷ bytes) = b < 48 ⊎ 57 < b

digits_stop : (limit n k : ℕ) (rest : List ℕ) → NoDigit rest → digits_from limit n k rest ≡ ended n k
unfolding NoDigit
digits_stop limit n k [] h = digits_end limit n k
digits_stop limit n k (b ∷ bytes) (inl l) = digits_low limit n k b bytes l
digits_stop limit n k (b ∷ bytes) (inr l) = digits_high limit n k b bytes l

pub ended_some : (n k : ℕ) → 1 ≤ k → ended n k ≡ Found n k
unfolding ended
ended_some n k h = simp (ne_eqb k 0 (λ e. omega arith))

pub decimal-some : (n : ℕ) → 1 ≤ length (decimal n)
unfolding decimal_in
decimal-some n =
    (elim (ltb n 10) as (λ u. ltb n 10 ≡ u → 1 ≤ length (decimal n)) [
      | true ↦ λ e. rw (one_in 4 n (ltb-true n 10 e)) (omega arith)
      | false ↦ λ e. rw (more_in 3 n (ltb-false n 10 e)) (omega (arith, length-append (decimal_in 3 (n / 10)) ((n % 10 + 48) ∷ [])))
    ]) refl

-- what is written reads back
pub decimal-back : (limit n : ℕ) (rest : List ℕ) → n ≤ limit → n < 100000 → NoDigit rest → decimal_at limit (decimal n ++ rest) ≡ Found n (length (decimal n))
decimal-back limit zero rest s h d = rw (decimal-one zero (lit< tt)) (zero_alone limit 48 rest refl)
decimal-back limit (suc n) rest s h d =
    back_in 4 limit (suc n) rest (omega arith) s h
    ∙ digits_stop limit (suc n) (length (decimal (suc n))) rest d
    ∙ ended_some (suc n) (length (decimal (suc n))) (decimal-some (suc n))
