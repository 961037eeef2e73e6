-- Reading a number digit by digit: what each way out of the functions says of the word.
-- Assumes nothing.
use mathlib.Core.Path.{◌≡◌, refl, sym, ap, ◌∙◌}
use mathlib.Core.Bool.{Bool, true, false, ◌&&◌, not}
use mathlib.Core.List.{List, [], ◌∷◌}
use Prim.Native.Nat.{ℕ, zero, suc, ◌+◌, ◌*◌, ◌-◌, ◌^◌, ◌≤◌, ◌<◌}
use native.Mathlib.Omega.{arith}
use native.Mathlib.Nat.{le_refl, le_trans}
use lib.Dec.{eqb, ltb, leb}
use native.Mathlib.Numerals.{add-one}
use lib.ListN.{length, drop, get_or}
use lib.Seq.{drop-cons}
use borrow.Author.Tests.{lt-ltb, le-ltb, ltb-true, ltb-false, le-leb, lt-leb}
use Rattle.words.specs.declared.Number.{Number}
use Rattle.words.specs.declared.Number.TheVariants.{Malformed, Value}
use Rattle.words.specs.Decimal.{is_digit, digits_only, value_after, begun, only, appended, digits_after, number_of}

pub appended_low : (n b : ℕ) → b < 48 → Malformed ≡ appended n b
unfolding appended only
appended_low n b h = simp (lt-leb 48 b h)

pub appended_high : (n b : ℕ) → 57 < b → Malformed ≡ appended n b
unfolding appended only
appended_high n b h = simp (le-leb 48 b (omega arith), lt-leb b 57 h)

pub appended-past : (n b : ℕ) → 48 ≤ b → b ≤ 57 → 2 ^ 64 ≤ n * 10 + (b - 48) → Malformed ≡ appended n b
unfolding appended only
appended-past n b l h p = simp (le-leb 48 b l, le-leb b 57 h, le-ltb (n * 10 + (b - 48)) (2 ^ 64) p)

pub appended_fits : (n b m : ℕ) → 48 ≤ b → b ≤ 57 → m ≡ n * 10 + (b - 48) → m < 2 ^ 64 → Value m ≡ appended n b
unfolding appended only
appended_fits n b m l h e p = rw e (simp (le-leb 48 b l, le-leb b 57 h, lt-ltb (n * 10 + (b - 48)) (2 ^ 64) (omega arith)))

-- a value only grows
grows : (n : ℕ) (w : List ℕ) → n ≤ value_after n w
unfolding value_after
grows n [] = le_refl n
grows n (b ∷ bs) = le_trans (omega arith) (grows (n * 10 + (b - 48)) bs)

both : (t u : Bool) (x m : ℕ) → only (t && u) x ≡ Value m → (t ≡ true) × (u ≡ true) × (m ≡ x)
unfolding only
both true true x m e = (refl, refl, cc)
both true false x m e = let z : ◌≡◌ {A = ℕ} 0 1 = cc in absurd (omega arith)
both false u x m e = let z : ◌≡◌ {A = ℕ} 0 1 = cc in absurd (omega arith)

and_false : (t : Bool) → (t && false) ≡ false
and_false true = refl
and_false false = refl

pub digits_end : (n : ℕ) → n < 2 ^ 64 → Value n ≡ digits_after n []
unfolding digits_after value_after digits_only only
digits_end n h = simp (lt-ltb n (2 ^ 64) h)

pub digits_more : (n b m : ℕ) (bs : List ℕ) → Value m ≡ appended n b → digits_after n (b ∷ bs) ≡ digits_after m bs
unfolding digits_after value_after digits_only appended
digits_more n b m bs e =
    let f = both (is_digit b) (ltb (n * 10 + (b - 48)) (2 ^ 64)) (n * 10 + (b - 48)) m (sym e) in
    ap (λ (t : Bool). only (ltb (value_after (n * 10 + (b - 48)) bs) (2 ^ 64) && (t && digits_only bs)) (value_after (n * 10 + (b - 48)) bs)) f.0
    ∙ ap (λ (x : ℕ). only (ltb (value_after x bs) (2 ^ 64) && digits_only bs) (value_after x bs)) (sym f.2)

pub appended-small : (n b m : ℕ) → Value m ≡ appended n b → m < 2 ^ 64
unfolding appended
appended-small n b m e =
    let f = both (is_digit b) (ltb (n * 10 + (b - 48)) (2 ^ 64)) (n * 10 + (b - 48)) m (sym e) in
    omega (arith, ltb-true (n * 10 + (b - 48)) (2 ^ 64) f.1, f.2)

stops : (t u : Bool) (x : ℕ) (y : ℕ) (rest : Bool) → only (t && u) x ≡ Malformed → (u ≡ false → ltb y (2 ^ 64) ≡ false) → Malformed ≡ only (ltb y (2 ^ 64) && (t && rest)) y
unfolding only
stops true true x y rest e g = let z : ◌≡◌ {A = ℕ} 0 1 = cc in absurd (omega arith)
stops true false x y rest e g = ap (λ (p : Bool). only (p && rest) y) (sym (g refl))
stops false u x y rest e g = ap (λ (p : Bool). only p y) (sym (and_false (ltb y (2 ^ 64))))

pub digits_stop : (n b : ℕ) (bs : List ℕ) → Malformed ≡ appended n b → Malformed ≡ digits_after n (b ∷ bs)
unfolding digits_after value_after digits_only appended
digits_stop n b bs e =
    stops (is_digit b) (ltb (n * 10 + (b - 48)) (2 ^ 64)) (n * 10 + (b - 48)) (value_after (n * 10 + (b - 48)) bs) (digits_only bs) (sym e)
    (λ u. le-ltb (value_after (n * 10 + (b - 48)) bs) (2 ^ 64) (le_trans (ltb-false _ _ u) (grows (n * 10 + (b - 48)) bs)))

-- at a place of a word: what the whole says, the value so far and the rest say
module _ (w : List ℕ) (n i : ℕ) (h : i < length w) (e : digits_after 0 w ≡ digits_after n (drop i w)) where
  pub stop_at : Malformed ≡ appended n (get_or w i 0) → Malformed ≡ digits_after 0 w
  stop_at a = digits_stop n (get_or w i 0) (drop (suc i) w) a ∙ ap (digits_after n) (sym (drop-cons w i 0 h)) ∙ sym e

  pub more-at : (m : ℕ) → Value m ≡ appended n (get_or w i 0) → digits_after 0 w ≡ digits_after m (drop (i + 1) w)
  more-at m a =
      e ∙ ap (digits_after n) (drop-cons w i 0 h) ∙ digits_more n (get_or w i 0) m (drop (suc i) w) a
      ∙ ap (λ (k : ℕ). digits_after m (drop k w)) (sym (add-one i))

pub end-at : (w : List ℕ) (n i : ℕ) → n < 2 ^ 64 → length w ≤ i → digits_after 0 w ≡ digits_after n (drop i w) → Value n ≡ digits_after 0 w
end-at w n i s h e = digits_end n s ∙ ap (digits_after n) (sym (past w i h)) ∙ sym e
  where
    past : (l : List ℕ) (j : ℕ) → length l ≤ j → drop j l ≡ []
    past [] zero k = refl
    past [] (suc j) k = refl
    past (x ∷ xs) zero k = absurd (omega arith)
    past (x ∷ xs) (suc j) k = past xs j (omega arith)

pub begun-none : (w : List ℕ) → length w ≡ 0 → false ≡ begun w
unfolding begun
begun-none [] h = refl
begun-none (b ∷ bs) h = absurd (omega arith)

pub begun-one : (w : List ℕ) → length w ≡ 1 → true ≡ begun w
unfolding begun
begun-one [] h = absurd (omega arith)
begun-one (b ∷ []) h = refl
begun-one (b ∷ c ∷ bs) h = absurd (omega arith)

pub begun_more : (w : List ℕ) → (length w ≡ 0 → ⊥) → (length w ≡ 1 → ⊥) → not (eqb (get_or w 0 0) 48) ≡ begun w
unfolding begun
begun_more [] n o = absurd (n refl)
begun_more (b ∷ []) n o = absurd (o refl)
begun_more (b ∷ c ∷ bs) n o = refl

pub number_digits : (w : List ℕ) → begun w ≡ true → digits_after 0 w ≡ number_of w
unfolding digits_after number_of
number_digits w e = rw e

pub number-none : (w : List ℕ) → begun w ≡ false → Malformed ≡ number_of w
unfolding number_of only
number-none w e = rw e
