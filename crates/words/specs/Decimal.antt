-- A word as a number: "every number is decimal, without sign or leading zeros", and below 2^64.
-- Assumes nothing.
use Rattle.std.specs.Prelude.{ℕ, zero, suc, ◌+◌, ◌*◌, ◌-◌, ◌^◌, Bool, true, false, ◌&&◌, not, List, [], ◌∷◌, eqb, ltb, leb}
use Rattle.words.specs.declared.Number.{Number}
use Rattle.words.specs.declared.Number.TheVariants.{Malformed, Value}

abbrev pub is_digit : ℕ → Bool
is_digit b = leb 48 b && leb b 57

unfoldable pub digits_only : List ℕ → Bool
digits_only [] = true
digits_only (b ∷ bs) = is_digit b && digits_only bs

-- the decimal value of digits that follow those of n
unfoldable pub value_after : ℕ → List ℕ → ℕ
value_after n [] = n
value_after n (b ∷ bs) = value_after (n * 10 + (b - 48)) bs

-- a first byte, and no zero in front of another
unfoldable pub begun : List ℕ → Bool
begun [] = false
begun (b ∷ []) = true
begun (b ∷ c ∷ bs) = not (eqb b 48)

unfoldable pub only : Bool → ℕ → Number
only true n = Value n
only false n = Malformed

-- one more digit after the ones that gave n
unfoldable pub appended : ℕ → ℕ → Number
appended n b = only (is_digit b && ltb (n * 10 + (b - 48)) (2 ^ 64)) (n * 10 + (b - 48))

-- digits that follow those of n, in so far as they are digits and the value stays below 2^64
unfoldable pub digits_after : ℕ → List ℕ → Number
digits_after n w = only (ltb (value_after n w) (2 ^ 64) && digits_only w) (value_after n w)

-- refused exactly if empty, with a leading zero, with another byte than digits, or at 2^64 or more
unfoldable pub number_of : List ℕ → Number
number_of w = only (begun w && (ltb (value_after 0 w) (2 ^ 64) && digits_only w)) (value_after 0 w)
