-- Reading an address from text: a.b.c.d:port, with no leading zeros, four numbers up to 255 and a port up to 65535.
-- Assumes nothing.
use Rattle.std.specs.Prelude.{Bool, true, false, ◌&&◌, List, [], ◌∷◌, ℕ, zero, suc, ◌+◌, ◌*◌, ◌-◌, eqb, leb, length, get_or, drop}
use Rattle.model.specs.Rows.{pick}
use Rattle.varint.specs.declared.Number.{Number}
use Rattle.varint.specs.declared.Number.TheVariants.{Stopped, Found}
use Rattle.ip4text.specs.declared.Text.{Text}
use Rattle.ip4text.specs.declared.Text.TheVariants.{Empty, Malformed, Given}

-- 48 to 57 are the bytes of the digits
abbrev pub is_digit : ℕ → Bool
is_digit b = leb 48 b && leb b 57

-- k digits that say n: none are no number
unfoldable pub ended : ℕ → ℕ → Number
ended n k = pick (eqb k 0) Stopped (Found n k)

-- digits behind k others that say n
unfoldable pub digits_from : ℕ → ℕ → ℕ → List ℕ → Number
digits_from limit n k [] = ended n k
digits_from limit n k (b ∷ bytes) =
    elim (is_digit b) [
      | true ↦ elim (leb (n * 10 + (b - 48)) limit) [ true ↦ digits_from limit (n * 10 + (b - 48)) (suc k) bytes | false ↦ Stopped ]
      | false ↦ ended n k
    ]

-- the decimal number at the start, and how many digits it has; a zero stands alone
unfoldable pub decimal_at : ℕ → List ℕ → Number
decimal_at limit [] = Stopped
decimal_at limit (b ∷ bytes) = pick (eqb b 48) (Found 0 1) (digits_from limit 0 0 (b ∷ bytes))

-- 58 is a colon, which stands behind the last of the four numbers, and 46 a dot
unfoldable pub mark : ℕ → ℕ
mark left = pick (eqb left 1) 58 46

-- a number with a mark behind it, which is counted with it
unfoldable pub marked : ℕ → List ℕ → Number → Number
marked m bytes Stopped = Stopped
marked m bytes (Found n k) = pick (eqb (get_or bytes k 0) m) (Found n (suc k)) Stopped

-- a number of at most 255 with a mark behind it
unfoldable pub part_at : ℕ → List ℕ → Number
part_at m bytes = marked m bytes (decimal_at 255 bytes)

-- a port that ends with the text
unfoldable pub closed : ℕ → List ℕ → Number → Text
closed ip bytes Stopped = Malformed
closed ip bytes (Found n k) = pick (eqb k (length bytes)) (Given (ip * 65536 + n)) Malformed

-- the numbers that are left, behind those that say ip
unfoldable pub parts_from : ℕ → ℕ → List ℕ → Text
parts_from zero ip bytes = closed ip bytes (decimal_at 65535 bytes)
parts_from (suc left) ip bytes =
    elim (part_at (mark (suc left)) bytes) [ Stopped ↦ Malformed | Found n k ↦ parts_from left (ip * 256 + n) (drop k bytes) ]

-- the address that a text says
unfoldable pub text_of : List ℕ → Text
text_of [] = Empty
text_of (b ∷ bytes) = parts_from 4 0 (b ∷ bytes)
