-- The text a.b.c.d:port of an address, byte by byte.
-- Assumes nothing.
use Rattle.std.specs.Prelude.{Bool, true, false, List, [], ◌∷◌, ◌++◌, ℕ, ◌+◌, ◌/◌, ◌%◌, zero, suc, ltb}
use Rattle.address.specs.IPv4.{octet, port}

-- a number in decimal, f digits more at most: 48 is the byte of 0
unfoldable pub decimal_in : ℕ → ℕ → List ℕ
decimal_in zero n = (n + 48) ∷ []
decimal_in (suc f) n = elim (ltb n 10) [ true ↦ (n + 48) ∷ [] | false ↦ decimal_in f (n / 10) ++ ((n % 10 + 48) ∷ []) ]

-- five digits are enough for a port
abbrev pub decimal : ℕ → List ℕ
decimal n = decimal_in 4 n

-- 46 is a dot, and 58 a colon
abbrev pub text : ℕ → List ℕ
text a =
    decimal (octet a 3)
    ++ (46 ∷ decimal (octet a 2))
    ++ (46 ∷ decimal (octet a 1))
    ++ (46 ∷ decimal (octet a 0))
    ++ (58 ∷ decimal (port a))
