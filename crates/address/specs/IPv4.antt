-- An address of IPv4 as one number, ip × 65536 + port: its text is a.b.c.d:port.
-- Assumes nothing.
use Rattle.std.specs.Prelude.{ℕ, ◌+◌, ◌*◌, ◌/◌, ◌%◌, ◌^◌, ltb}
use Rattle.model.specs.Rows.{pick}

-- how many decimal digits a number below 100000 has
unfoldable pub digits : ℕ → ℕ
digits n = pick (ltb n 10) 1 (pick (ltb n 100) 2 (pick (ltb n 1000) 3 (pick (ltb n 10000) 4 5)))

-- the four numbers of a.b.c.d, and the port
abbrev pub octet : ℕ → ℕ → ℕ
octet a place = (a / 2 ^ (16 + 8 * place)) % 256

abbrev pub port : ℕ → ℕ
port a = a % 65536

-- three dots and a colon stand between the five numbers
unfoldable pub text_length : ℕ → ℕ
text_length a = digits (octet a 3) + digits (octet a 2) + digits (octet a 1) + digits (octet a 0) + digits (port a) + 4
