-- The versions of a saved list: the bytes of an address in each, and which addresses need the second.
-- Assumes nothing.
use Rattle.std.specs.Prelude.{Bool, [], ℕ, eqb}
use Rattle.std.proofs.Common.{arith}
use Rattle.address.specs.Here.{Addr}
use Rattle.numbers.specs.Codec.{Codec, number, And, both, via}
use Rattle.image.specs.Image.{Form}
use Rattle.image.specs.Forms.{Forms, form}

-- "own address in 8 bytes": an address of IPv4 is ip × 65536 + port, so the port stands in the last two
abbrev pub eight : Codec (And ℕ ℕ)
eight = both (number 6) (number 2)

abbrev pub of4 : Addr → And ℕ ℕ
of4 a = record { first = a.low; second = a.port }

abbrev pub to4 : And ℕ ℕ → Addr
to4 p = record { family = 4; port = p.second; high = 0; low = p.first }

abbrev pub v1 : Form Addr
v1 = record { version = 1; address = via eight of4 to4 }

-- "an address takes 19 bytes: family 4 or 6, sixteen of address (IPv4 in the last four, zeros before), two of port"
abbrev pub nineteen : Codec (And ℕ (And ℕ (And ℕ ℕ)))
nineteen = both (number 1) (both (number 8) (both (number 8) (number 2)))

abbrev pub of6 : Addr → And ℕ (And ℕ (And ℕ ℕ))
of6 a = record { first = a.family; second = record { first = a.high; second = record { first = a.low; second = a.port } } }

abbrev pub to6 : And ℕ (And ℕ (And ℕ ℕ)) → Addr
to6 p = record { family = p.first; port = p.second.second.second; high = p.second.first; low = p.second.second.first }

abbrev pub v2 : Form Addr
v2 = record { version = 2; address = via nineteen of6 to6 }

-- "A list with an IPv6 address, own included, is saved as version 2 .. All others are version 1"
abbrev pub is_v6 : Addr → Bool
is_v6 a = eqb a.family 6

abbrev pub versions : Forms Addr
versions = record { narrow = v1; wide = v2; is_wide = is_v6 }

-- version 2 is the wide one
abbrev pub version : Bool → Form Addr
version wide = form versions wide
