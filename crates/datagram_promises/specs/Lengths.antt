-- How many bytes a varint takes, and that one that was read took no fewer.
-- Assumes nothing.
use Rattle.std.specs.Prelude.{List, [], ◌∷◌, ℕ, ◌<◌, length}
use Rattle.types.specs.Wire.{varint}

-- bytes as a host lends them: each below 256
pub data Octets : List ℕ → Type 0 where
  none : Octets []
  octet : {b : ℕ} {bytes : List ℕ} → b < 256 → Octets bytes → Octets (b ∷ bytes)

abbrev pub long : ℕ → ℕ
long n = length (varint n)
