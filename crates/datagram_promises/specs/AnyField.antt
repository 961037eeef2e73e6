-- A FIELD OF ANY WIRE TYPE, IN ANY SPELLING: its key, its number or its count need not be the shortest. The reader finds it, with its number and its length, whatever stands behind it.
-- Assumes nothing.
use Rattle.std.specs.Prelude.{◌≡◌}
use mathlib.Core.List.{List, [], ◌∷◌, ◌++◌}
use Prim.Native.Nat.{ℕ, suc, ◌+◌, ◌*◌, ◌^◌, ◌<◌}
use Rattle.std.proofs.Math.ListN.{length}
use Rattle.fields.specs.declared.Field.{Field}

-- a number in so many bytes at most: seven bits a byte, the lowest first, and 128 more in each byte but the last
pub data Spells : ℕ → ℕ → List ℕ → Type 0 where
  spells_last : (f b : ℕ) → b < 128 → Spells (suc f) b (b ∷ [])
  spells_more : (f b v : ℕ) (bytes : List ℕ) → b < 128 → Spells f v bytes → Spells (suc f) (b + 128 * v) ((b + 128) ∷ bytes)

-- a field of number n that holds bytes: its key, their count, and they
pub record Holds (n : ℕ) (field bytes : List ℕ) : Type 0 where
  pub key : List ℕ
  pub count : List ℕ
  pub is : field ≡ key ++ (count ++ bytes)
  pub key_says : Spells 10 (n * 8 + 2) key
  pub count-says : Spells 10 (length bytes) count
  pub few : length bytes < 2 ^ 64

-- and one that holds a number
pub record Numbers (n : ℕ) (field : List ℕ) (v : ℕ) : Type 0 where
  pub key : List ℕ
  pub value : List ℕ
  pub is : field ≡ key ++ value
  pub key_says : Spells 10 (n * 8 + 0) key
  pub value-says : Spells 10 v value
  pub small : v < 2 ^ 64

-- a field of any of the four wire types: a varint, eight bytes, a count and as many bytes, four bytes
pub data OfAnyWire (n : ℕ) : List ℕ → Type 0 where
  wire_0 : (field : List ℕ) (v : ℕ) → Numbers n field v → OfAnyWire n field
  wire_1 : (key bytes : List ℕ) → Spells 10 (n * 8 + 1) key → length bytes ≡ 8 → OfAnyWire n (key ++ bytes)
  wire_2 : (field bytes : List ℕ) → Holds n field bytes → OfAnyWire n field
  wire_5 : (key bytes : List ℕ) → Spells 10 (n * 8 + 5) key → length bytes ≡ 4 → OfAnyWire n (key ++ bytes)

-- a number, as it is found
abbrev pub number_field : {n v : ℕ} {field : List ℕ} → Numbers n field v → Field
number_field {n} {v} h = record { number = n; wire = 0; value = v; head = length h.key; size = length h.key + length h.value }

-- bytes, as they are found
abbrev pub bytes_field : {n : ℕ} {field bytes : List ℕ} → Holds n field bytes → Field
bytes_field {n} {field} {bytes} h =
    record { number = n; wire = 2; value = length bytes; head = length h.key + length h.count; size = length h.key + length h.count + length bytes }
