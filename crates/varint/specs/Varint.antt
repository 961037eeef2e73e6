-- Reading a varint. How one is written stands in `types`, `Wire`.
-- Assumes nothing.
use Rattle.std.specs.Prelude.{true, false, List, [], ◌∷◌, ℕ, zero, suc, ◌+◌, ◌*◌, ◌-◌, ◌^◌, ltb}
use Rattle.model.specs.Rows.{pick}
use Rattle.varint.specs.declared.Number.{Number}
use Rattle.varint.specs.declared.Number.TheVariants.{Stopped, Found}

-- seven bits below what the bytes behind them say
unfoldable pub above : ℕ → Number → Number
above low Stopped = Stopped
above low (Found value size) = Found (low + 128 * value) (suc size)

-- a byte of 128 or more has bytes behind it; f bytes at most
unfoldable pub number_in : ℕ → List ℕ → Number
number_in zero bytes = Stopped
number_in (suc f) [] = Stopped
number_in (suc f) (b ∷ bytes) = elim (ltb b 128) [ true ↦ Found b 1 | false ↦ above (b - 128) (number_in f bytes) ]

-- a greater number is none
unfoldable pub below64 : Number → Number
below64 Stopped = Stopped
below64 (Found value size) = pick (ltb value (2 ^ 64)) (Found value size) Stopped

-- a varint of at most ten bytes, and a number below 2^64
unfoldable pub number_at : List ℕ → Number
number_at bytes = below64 (number_in 10 bytes)
