-- The number of steps is exact: with one record a message and no deaths held, nothing leaves before each entry but the last send of each was sent. So of 128 that were never sent none leaves
-- for 128 × (limit − 1) steps, and the next one frees a place.
-- Assumes nothing.
use Rattle.std.specs.Prelude.{◌≡◌}
use Rattle.std.proofs.Common.{arith}
use mathlib.Core.List.{List, []}
use Prim.Native.Nat.{ℕ, ◌+◌, ◌-◌}
use Rattle.std.proofs.Math.ListN.{length}
use Rattle.model.specs.Words.{Address, Entry}
use Rattle.supply.specs.Owed.{owed}

module _ {A : Type 0} (address : Address A) where
  -- what such a choosing does while more is owed than one send of each
  pub record Slow (limit : ℕ) (alive : List (Entry A)) (left dead : List (Entry A)) : Type 0 where
    pub long : length left ≡ length alive
    pub paid : owed limit left + 1 ≡ owed limit alive
    pub none-dead : dead ≡ []
