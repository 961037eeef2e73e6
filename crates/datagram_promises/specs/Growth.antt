-- Whatever a message's fields add to what is said, they take no fewer bytes for it: of one field, and of a walk.
-- Assumes nothing.
use Rattle.std.proofs.Math.Path.{◌≡◌}
use mathlib.Core.List.{List}
use Prim.Native.Nat.{ℕ, ◌+◌, ◌-◌, ◌≤◌}
use Rattle.std.proofs.Math.ListN.{length}
use Rattle.fields.specs.declared.Field.{Field}
use Rattle.fields.specs.FieldLaws.{Lies}
use Rattle.fields.specs.Walk.{read, Step}
use Rattle.datagram_promises.specs.Lengths.{Octets, long}

-- what w bytes take as a field: a key of one byte, their count, and they
abbrev pub enclosed : ℕ → ℕ
enclosed w = 1 + long w + w

-- what a field of bytes or of a number takes
pub record Takes (f : Field) : Type 0 where
  pub bytes : f.wire ≡ 2 → enclosed (f.size - f.head) ≤ f.size
  pub number : f.wire ≡ 0 → 1 + long f.value ≤ f.size

-- a step that adds no more to a weight than its field is long
pub record Grows {S : Type 0} (weight : S → ℕ) (step : Step S) : Type 0 where
  pub grows : (s : S) (place : ℕ) (bytes : List ℕ) (f : Field) → Octets bytes → Lies (length bytes) f → Takes f → (s' : S) → step s place bytes f ≡ read s' → weight s' ≤ weight s + f.size
