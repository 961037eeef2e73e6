-- "GROUP WIRE TYPES ARE REFUSED": a key says 0, 1, 2 or 5, or no field is found there. 3 and 4 begin and end a group; 6 and 7 are nothing.
-- Assumes nothing.
use Rattle.std.specs.Prelude.{◌≡◌, List, ℕ, ◌/◌, ◌%◌, ◌^◌, eqb, ltb}
use Rattle.std.proofs.Math.Path.{refl, ap}
use Rattle.std.proofs.Common.{◌∙◌}
use Rattle.std.proofs.Math.Bool.{true, false}
use borrow.Author.Tests.{ne_eqb}
use Rattle.model.specs.Rows.{pick}
use Rattle.varint.specs.declared.Number.TheVariants as number
use Rattle.varint.specs.Varint.{number_at}
use Rattle.fields.specs.declared.Next.TheVariants.{Stopped}
use Rattle.fields.specs.Field.{by_wire, keyed, after_key, next_in}

module _ (bytes : List ℕ) (key head : ℕ) (zero : key % 8 ≡ 0 → ⊥) (one : key % 8 ≡ 1 → ⊥) (two : key % 8 ≡ 2 → ⊥) (five : key % 8 ≡ 5 → ⊥) where
  no_wire : by_wire bytes head (key / 8) (key % 8) ≡ Stopped
  unfolding by_wire
  no_wire = simp (ne_eqb (key % 8) 0 zero, ne_eqb (key % 8) 1 one, ne_eqb (key % 8) 2 two, ne_eqb (key % 8) 5 five)

  no_field : keyed bytes key head ≡ Stopped
  unfolding keyed
  no_field =
      elim (ltb key (2 ^ 32)) as (λ u. pick u (pick (eqb (key / 8) 0) Stopped (by_wire bytes head (key / 8) (key % 8))) Stopped ≡ Stopped) [
        | true ↦ elim (eqb (key / 8) 0) as (λ v. pick v Stopped (by_wire bytes head (key / 8) (key % 8)) ≡ Stopped) [ true ↦ refl | false ↦ no_wire ]
        | false ↦ refl
      ]

  -- at the start of a field, whichever message it lies in
  pub groups-refused : number_at bytes ≡ number.Found key head → next_in bytes ≡ Stopped
  unfolding next_in after_key
  groups-refused e = ap (after_key bytes) e ∙ no_field
