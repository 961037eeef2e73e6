-- The loop that writes a varint: what is written and what is left come to the whole.
-- Assumes nothing.
use mathlib.Core.Path.{◌≡◌, refl, ap, sym, ◌∙◌}
use mathlib.Core.List.{List, ◌∷◌}
use Prim.Native.Nat.{ℕ, ◌+◌, ◌/◌, ◌%◌, ◌≤◌, ◌<◌}
use native.Mathlib.Omega.{arith}
use native.Mathlib.Numerals.{add-one}
use lib.ListN.{length, set, length-set}
use lib.Seq.{sets}
use Rattle.types.specs.Wire.{varint}
use Rattle.varint.specs.Laid.{Laid, Room}
use Rattle.varint.specs.VarintLaws.{varint-last, varint-more, varint-some}

pub record Going (row : List ℕ) (at n : ℕ) (out : List ℕ) (rest i : ℕ) : Type 0 where
  pub long : length out ≡ length row
  pub ends : i + length (varint rest) ≡ at + length (varint n)
  pub says : sets out i (varint rest) ≡ sets row at (varint n)

pub going_none : (row : List ℕ) (at n : ℕ) → Going row at n row n at
going_none row at n = record { long = refl; ends = refl; says = refl }

module _ (row : List ℕ) (at n : ℕ) (out : List ℕ) (rest i : ℕ) (g : Going row at n out rest i) where
  pub some_left : Room row at (varint n) → i < length out
  some_left h = omega (arith, varint-some rest, g.ends, g.long, h.fits)

  pub going_more : (b : ℕ) → b ≡ rest % 128 + 128 → 128 ≤ rest → Going row at n (set out i b) (rest / 128) (i + 1)
  going_more b e h =
      let v = varint-more rest h in
      let w : sets out i (b ∷ varint (rest / 128)) ≡ sets out i (varint rest) =
      ap (λ (x : ℕ). sets out i (x ∷ varint (rest / 128))) e ∙ ap (sets out i) (sym v) in
      record {
        long = length-set out i b ∙ g.long;
        ends = omega (arith, ap (λ (l : List ℕ). length l) v, g.ends);
        says = ap (λ (k : ℕ). sets (set out i b) k (varint (rest / 128))) (add-one i) ∙ w ∙ g.says;
      }

  pub going_last : (b : ℕ) → b ≡ rest → rest < 128 → Laid row at (varint n) (set out i b) (i + 1)
  going_last b e h =
      let v = varint-last rest h in
      record {
        ends = omega (arith, ap (λ (l : List ℕ). length l) v, g.ends);
        long = length-set out i b ∙ g.long;
        says = ap (set out i) e ∙ ap (sets out i) (sym v) ∙ g.says;
      }
