-- Where a walk stops: within the bytes, if each step stops within its field.
-- Assumes nothing.
use Rattle.std.specs.Prelude.{◌≡◌, drop}
use Rattle.std.proofs.Math.Path.{refl}
use Rattle.std.proofs.Common.{ap}
use mathlib.Core.List.{List, [], ◌∷◌}
use Prim.Native.Nat.{ℕ, zero, suc, ◌+◌, ◌≤◌, ◌<◌}
use native.Mathlib.Omega.{arith}
use Rattle.std.proofs.Math.ListN.{length, length-drop}
use Rattle.varint.specs.Parts.{part-long}
use Rattle.fields.specs.declared.Field.{Field}
use Rattle.fields.specs.declared.Next.TheVariants.{Stopped, Found}
use Rattle.fields.specs.Field.{next_in, content}
use Rattle.fields.specs.FieldLaws.{Lies, next_lies}
use Rattle.fields.specs.Walk.{Read, stopped, read, and_then, Step, walk_in, walk}

-- a reading that stops, stops at a place from the first on and before the last
pub record Between (first last p : ℕ) : Type 0 where
  pub from : first ≤ p
  pub below : p < last

abbrev pub StopsIn : {S : Type 0} → ℕ → ℕ → Read S → Type 0
StopsIn first last r = (p : ℕ) → r ≡ stopped p → Between first last p

pub record Inside {S : Type 0} (step : Step S) : Type 0 where
  pub inside : (s : S) (place : ℕ) (bytes : List ℕ) (f : Field) → Lies (length bytes) f → StopsIn place (place + f.size) (step s place bytes f)

module _ {S : Type 0} where
  pub not_read : (s : S) (p : ℕ) → read s ≡ stopped p → ⊥
  not_read s p e = let z : ◌≡◌ {A = ℕ} 0 1 = cc in omega arith

  pub same_place : (q p : ℕ) → ◌≡◌ {A = Read S} (stopped q) (stopped p) → q ≡ p
  same_place q p e = cc

  -- either half stops within
  pub then_stops : {T : Type 0} (first last : ℕ) (r : Read T) (next : T → Read S) → StopsIn first last r → ((t : T) → StopsIn first last (next t)) → StopsIn first last (and_then r next)
  unfolding and_then
  then_stops first last (stopped q) next f g p e = f p (ap stopped (same_place q p e))
  then_stops first last (read t) next f g p e = g t p e

module _ {S : Type 0} (step : Step S) (good : Inside step) where
  walk_stops_in : (f place last : ℕ) (bytes : List ℕ) (s : S) → place + length bytes ≤ last → StopsIn place last (walk_in step f place bytes s)
  unfolding walk_in
  walk_stops_in zero place last bytes s h = λ p e. absurd (not_read s p e)
  walk_stops_in (suc f) place last [] s h = λ p e. absurd (not_read s p e)
  walk_stops_in (suc f) place last (b ∷ bytes) s h =
      (elim (next_in (b ∷ bytes)) as (λ r. next_in (b ∷ bytes) ≡ r → StopsIn {S = S} place last (elim r [
        | Stopped ↦ stopped place
        | Found q ↦ and_then (step s place (b ∷ bytes) q) (λ s'. walk_in step f (place + q.size) (drop q.size (b ∷ bytes)) s')
      ])) [
        | Stopped ↦ λ e p q. let z = same_place {S = S} place p q in record { from = omega arith; below = omega arith }
        | Found q ↦ λ e.
            let w = next_lies (b ∷ bytes) q e in
            let l = length-drop q.size (b ∷ bytes) in
            then_stops place last (step s place (b ∷ bytes) q) _
            (λ p r. let x = good.inside s place (b ∷ bytes) q w p r in record { from = x.from; below = omega (arith, x.below, w.ends) })
            (λ s' p r.
            let x = walk_stops_in f (place + q.size) last (drop q.size (b ∷ bytes)) s' (omega (arith, w.ends)) p r in
            record { from = omega (arith, x.from); below = x.below })
      ]) refl

  pub walk_stops : (place : ℕ) (bytes : List ℕ) (s : S) → StopsIn place (place + length bytes) (walk step place bytes s)
  unfolding walk
  walk_stops place bytes s = walk_stops_in (length bytes) place (place + length bytes) bytes s (omega arith)

  -- a message within a field
  pub content_stops : (place : ℕ) (bytes : List ℕ) (f : Field) (s : S) → Lies (length bytes) f
      → StopsIn place (place + f.size) (walk step (place + f.head) (content bytes f) s)
  content_stops place bytes f s w p e =
      let x = walk_stops (place + f.head) (content bytes f) s p e in
      let l = part-long bytes f.head f.size w.begins w.ends in
      record { from = omega (arith, x.from); below = omega (arith, x.below, w.begins) }
