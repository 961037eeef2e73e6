-- The first timer that is over, in the row and in the model's list.
-- Assumes nothing.
use Rattle.std.proofs.Common.{◌≡◌, ℕ, suc, ◌<◌, ◌≤◌, Bool, true, false, List, [], ◌∷◌, map, length, refl, ap, le_of_suc-le-suc, not-suc-le-zero}
use mathlib.Core.Option.{Option, none, some}
use Rattle.address.specs.Here.{here}
use Rattle.model.specs.Rows.{pick}
use Rattle.model.specs.Detector.{is_over, first_over, later}
use Rattle.laws.specs.Loops.{first_place}
use Rattle.timers.specs.declared.Timer.{Timer}
use Rattle.timers.specs.Views.{to_timer}

module _ (wait now : ℕ) where
  abbrev pub over : Timer → Bool
  over t = is_over wait now t.since

  pub over_first : (l : List Timer) → first_place over l < length l → first_over here wait now (map to_timer l) ≡ some (first_place over l)
  unfolding first_over first_place
  over_first [] h = absurd (not-suc-le-zero h)
  over_first (t ∷ l) h =
      (elim (over t) as (λ u. pick u 0 (suc (first_place over l)) < suc (length l)
      → elim u [ true ↦ some 0 | false ↦ later (first_over here wait now (map to_timer l)) ] ≡ some (pick u 0 (suc (first_place over l)))) [
        | true ↦ λ _. refl
        | false ↦ λ k. ap later (over_first l (le_of_suc-le-suc k))
      ]) h

  pub over_none : (l : List Timer) → length l ≤ first_place over l → first_over here wait now (map to_timer l) ≡ none
  unfolding first_over first_place
  over_none [] h = refl
  over_none (t ∷ l) h =
      (elim (over t) as (λ u. suc (length l) ≤ pick u 0 (suc (first_place over l))
      → ◌≡◌ {A = Option ℕ} (elim u [ true ↦ some 0 | false ↦ later (first_over here wait now (map to_timer l)) ]) none) [
        | true ↦ λ k. absurd (not-suc-le-zero k)
        | false ↦ λ k. ap later (over_none l (le_of_suc-le-suc k))
      ]) h
