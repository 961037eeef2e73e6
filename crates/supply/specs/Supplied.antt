-- An answer that is not refused for want of draws: what holds of what it gives and of the draws that are left, and how that goes through the forms of a rule.
-- Assumes nothing.
use Rattle.std.specs.Prelude.{◌≡◌, List, ℕ}
use Rattle.model.specs.declared.Refusal.{Refusal}
use Rattle.model.specs.Answers.{Answer, done, refused, number_of}

-- refused by another number than 8, or P holds of what is given and of the draws that are left
pub data Supplied {B : Type 0} (P : B → List ℕ → Type 0) : Answer B → Type 0 where
  stops : {r : Refusal} → (number_of r ≡ 8 → ⊥) → Supplied P (refused r)
  goes : {b : B} {ds : List ℕ} → P b ds → Supplied P (done b ds)
