-- THE FIRST TEST THAT FAILS. Calls and rules refuse by tests in an order: which refusal is given, and when none is.
-- Assumes nothing.
use Rattle.std.specs.Prelude.{◌≡◌, Bool, true, false, List, [], ◌∷◌, ℕ}
use Rattle.model.specs.declared.Refusal.{Refusal}
use Rattle.model.specs.Answers.{Answer, done, refused}
pub use Rattle.history.specs.Worlds.{Passed}

-- the first test of a list that fails gives x
pub data FirstFails (x : Refusal) : List (Bool × Refusal) → Type 0 where
  fails : {t : Bool × Refusal} {ts : List (Bool × Refusal)} → t.0 ≡ true → t.1 ≡ x → FirstFails x (t ∷ ts)
  passes : {t : Bool × Refusal} {ts : List (Bool × Refusal)} → t.0 ≡ false → FirstFails x ts → FirstFails x (t ∷ ts)

-- of every refusal that a list's tests give
abbrev pub Among : (Refusal → Type 0) → List (Bool × Refusal) → Type 0
Among P [] = Unit {0}
Among P (t ∷ ts) = P t.1 × Among P ts

-- ---- a rule that refuses by tests
pub data Refuses {B : Type 0} (ts : List (Bool × Refusal)) : Answer B → Type 0 where
  halts : {x : Refusal} → FirstFails x ts → Refuses ts (refused x)
  goes : {b : B} {ds : List ℕ} → Passed ts → Refuses ts (done b ds)
