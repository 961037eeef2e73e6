-- EXACTLY, 1 TO 5. A call of `swim` gives the number of one of these refusals exactly if its test is the first of the call's list that fails.
-- Assumes nothing.
use Rattle.std.specs.Prelude.{◌≡◌, ◌↔◌, Bool, List, ℕ}
use Rattle.model.specs.declared.Refusal.{Refusal}
use Rattle.model.specs.Answers.{number_of}
use Rattle.promises.specs.Firsts.{FirstFails, Passed}

-- ---- calls that only test: creation and the lookups
-- the number of each refusal exactly if its test is the first that fails, and 0 exactly if none does
pub record ByTests (n : ℕ) (ts : List (Bool × Refusal)) : Type 0 where
  pub refuses : (x : Refusal) → (n ≡ number_of x) ↔ FirstFails x ts
  pub gives : (n ≡ 0) ↔ Passed ts
