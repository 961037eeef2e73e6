-- WHAT A CALL GIVES: its tests in their order, then "already" or "not due", then what stops the rules. By the rules, for any type of address.
-- Assumes nothing.
use Rattle.std.proofs.Math.Path.{◌≡◌}
use Rattle.std.specs.Prelude.{◌↔◌, Bool, List, ℕ, ◌≤◌, ◌<◌}
use Rattle.std.proofs.Math.Bool.{true}
use Rattle.std.proofs.Math.Dec.{eqb}
use Rattle.model.specs.declared.Refusal.{Refusal}
use Rattle.model.specs.declared.Reply.{Reply}
use Rattle.model.specs.Rows.{has}
use Rattle.model.specs.Answers.{number_of}
use Rattle.model.specs.Words.{Address, Wait}
use Rattle.model.specs.Node.{Stored}
use Rattle.model.specs.Calls as calls
use Rattle.model.specs.Calls.{reply_number}
use Rattle.promises.specs.Replies.{NotDone}
use Rattle.promises.specs.Firsts.{FirstFails, Passed}

-- What a call gives. `idly` is what it gives, by its reply, where it changes nothing; `y` is its word for nothing to do, and P when; S says of each of 6 to 10 what stops the rules
pub record Tabled {B : Type 0} (reply_of : B → Reply) (idly : Reply → B) (y : Reply) (ts : List (Bool × Refusal)) (P : Type 0) (S : Refusal → Type 0) (given : B) : Type 0 where
  pub tests : (x : Refusal) → number_of x < 6 → (reply_number (reply_of given) ≡ number_of x) ↔ FirstFails x ts
  pub stops : (x : Refusal) → 6 ≤ number_of x → (reply_number (reply_of given) ≡ number_of x) ↔ (Passed ts × S x)
  pub idles : (reply_of given ≡ y) ↔ (Passed ts × P)
  pub keeps : (z : Reply) → NotDone z → reply_of given ≡ z → given ≡ idly z

-- n is one of some numbers
abbrev pub OneOf : List ℕ → ℕ → Type 0
OneOf ns n = has eqb n ns ≡ true

-- ---- the calls
abbrev pub reply_of : {A : Type 0} → calls.Outcome A → Reply
reply_of o = o.reply

abbrev pub step_reply : {A : Type 0} → calls.StepOutcome A → Reply
step_reply o = o.outcome.reply

module _ {A : Type 0} (address : Address A) (s : Stored A) where
  -- nothing changes
  abbrev pub idly : Reply → calls.Outcome A
  idly z = calls.unchanged z s

  abbrev pub step_idly : Wait A → Reply → calls.StepOutcome A
  step_idly w z = record { outcome = calls.unchanged z s; wait = w }
