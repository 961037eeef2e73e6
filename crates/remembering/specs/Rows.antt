-- What each rule does to the row of the departed: what the removal of its moment says, and nothing else.
-- Assumes nothing.
use Rattle.std.specs.Prelude.{◌≡◌, Bool}
use Rattle.std.proofs.Common.{arith}
use mathlib.Core.List.{List, []}
use Rattle.model.specs.Answers.{Answer}
use Rattle.laws.specs.After.{After}
use Rattle.model.specs.Words.{Address, Lawful, Departed}
use Rattle.model.specs.Node.{Node, Out}
use Rattle.history.specs.Moments.{Moment}
use Rattle.remembering.specs.Removals.{removals, row_by}
use Rattle.remembering.specs.Entering.{Along}

module _ {A : Type 0} (address : Address A) (lawful : Lawful address) where
  abbrev pub same : A → A → Bool
  same = address.same

  -- ---- rules that leave the row alone
  abbrev pub Still : List (Departed A) → Answer (Out A) → Type 0
  Still r x = After (λ o. o.node.departed ≡ r) x

  -- ---- moments: the row after them is what their removals make of the row before, and each lets nobody in but above it
  abbrev pub Remembers : List (Moment A) → Node A → Node A → Type 0
  Remembers ms s s' = (s'.departed ≡ row_by same (removals address ms) s.departed) × Along address ms s.departed
