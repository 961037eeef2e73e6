-- The ledger along the moments of a call: whatever each rule keeps, the call keeps.
-- Assumes nothing.
use mathlib.Core.List.{List, [], ◌∷◌}
use Rattle.model.specs.Answers.{Answer}
use Rattle.laws.specs.After.{After}
use Rattle.model.specs.Words.{Address}
use Rattle.model.specs.Node.{Node, Out}
use Rattle.history.specs.Moments.{Moment}
use Rattle.history.specs.Ledger.{Tally, step, tally}
use Rattle.history.specs.Did.{Kept, Fine}

module _ {A : Type 0} (address : Address A) (a : A) where
  -- every moment is fine, each with the ledger before it
  abbrev pub Along : A → List (Moment A) → Tally → Type 0
  Along own [] t = Unit {0}
  Along own (m ∷ ms) t = Fine address a own t m × Along own ms (step address a m t)

  -- moments that led to a node
  pub record Walked (own : A) (t : Tally) (ms : List (Moment A)) (s : Node A) : Type 0 where
    pub kept : Kept address a own s (tally address a ms t)
    pub fine : Along own ms t

  abbrev pub Walks : A → Tally → List (Moment A) → Answer (Out A) → Type 0
  Walks own t ms x = After (λ o. Walked own t ms o.node) x
