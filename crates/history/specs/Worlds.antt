-- The ledger along every call and every history: the rows hold a good node, and every moment is fine.
-- Assumes nothing.
use Rattle.std.proofs.Math.Path.{◌≡◌}
use Rattle.std.specs.Prelude.{Bool}
use Rattle.std.proofs.Math.Bool.{false}
use mathlib.Core.List.{List, [], ◌∷◌}
use native.Mathlib.Omega.{arith}
use Rattle.model.specs.declared.Refusal.{Refusal}
use Rattle.model.specs.Words.{Address, Lawful, Wait}
use Rattle.model.specs.Node.{Node, stored}
use Rattle.laws_node.specs.Good.{Good}
use Rattle.history.specs.Moments.{Moment}
use Rattle.history.specs.Ledger.{Tally, tally}
use Rattle.history.specs.Did.{Kept}
use Rattle.history.specs.Walk.{Along}
use Rattle.history.specs.Histories.{World}

-- every test was passed
abbrev pub Passed : List (Bool × Refusal) → Type 0
Passed [] = Unit {0}
Passed (t ∷ ts) = (t.0 ≡ false) × Passed ts

module _ {A : Type 0} (address : Address A) (lawful : Lawful address) (a : A) where
  -- the rows hold a good node, and the ledger is kept, whatever the wait record
  pub data Stands (own : A) (t : Tally) : World A → Type 0 where
    stands : (s : Node A) (w : Wait A) → Good address s → Kept address a own s t → Stands own t (record { node = stored address s; wait = w })

  -- moments that led to a world
  pub record Went (own : A) (t : Tally) (ms : List (Moment A)) (w : World A) : Type 0 where
    pub stands : Stands own (tally address a ms t) w
    pub fine : Along address a own ms t
