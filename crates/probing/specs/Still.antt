-- Where no address comes or goes, no rule but a pick moves the probing order: of every call but a ping and a ping request.
-- Assumes nothing.
use Rattle.std.specs.Prelude.{◌≡◌}
use Rattle.std.proofs.Common.{arith}
use mathlib.Core.List.{List, [], ◌∷◌}
use Rattle.model.specs.Words.{Address}
use Rattle.model.specs.Members.{Members, addrs, listed}
use Rattle.history.specs.Moments.{Moment}

module _ {A : Type 0} (address : Address A) where
  -- the same addresses are listed before and after
  abbrev pub Listing : Members A → Members A → Type 0
  Listing m m' = (a : A) → listed address.same a m.table ≡ listed address.same a m'.table

  -- "the list doesn't change": at no moment does an address come or go
  abbrev pub NobodyMoves : List (Moment A) → Type 0
  NobodyMoves [] = Unit {0}
  NobodyMoves (m ∷ ms) = Listing m.before.members m.after.members × NobodyMoves ms

  -- order, position and listed addresses stand
  pub record Still (m m' : Members A) : Type 0 where
    pub order : m'.order ≡ m.order
    pub position : m'.position ≡ m.position
    pub addresses : addrs m'.table ≡ addrs m.table
