-- A heap's operations and the choosing of gossip make nothing up: what holds of each entry, whatever its sends, holds after them, and of each chosen gossip.
-- Assumes nothing.
use mathlib.Core.List.{List}
use Rattle.model.specs.Words.{Address, Gossip, Entry}
use Rattle.model.specs.Choose.{Choice}
use Rattle.cabinet.specs.Each.{Each}

module _ {A : Type 0} (address : Address A) (P : Gossip A → Type 0) where
  -- each entry of a heap
  abbrev pub Entries : List (Entry A) → Type 0
  Entries h = Each (λ e. P e.gossip) h

  -- both heaps, and the chosen so far
  pub record Sorted (c : Choice A) : Type 0 where
    pub alive : Entries c.alive
    pub deceased : Entries c.deceased
    pub chosen : Each P c.chosen
