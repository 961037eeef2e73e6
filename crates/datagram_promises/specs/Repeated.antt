-- THE LAST OF A REPEATED TEXT OR NUMBER COUNTS, AND A MESSAGE THAT COMES IN PIECES IS ONE: an action, an event in a record, each read as if it had come once. Of the call.
-- Assumes nothing.
use Rattle.std.specs.Prelude.{◌≡◌, List, ℕ}
use Rattle.types.specs.declared.Action.{Action}
use Rattle.types.specs.declared.Gossip.{Gossip}
use Rattle.incoming.specs.declared.Reading.{Reading}
use Rattle.incoming.specs.declared.Reading.TheVariants as reading
use Rattle.datagram.specs.Promises.{Reads}

-- whoever reads the one whole reads the other the same
abbrev pub Alike : List ℕ → List ℕ → Type 0
Alike x y = (lent : List Gossip) (r r' : Reading) (l l' : List Gossip) → Reads x lent r l → Reads y lent r' l' → (a : Action) (count : ℕ) → r ≡ reading.Whole a count → (r' ≡ r) × (l' ≡ l)
