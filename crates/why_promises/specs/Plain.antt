-- REFUSALS 2 AND 5 OF `swim::why`, in plain words: the node isn't sound; it is, and one of the event's two addresses is out of range.
-- Assumes nothing.
use Rattle.std.specs.Prelude.{Bool, true, ◌&&◌}
use Rattle.model.specs.Words.{Address, Event, Nothing, Joined, Recovered, Suspected, Deceased}

module _ {A : Type 0} (address : Address A) where
  -- "the event's two addresses"; a record of no event holds none
  abbrev pub both_in_range : Event A → Bool
  both_in_range Nothing = true
  both_in_range (Joined f a n) = address.valid f && address.valid a
  both_in_range (Recovered f a n) = address.valid f && address.valid a
  both_in_range (Suspected f a n) = address.valid f && address.valid a
  both_in_range (Deceased f a n) = address.valid f && address.valid a
