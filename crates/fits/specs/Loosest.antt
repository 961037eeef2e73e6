-- What the bounds are for. At the top: 65 records of 18 bytes make 1170, a byte more than `max_size` may be, and 64 places would not be enough for them. At the floor: every gossip
-- fits, and the longest leaves no byte.
-- Assumes nothing.
use Rattle.std.specs.Prelude.{◌≡◌, List, [], ◌∷◌, ℕ, zero, suc, ◌-◌, ◌^◌, length}
use Rattle.std.proofs.Common.{arith}
use Rattle.model.specs.Size.{size_of}
use Rattle.address.specs.Here.{Addr, here}
use Rattle.types.specs.declared.Event.{Event}
use Rattle.types.specs.declared.Event.TheVariants.{Joined}
use Rattle.types.specs.declared.Gossip.{Gossip}
use Rattle.types.specs.Views.{to_gossip}
use Rattle.fits.specs.Length.{sizes_of}

-- the address with the shortest text, [::]:0
abbrev pub shortest : Addr
shortest = record { family = 6; port = 0; high = 0; low = 0 }

-- a join of it, said by itself, at number 0
abbrev pub least : Gossip
least = record { event = Joined shortest shortest 0 }

unfoldable pub small : ℕ → List Gossip
small zero = []
small (suc k) = least ∷ small k

-- ONE RECORD MORE THAN THERE ARE PLACES IS ONE BYTE MORE THAN THE BOUND
pub record TooMany (count size : ℕ) : Type 0 where
  pub counted : length (small count) ≡ count
  pub sized : sizes_of (small count) ≡ size

-- EVERY GOSSIP IS WITHIN THE SMALLEST `max_size`: none is held that could never be sent
abbrev pub size_of_event : Event → ℕ
size_of_event e = size_of here (to_gossip (record { event = e }))

-- an address with the longest text, and a join of it at the last number
abbrev pub furthest : Addr
furthest = record { family = 6; port = 65535; high = 2 ^ 64 - 1; low = 2 ^ 64 - 1 }
