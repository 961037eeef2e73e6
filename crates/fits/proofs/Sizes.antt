-- The sizes of a message's gossip, and the bytes of the whole: two more around each gossip, and those of the action itself.
-- Assumes nothing.
use Rattle.std.specs.Prelude.{◌≡◌, ℕ, ◌+◌, ◌*◌, ◌≤◌}
use mathlib.Core.List.{List, [], ◌∷◌, ◌++◌}
use native.Mathlib.Omega.{arith}
use Rattle.model.specs.Words.{Address, Gossip}
use Rattle.model.specs.Size.{size_of}
use Rattle.model.specs.Bounds.{greatest_size}
use Rattle.disseminate.specs.Fit.{least_gossip, most_chosen}
use Rattle.fits.specs.Sizes.{sizes, buffer, length_of}

-- the sizes of some gossip, added up
module _ {A : Type 0} (address : Address A) where
  pub sizes-more : (l : List (Gossip A)) (g : Gossip A) → (sizes address) (l ++ (g ∷ [])) ≡ (sizes address) l + size_of address g
  unfolding sizes
  sizes-more [] g = omega arith
  sizes-more (x ∷ l) g = omega (arith, sizes-more l g)

-- WHAT IS WITHIN `max_size`, AT ITS TOP, IS WITHIN THE BUFFER
pub within_buffer : (count size : ℕ) → size ≤ greatest_size → least_gossip * count ≤ greatest_size → (count ≤ most_chosen) × (length_of count size ≤ buffer)
within_buffer count size h k = (omega arith, omega arith)
