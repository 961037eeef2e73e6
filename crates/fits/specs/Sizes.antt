-- The sizes of a message's gossip, and the bytes of the whole: two more around each gossip, and those of the action itself.
-- Assumes nothing.
use Rattle.std.specs.Prelude.{ℕ, ◌+◌, ◌*◌}
use mathlib.Core.List.{List, [], ◌∷◌}
use native.Mathlib.Omega.{arith}
use Rattle.model.specs.Words.{Address, Gossip}
use Rattle.model.specs.Size.{size_of}

-- the sizes of some gossip, added up
module _ {A : Type 0} (address : Address A) where
  unfoldable pub sizes : List (Gossip A) → ℕ
  sizes [] = 0
  sizes (g ∷ gs) = size_of address g + sizes gs

-- the receive buffer: `DEFAULT_BUFFER_SIZE`
abbrev pub buffer : ℕ
buffer = 1536

-- around each gossip stand its key and its length, of one byte each
abbrev pub around : ℕ
around = 2

-- beside the gossip: key and length of the action, three bytes; and two texts of at most 47, each with key and length
abbrev pub beside : ℕ
beside = 3 + (2 + 47) + (2 + 47)

-- so many records of so many bytes in all
abbrev pub length_of : ℕ → ℕ → ℕ
length_of count size = beside + size + around * count
