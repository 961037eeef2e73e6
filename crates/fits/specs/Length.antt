-- How long a datagram is, by the sizes of its gossip.
-- Assumes nothing.
use Rattle.std.specs.Prelude.{List, [], map, ℕ}
use Rattle.std.proofs.Common.{arith}
use Rattle.address.specs.Here.{here}
use Rattle.types.specs.declared.Gossip.{Gossip}
use Rattle.types.specs.Views.{to_gossip}
use Rattle.fits.specs.Sizes.{sizes}

-- the sizes of a row of gossip
abbrev pub sizes_of : List Gossip → ℕ
sizes_of gs = sizes here (map to_gossip gs)
