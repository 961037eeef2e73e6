-- READING WHAT WAS WRITTEN GIVES THE ACTION AND ITS RECORDS BACK, by any two calls; and each input has one result.
-- Assumes nothing.
use Rattle.std.specs.Prelude.{List, [], ◌∷◌, ◌^◌, ◌<◌}
use Rattle.model.specs.Words.{parts_of}
use Rattle.address.specs.Here.{here}
use Rattle.types.specs.declared.Gossip.{Gossip}
use Rattle.types.specs.Views.{to_event}

-- the number of an event is one of 64 bits, as every number of a host's is
unfoldable pub Wide : Gossip → Type 0
Wide g = (parts_of here (to_event g.event)).number < 2 ^ 64

pub data AllWide : List Gossip → Type 0 where
  none : AllWide []
  more : {g : Gossip} {gs : List Gossip} → Wide g → AllWide gs → AllWide (g ∷ gs)
