-- WHERE BYTES ARE MALFORMED. At a field that is not whole or not as the schema has it, which begins within the input; or, if every field is, at the input's length, for what the message lacks.
-- Assumes nothing.
use Rattle.std.proofs.Math.Path.{◌≡◌}
use Rattle.std.proofs.Math.Bool.{true}
use Rattle.iptext.specs.declared.Text.TheVariants.{Empty, Malformed}
use Rattle.incoming.specs.Datagram.{Message}

-- what a well-formed message lacks
pub data Lacks (m : Message) : Type 0 where
  -- there is no action
  no_action : m.kind ≡ 0 → Lacks m
  -- its sender is missing, or not canonical
  no_sender : m.acting.from ≡ Empty → Lacks m
  stray_sender : m.acting.from ≡ Malformed → Lacks m
  -- a ping request's suspect is missing
  no_suspect : m.kind ≡ 2 → m.acting.other ≡ Empty → Lacks m
  -- its other address is not canonical
  stray_other : m.acting.other ≡ Malformed → Lacks m
  -- an address of a gossip's event is missing, or not canonical
  spoiled : m.acting.bad ≡ true → Lacks m
