-- The bytes of a datagram: fields in number order, defaults left out.
-- Assumes nothing.
use Rattle.std.specs.Prelude.{List, [], ◌∷◌, ◌++◌, ℕ}
use Rattle.types.specs.declared.Action.{Action}
use Rattle.types.specs.declared.Action.TheVariants.{Ping, PingReq, Ack}
use Rattle.types.specs.declared.Gossip.{Gossip}
use Rattle.types.specs.declared.Optional.{Optional}
use Rattle.types.specs.declared.Optional.TheVariants as optional
use Rattle.address.specs.Here.{Addr, here_text as text}
use Rattle.types.specs.Wire.{delimited, string}
use Rattle.gossips.specs.Gossip.{gossip_bytes_of}

-- an address that may be missing
unfoldable pub other_bytes : Optional → List ℕ
other_bytes optional.Absent = []
other_bytes (optional.Given b) = string 2 (text b)

-- each gossip is a message of its own, also one of no event
unfoldable pub gossip_fields : List Gossip → List ℕ
gossip_fields [] = []
gossip_fields (g ∷ gs) = delimited 3 (gossip_bytes_of g) ++ gossip_fields gs

-- the fields of an action: its sender, the other address, its gossip
unfoldable pub fields_of : Addr → Optional → List Gossip → List ℕ
fields_of from other gs = string 1 (text from) ++ (other_bytes other ++ gossip_fields gs)

-- 1 a ping, 2 a ping request, 3 an ack
unfoldable pub encode : Action → List Gossip → List ℕ
encode (Ping from requested) gs = delimited 1 (fields_of from requested gs)
encode (PingReq from suspect) gs = delimited 2 (fields_of from (optional.Given suspect) gs)
encode (Ack from forward) gs = delimited 3 (fields_of from forward gs)
