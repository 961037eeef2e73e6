-- NO MESSAGE THAT A NODE SENDS WITH GOSSIP THAT IT CHOSE IS LONGER THAN THE BUFFER.
-- Assumes nothing.
use Rattle.std.specs.Prelude.{◌≡◌, List, [], ◌∷◌, map, ℕ}
use Rattle.std.proofs.Common.{arith}
use Rattle.std.proofs.Math.Option.{none}
use Rattle.model.specs.Node as M
use Rattle.model.specs.Words as W
use Rattle.laws_node.specs.Good.{Good}
use Rattle.address.specs.Here.{Addr, here}
use Rattle.types.specs.Views.{from_gossip, from_action}
use Rattle.incoming.specs.Encode.{encode}

-- a message's bytes
abbrev pub bytes_of : W.Message Addr → List ℕ
bytes_of m = encode (from_action m.action) (map from_gossip m.gossip)

-- what a good node chose goes with it
pub record Chose (m : W.Message Addr) : Type 0 where
  pub node : M.Node Addr
  pub good : Good here node
  pub is : m.gossip ≡ (M.spread here node).gossip

-- each message of a call
pub data Each (P : W.Message Addr → Type 0) : List (W.Message Addr) → Type 0 where
  nil : Each P []
  and : {m : W.Message Addr} {ms : List (W.Message Addr)} → P m → Each P ms → Each P (m ∷ ms)

-- what goes with the answer to a message: what was chosen; with a forwarded Ack, what came
unfoldable pub Goes : W.Action Addr → List (W.Gossip Addr) → W.Message Addr → Type 0
Goes (W.Ping from by) gs m = Chose m
Goes (W.PingReq from suspect) gs m = Chose m
Goes (W.Ack from to) gs m = (m.action ≡ W.Ack from none) × (m.gossip ≡ gs)
