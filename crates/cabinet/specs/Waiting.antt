-- How a call moves the wait record: by the detector's states, one at a time, each step when it is due; and which timer it starts.
-- Assumes nothing.
use Rattle.std.specs.Prelude.{◌≡◌, length}
use mathlib.Core.List.{List, [], ◌∷◌}
use Rattle.std.proofs.Math.Option.{none}
use Prim.Native.Nat.{ℕ}
use Rattle.model.specs.Words.{Address, Suspected, Gossip, Ping, WaitState, SendingPing, WaitingForPingAck, SendingPingReq, WaitingForPingReqAck, Declaring}
use Rattle.model.specs.Node.{loaded, numbered}
use Rattle.model.specs.Detector.{enters}
use Rattle.model.specs.Calls.{StepOutcome}
use Rattle.history.specs.Histories.{World, Call}
use Rattle.cabinet.specs.Each.{Each}
use Rattle.cabinet.specs.Cabinets.{GoneBy, wait_in, StepAt, Silent, Peer, Request, asks_many}

module _ {A : Type 0} (address : Address A) where
  -- a step of this call took the wait record from one state to another, when it was due
  pub record Went (c : Call A) (w : World A) (o : StepOutcome A) (from to : WaitState A) (now : ℕ) : Type 0 where
    pub call : StepAt now c
    pub found : w.wait.state ≡ from
    pub due : GoneBy (wait_in w.node.settings from) w.wait.since now
    pub left : o.wait ≡ enters to now

  -- what became of the wait record
  pub data Next (c : Call A) (w : World A) (o : StepOutcome A) : Type 0 where
    stays : o.wait ≡ w.wait → Next c w o
    rests : o.wait.state ≡ SendingPing → Next c w o
    pings : (x : A) (n now : ℕ) (gs : List (Gossip A)) → Went c w o SendingPing (WaitingForPingAck x n) now → Peer address x (loaded w.node) → numbered address x (loaded w.node) ≡ n
        → o.outcome.messages ≡ record { target = x; action = Ping (loaded w.node).own none; gossip = gs } ∷ [] → Next c w o
    unheard : (x : A) (n now : ℕ) → Went c w o (WaitingForPingAck x n) (SendingPingReq x n) now → Silent address x (loaded w.node) → Next c w o
    asks : (x : A) (n now : ℕ) → Went c w o (SendingPingReq x n) (WaitingForPingReqAck x n) now → o.outcome.events ≡ record { event = Suspected (loaded w.node).own x n } ∷ []
        → Each (Request address x (loaded w.node)) o.outcome.messages → length o.outcome.messages ≡ asks_many address (loaded w.node) → Next c w o
    still : (x : A) (n now : ℕ) → Went c w o (WaitingForPingReqAck x n) (Declaring x n) now → Silent address x (loaded w.node) → Next c w o
