-- REFUSALS 2, 3, 4 AND 5 of add, message, step and timer call, in plain words and in their order: the node isn't sound; it is, and a row is short; neither, and more than 64 records come in; none of these,
-- and an address of the inputs is out of range.
-- Assumes nothing.
use Rattle.std.specs.Prelude.{◌⊎◌, Bool, List, [], ◌∷◌, ◌++◌, ℕ, ◌≤◌, ◌<◌, length}
use Rattle.std.proofs.Math.Option.{none, some}
use Rattle.model.specs.Rows.{every}
use Rattle.model.specs.Words as W
use Rattle.address.specs.Here.{Addr, here}
use Rattle.types.specs.declared.Gossip.{Gossip}

-- the addresses of a message: those of its action, and both of each record that holds an event
abbrev pub of_action : W.Action Addr → List Addr
of_action (W.Ping from none) = from ∷ []
of_action (W.Ping from (some by)) = from ∷ by ∷ []
of_action (W.PingReq from suspect) = from ∷ suspect ∷ []
of_action (W.Ack from none) = from ∷ []
of_action (W.Ack from (some to)) = from ∷ to ∷ []

abbrev pub of_event : W.Event Addr → List Addr
of_event W.Nothing = []
of_event (W.Joined from a n) = from ∷ a ∷ []
of_event (W.Recovered from a n) = from ∷ a ∷ []
of_event (W.Suspected from a n) = from ∷ a ∷ []
of_event (W.Deceased from a n) = from ∷ a ∷ []

abbrev pub of_records : List (W.Gossip Addr) → List Addr
of_records [] = []
of_records (g ∷ gs) = of_event g.event ++ of_records gs

-- and that of a wait record
abbrev pub of_state : W.WaitState Addr → List Addr
of_state W.SendingPing = []
of_state (W.WaitingForPingAck a n) = a ∷ []
of_state (W.SendingPingReq a n) = a ∷ []
of_state (W.WaitingForPingReqAck a n) = a ∷ []
of_state (W.Declaring a n) = a ∷ []

-- each of them is in range
abbrev pub all_in_range : List Addr → Bool
all_in_range l = every here.valid l

-- one of two rows has too few places
abbrev pub Short : ℕ → ℕ → List Gossip → List Gossip → Type 0
Short g e gossip events = (length gossip < g) ⊎ (length events < e)

abbrev pub Enough : ℕ → ℕ → List Gossip → List Gossip → Type 0
Enough g e gossip events = (g ≤ length gossip) × (e ≤ length events)
