-- What a stretch of a history is asked about: how often the detector pinged, whether a ping request ran, and whom the calls pinged.
-- Assumes nothing.
use Rattle.std.specs.Prelude.{◌≡◌, Bool, true, false, ◌&&◌, List, [], ◌∷◌, ◌++◌, ℕ, ◌+◌}
use Rattle.std.proofs.Math.Option.{none, some}
use Rattle.model.specs.declared.Reply.{Reply}
use Rattle.model.specs.declared.Reply.TheVariants.{Done, Already, NotDue, Refuted, Gone, Refused, RefusedAt}
use Rattle.model.specs.Rows.{one}
use Rattle.model.specs.Words.{Address, Action, Ping, PingReq, Ack, Message, WaitState, SendingPing, WaitingForPingAck, SendingPingReq, WaitingForPingReqAck, Declaring}
use Rattle.history.specs.Histories.{World, Call, Add, Receive, Step, Timer, Lends, outcome, world_of}

-- a call that ran: a step that was due and not refused
abbrev pub has_run : Reply → Bool
has_run (Done used) = true
has_run Already = false
has_run NotDue = false
has_run Refuted = false
has_run Gone = false
has_run (Refused r) = false
has_run (RefusedAt r at) = false

module _ {A : Type 0} where
  abbrev pub is_ping : WaitState A → Bool
  is_ping SendingPing = true
  is_ping (WaitingForPingAck a n) = false
  is_ping (SendingPingReq a n) = false
  is_ping (WaitingForPingReqAck a n) = false
  is_ping (Declaring a n) = false

  abbrev pub is_request : WaitState A → Bool
  is_request SendingPing = false
  is_request (WaitingForPingAck a n) = false
  is_request (SendingPingReq a n) = true
  is_request (WaitingForPingReqAck a n) = false
  is_request (Declaring a n) = false

  -- whom a message pings that nobody asked for: a Ping of the node's own
  abbrev pub pings : Action A → A → List A
  pings (Ping from none) a = a ∷ []
  pings (Ping from (some by)) a = []
  pings (PingReq from suspect) a = []
  pings (Ack from to) a = []

  abbrev pub pinged : List (Message A) → List A
  pinged [] = []
  pinged (m ∷ ms) = pings m.action m.target ++ pinged ms

module _ {A : Type 0} (address : Address A) where
  -- "pings (detector steps in SendingPing that were due)", of one call: 0 or 1
  abbrev pub pings_in : Call A → World A → ℕ
  pings_in (Add a n ds) w = 0
  pings_in (Receive action gs ds lent) w = 0
  pings_in (Step now ds lent) w = one (is_ping w.wait.state && has_run (outcome address (Step now ds lent) w).outcome.reply)
  pings_in (Timer now lent) w = 0
  pings_in (Lends wait) w = 0

  abbrev pub pings_of : List (Call A) → World A → ℕ
  pings_of [] w = 0
  pings_of (c ∷ h) w = pings_in c w + pings_of h (world_of address (outcome address c w))

  -- "in which no ping-request step ran"
  abbrev pub requests_in : Call A → World A → ℕ
  requests_in (Add a n ds) w = 0
  requests_in (Receive action gs ds lent) w = 0
  requests_in (Step now ds lent) w = one (is_request w.wait.state && has_run (outcome address (Step now ds lent) w).outcome.reply)
  requests_in (Timer now lent) w = 0
  requests_in (Lends wait) w = 0

  abbrev pub requests_of : List (Call A) → World A → ℕ
  requests_of [] w = 0
  requests_of (c ∷ h) w = requests_in c w + requests_of h (world_of address (outcome address c w))

  -- whom the calls pinged, in order
  abbrev pub pinged_by : Call A → World A → List A
  pinged_by c w = pinged (outcome address c w).outcome.messages

  abbrev pub pinged_along : List (Call A) → World A → List A
  pinged_along [] w = []
  pinged_along (c ∷ h) w = pinged_by c w ++ pinged_along h (world_of address (outcome address c w))
