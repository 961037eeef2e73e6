-- What ties the moments of a call to the call: where they begin and end, what they said, and what they were asked.
-- Assumes nothing.
use Rattle.std.specs.Prelude.{◌≡◌, List, [], ◌∷◌, ◌++◌, ℕ, zero, suc, get_or}
use Rattle.std.proofs.Math.Option.{Option, none, some}
use Rattle.model.specs.declared.Reply.{Reply}
use Rattle.model.specs.declared.Reply.TheVariants.{Done, Already, NotDue, Refuted, Gone, Refused, RefusedAt}
use Rattle.model.specs.Bounds.{Room}
use Rattle.model.specs.Words.{Address, Message, Gossip, Action, Ping, PingReq, Ack, SendingPing, WaitingForPingAck, no_timer}
use Rattle.model.specs.Node.{Node, loaded}
use Rattle.model.specs.Detector.{first_over}
use Rattle.history.specs.Moments.{Deed, Told, Sender, Added, Other, Moment, ended_deed}
use Rattle.history.specs.Histories.{World, Call, Add, Receive, Step, Timer, Lends, outcome}

-- place i of a list, counted from 0, holds x
abbrev pub At : {B : Type 0} → List B → ℕ → B → Type 0
At [] i x = ⊥
At (y ∷ l) zero x = y ≡ x
At (y ∷ l) (suc i) x = At l i x

module _ {A : Type 0} where
  -- the moments lead from one node to another: each begins where the last one ended
  abbrev pub Leads : Node A → List (Moment A) → Node A → Type 0
  Leads s [] s' = s ≡ s'
  Leads s (m ∷ ms) s' = (s ≡ m.before) × Leads m.after ms s'

  -- all that they said, in order
  abbrev pub said_by : List (Moment A) → List (Gossip A)
  said_by [] = []
  said_by (m ∷ ms) = m.said ++ said_by ms

  -- what each was asked, in order
  abbrev pub deeds_in : List (Moment A) → List (Deed A)
  deeds_in [] = []
  deeds_in (m ∷ ms) = m.deed ∷ deeds_in ms

  -- moments that tell a call from node to node, with its events and its deeds
  pub record Tells (s : Node A) (ms : List (Moment A)) (s' : Node A) (events : List (Gossip A)) (deeds : List (Deed A)) : Type 0 where
    pub leads : Leads s ms s'
    pub says : said_by ms ≡ events
    pub asks : deeds_in ms ≡ deeds

  -- whom messages go to
  abbrev pub targets : List (Message A) → List A
  targets [] = []
  targets (m ∷ ms) = m.target ∷ targets ms

  -- each record of a message, in its order
  abbrev pub records : List (Gossip A) → List (Deed A)
  records [] = []
  records (g ∷ gs) = Told g.event ∷ records gs

  -- "Ping: gossip; then an unlisted sender ..; then choose", "PingReq: gossip, choose", "Ack: gossip; without forward_to, a listed sender .."
  abbrev pub message_deeds : Action A → List (Gossip A) → List (Deed A)
  message_deeds (Ping from by) gs = records gs ++ (Sender from ∷ Other ∷ [])
  message_deeds (PingReq from suspect) gs = records gs ++ (Other ∷ [])
  message_deeds (Ack from none) gs = records gs ++ (Other ∷ [])
  message_deeds (Ack from (some to)) gs = records gs

module _ {A : Type 0} (address : Address A) where
  -- "the earliest started that is over .. ends"
  abbrev pub timer_deeds : Option ℕ → Node A → List (Deed A)
  timer_deeds none s = []
  timer_deeds (some i) s = ended_deed address (get_or s.timers i (no_timer address)) ∷ []

  -- what a call asks that runs on a world
  abbrev pub asked : Call A → World A → List (Deed A)
  asked (Add a n ds) w = Added a n ∷ []
  asked (Receive action gs ds lent) w = message_deeds action gs
  asked (Step now ds lent) w = Other ∷ []
  asked (Timer now lent) w = timer_deeds (first_over address w.node.settings.suspect_timeout now (loaded w.node).timers) (loaded w.node)
  asked (Lends wait) w = []

  -- a call that was refused or not due asks nothing
  abbrev pub asked_by : Reply → List (Deed A) → List (Deed A)
  asked_by (Done used) ds = ds
  asked_by Already ds = ds
  asked_by NotDue ds = []
  asked_by Refuted ds = ds
  asked_by Gone ds = ds
  asked_by (Refused r) ds = []
  asked_by (RefusedAt r at) ds = []

  abbrev pub deeds_of : Call A → World A → List (Deed A)
  deeds_of c w = asked_by (outcome address c w).outcome.reply (asked c w)

  -- "if one: Ping, set Pending, wait for PingAck": a step that sends a ping and then waits for the peer b sent it to b, and to nobody else
  abbrev pub PingGoes : Call A → World A → Type 0
  PingGoes c w =
      (now : ℕ) (ds : List ℕ) (lent : Room) (b : A) (n : ℕ) → c ≡ Step now ds lent → w.wait.state ≡ SendingPing → (outcome address c w).wait.state ≡ WaitingForPingAck b n
      → targets (outcome address c w).outcome.messages ≡ b ∷ []
