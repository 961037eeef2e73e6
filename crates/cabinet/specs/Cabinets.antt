-- A cabinet: any number of controllers, each with its node and its wait record, and a network that may lose, delay, repeat, reorder and forge, but for the records of one topic.
-- Assumes nothing.
use Rattle.std.specs.Prelude.{◌≡◌, true, false, List, [], ◌∷◌, ◌++◌, ℕ, suc, ◌+◌, ◌-◌, ◌%◌, ◌≤◌, ◌<◌, min, eqb, length}
use Rattle.std.proofs.Math.Option.{Option, none, some}
use Rattle.model.specs.declared.Settings.{Settings}
use Rattle.model.specs.declared.Reply.{Reply}
use Rattle.model.specs.declared.Reply.TheVariants.{Done, Already, NotDue, Refuted, Gone, Refused, RefusedAt}
use Rattle.model.specs.Rows.{pick}
use Rattle.model.specs.Words.{Address, is_alive, Event, Nothing, Joined, Recovered, Suspected, Deceased, Gossip, Entry, Action, Ping, PingReq, Ack, Message, WaitState, SendingPing, WaitingForPingAck, SendingPingReq, WaitingForPingReqAck, Declaring}
use Rattle.model.specs.Node.{Node, Stored, loaded, lists, numbered, state_of}
use Rattle.model.specs.Detector.{enters, first_over}
use Rattle.model.specs.Calls.{Outcome, end_timer}
use Rattle.history.specs.Beginnings.{Beginning, Gave}
use Rattle.history.specs.Histories.{World, Call, Add, Receive, Step, Timer, Lends, outcome, world_of}
use Rattle.history.specs.Tells.{At}
use Rattle.cabinet.specs.Each.{Each, Among}

-- which records of a message may not be forged
pub data Topic : Type 0 where
  deaths suspicions : Topic

-- a controller, by its number, makes a call
pub record Turn (A : Type 0) : Type 0 where
  pub who : ℕ
  pub call : Call A

-- at one turn of a history, with the turns before it. The last turn stands first
pub data Once {A : Type 0} (P : Turn A → List (Turn A) → Type 0) : List (Turn A) → Type 0 where
  this : {t : Turn A} {h : List (Turn A)} → P t h → Once P (t ∷ h)
  earlier : {t : Turn A} {h : List (Turn A)} → Once P h → Once P (t ∷ h)

module _ {A : Type 0} where
  -- of a record on the topic P is asked, of the address and the number that it names; of any other record nothing
  abbrev pub Dead : (A → ℕ → Type 0) → Event A → Type 0
  Dead P Nothing = Unit {0}
  Dead P (Joined f x n) = Unit {0}
  Dead P (Recovered f x n) = Unit {0}
  Dead P (Suspected f x n) = Unit {0}
  Dead P (Deceased f x n) = P x n

  abbrev pub Suspect : (A → ℕ → Type 0) → Event A → Type 0
  Suspect P Nothing = Unit {0}
  Suspect P (Joined f x n) = Unit {0}
  Suspect P (Recovered f x n) = Unit {0}
  Suspect P (Suspected f x n) = P x n
  Suspect P (Deceased f x n) = Unit {0}

  abbrev pub About : Topic → (A → ℕ → Type 0) → Event A → Type 0
  About deaths P e = Dead P e
  About suspicions P e = Suspect P e

  -- gossip records, the entries of a heap, and messages
  abbrev pub InGossip : Topic → (A → ℕ → Type 0) → List (Gossip A) → Type 0
  InGossip k P gs = Each (λ g. About k P g.event) gs

  abbrev pub InHeap : Topic → (A → ℕ → Type 0) → List (Entry A) → Type 0
  InHeap k P h = Each (λ e. About k P e.gossip.event) h

  abbrev pub InMessages : Topic → (A → ℕ → Type 0) → List (Message A) → Type 0
  InMessages k P ms = Each (λ m. InGossip k P m.gossip) ms

  -- a record on the topic names this address at this number, whoever it is from
  abbrev pub Names : Topic → A → ℕ → Event A → Type 0
  Names deaths x n e = (from : A) × (e ≡ Deceased from x n)
  Names suspicions x n e = (from : A) × (e ≡ Suspected from x n)

  -- it stood in one of these messages
  abbrev pub Said : Topic → List (Message A) → A → ℕ → Type 0
  Said k ms x n = Among (λ m. Among (λ g. Names k x n g.event) m.gossip) ms

  -- Each record on the topic that a message brings has stood, by address and number, in a message that was sent. Whatever else it brings is free: sender, action, other
  -- records and their mixture; so is every other call. The wait record is the one that the last step left, or a fresh one
  abbrev pub Brings : Topic → Call A → List (Message A) → Type 0
  Brings k (Add a n ds) sent = Unit {0}
  Brings k (Receive action gs ds lent) sent = InGossip k (Said k sent) gs
  Brings k (Step tick ds lent) sent = Unit {0}
  Brings k (Timer tick lent) sent = Unit {0}
  Brings k (Lends wait) sent = wait.state ≡ SendingPing

  -- a step at this tick; a timer call at this tick
  abbrev pub StepAt : ℕ → Call A → Type 0
  StepAt now (Add a n ds) = ⊥
  StepAt now (Receive action gs ds lent) = ⊥
  StepAt now (Step tick ds lent) = tick ≡ now
  StepAt now (Timer tick lent) = ⊥
  StepAt now (Lends wait) = ⊥

  abbrev pub TimerAt : ℕ → Call A → Type 0
  TimerAt now (Add a n ds) = ⊥
  TimerAt now (Receive action gs ds lent) = ⊥
  TimerAt now (Step tick ds lent) = ⊥
  TimerAt now (Timer tick lent) = tick ≡ now
  TimerAt now (Lends wait) = ⊥

module _ {A : Type 0} where
  -- an Ack of x's own, which is not to be passed on; a message that tells a suspicion of x
  abbrev pub AckBy : A → Action A → Type 0
  AckBy x (Ping from by) = ⊥
  AckBy x (PingReq from about) = ⊥
  AckBy x (Ack from none) = from ≡ x
  AckBy x (Ack from (some to)) = ⊥

  abbrev pub AckOf : A → Call A → Type 0
  AckOf x (Add a n ds) = ⊥
  AckOf x (Receive action gs ds lent) = AckBy x action
  AckOf x (Step tick ds lent) = ⊥
  AckOf x (Timer tick lent) = ⊥
  AckOf x (Lends wait) = ⊥

  abbrev pub ToldOf : A → Call A → Type 0
  ToldOf x (Add a n ds) = ⊥
  ToldOf x (Receive action gs ds lent) = Among (λ g. (n : ℕ) × Names suspicions x n g.event) gs
  ToldOf x (Step tick ds lent) = ⊥
  ToldOf x (Timer tick lent) = ⊥
  ToldOf x (Lends wait) = ⊥

-- So many ticks have gone by: "now less start, modulo 2^32, is at least the wait". In numbers, and the wait of each state by its setting: the rules have their own words for it
abbrev pub GoneBy : ℕ → ℕ → ℕ → Type 0
GoneBy wait since now = wait ≤ (now + 4294967296 - since) % 4294967296

abbrev pub wait_in : {A : Type 0} → Settings → WaitState A → ℕ
wait_in c SendingPing = c.ping_interval
wait_in c (WaitingForPingAck x n) = c.ping_timeout
wait_in c (SendingPingReq x n) = 0
wait_in c (WaitingForPingReqAck x n) = c.ping_req_timeout
wait_in c (Declaring x n) = 0

-- a timer ended if the call was kept, whatever became of its address
abbrev pub if_ended : Reply → Option ℕ → Option ℕ
if_ended (Done used) place = place
if_ended Already place = none
if_ended NotDue place = none
if_ended Refuted place = place
if_ended Gone place = place
if_ended (Refused r) place = none
if_ended (RefusedAt r at) place = none

module _ {A : Type 0} (address : Address A) where
  -- "the earliest started that is over": its place in the row, at a tick; and the place that a call frees
  abbrev pub over_at : ℕ → World A → Option ℕ
  over_at now w = first_over address w.node.settings.suspect_timeout now (loaded w.node).timers

  abbrev pub freed_by : Call A → World A → Option ℕ
  freed_by (Add a n ds) w = none
  freed_by (Receive action gs ds lent) w = none
  freed_by (Step now ds lent) w = none
  freed_by (Timer now lent) w = if_ended (end_timer address w.node now lent).reply (over_at now w)
  freed_by (Lends wait) w = none

  -- a node that creation or a restart gave, and a fresh wait record at any tick
  pub data Fresh : World A → Type 0 where
    fresh : (b : Beginning A) (node : Stored A) (tick : ℕ) → Gave address b node → Fresh (record { node = node; wait = enters SendingPing tick })

  -- "Alive or absent" it is not: listed, and not Alive
  pub record Silent (x : A) (s : Node A) : Type 0 where
    pub listed : lists address x s ≡ true
    pub state : is_alive (state_of address x s) ≡ false

  -- listed, and not the node itself
  pub record Peer (x : A) (s : Node A) : Type 0 where
    pub listed : lists address x s ≡ true
    pub other : address.same s.own x ≡ false

  -- a ping request for x, to a peer that isn't x
  pub record Request (x : A) (s : Node A) (m : Message A) : Type 0 where
    pub action : m.action ≡ PingReq s.own x
    pub to : Peer m.target s
    pub apart : address.same x m.target ≡ false

  -- how many are asked: as many as the setting says, of those that are listed but for two, the node itself and x
  abbrev pub asks_many : Node A → ℕ
  asks_many s = min s.settings.ping_req_group_size (length s.members.table - 2)

  module _ (begins : ℕ → World A) where
    -- every controller's node and wait record after a history
    abbrev pub worlds : List (Turn A) → ℕ → World A
    worlds [] j = begins j
    worlds (t ∷ h) j = pick (eqb t.who j) (world_of address (outcome address t.call (worlds h j))) (worlds h j)

    abbrev pub nodes : List (Turn A) → ℕ → Node A
    nodes h j = loaded (worlds h j).node

    -- what a turn gave
    abbrev pub given : Turn A → List (Turn A) → Outcome A
    given t h = (outcome address t.call (worlds h t.who)).outcome

    -- all that was sent, by anyone to anyone; a call that isn't kept sends nothing
    abbrev pub sent : List (Turn A) → List (Message A)
    sent [] = []
    sent (t ∷ h) = (given t h).messages ++ sent h

    -- no record on the topic was forged
    abbrev pub Honest : Topic → List (Turn A) → Type 0
    Honest k [] = Unit {0}
    Honest k (t ∷ h) = Brings k t.call (sent h) × Honest k h

    -- at the last turn that touched controller j's wait record
    pub data Latest (j : ℕ) (P : Turn A → List (Turn A) → Type 0) : List (Turn A) → Type 0 where
      last : {t : Turn A} {h : List (Turn A)} → P t h → Latest j P (t ∷ h)
      since : {t : Turn A} {h : List (Turn A)} → (worlds (t ∷ h) j).wait ≡ (worlds h j).wait → Latest j P h → Latest j P (t ∷ h)

    -- at turn t controller j took in an Ack of x's own
    pub record Answers (j : ℕ) (x : A) (t : Turn A) (h : List (Turn A)) : Type 0 where
      pub who : t.who ≡ j
      pub ack : AckOf x t.call
      pub used : ℕ
      pub kept : (given t h).reply ≡ Done used

    -- since a turn x has not answered controller j: it took in no Ack of x's own, or none since a message told it a suspicion of x
    pub data Mute (j : ℕ) (x : A) (P : Turn A → List (Turn A) → Type 0) : List (Turn A) → Type 0 where
      opens : {t : Turn A} {h : List (Turn A)} → P t h → Mute j x P (t ∷ h)
      mute : {t : Turn A} {h : List (Turn A)} → (Answers j x t h → ⊥) → Mute j x P h → Mute j x P (t ∷ h)
      told : {t : Turn A} {h : List (Turn A)} → t.who ≡ j → ToldOf x t.call → Latest j P h → Mute j x P (t ∷ h)

    -- at turn t controller j made a step, which was due: its wait record went from a state that was entered at `entered` to another, at `now`
    pub record Steps (j : ℕ) (from : WaitState A) (entered : ℕ) (to : WaitState A) (now : ℕ) (t : Turn A) (h : List (Turn A)) : Type 0 where
      pub who : t.who ≡ j
      pub call : StepAt now t.call
      pub found : (worlds h j).wait ≡ enters from entered
      pub due : GoneBy (wait_in (worlds h j).node.settings from) entered now
      pub left : (worlds (t ∷ h) j).wait ≡ enters to now

    -- controller j pinged x, another than itself, which it listed at number n, and nobody else
    pub record Pinging (j : ℕ) (x : A) (n now : ℕ) (t : Turn A) (h : List (Turn A)) : Type 0 where
      pub entered : ℕ
      pub step : Steps j SendingPing entered (WaitingForPingAck x n) now t h
      pub peer : Peer x (nodes h j)
      pub number : numbered address x (nodes h j) ≡ n
      pub gossip : List (Gossip A)
      pub message : (given t h).messages ≡ record { target = x; action = Ping (nodes h j).own none; gossip = gossip } ∷ []

    -- then, when ping_timeout had gone by, x was silent
    pub record Unheard (j : ℕ) (x : A) (n now : ℕ) (t : Turn A) (h : List (Turn A)) : Type 0 where
      pub entered : ℕ
      pub step : Steps j (WaitingForPingAck x n) entered (SendingPingReq x n) now t h
      pub silent : Silent x (nodes h j)
      pub pinged : Latest j (Pinging j x n entered) h

    -- then it reported the suspicion, and asked for x whom it asked: peers on its list, and not x
    pub record Asking (j : ℕ) (x : A) (n now : ℕ) (t : Turn A) (h : List (Turn A)) : Type 0 where
      pub entered : ℕ
      pub step : Steps j (SendingPingReq x n) entered (WaitingForPingReqAck x n) now t h
      pub event : (given t h).events ≡ record { event = Suspected (nodes h j).own x n } ∷ []
      pub messages : Each (Request x (nodes h j)) (given t h).messages
      pub many : length (given t h).messages ≡ asks_many (nodes h j)
      pub unheard : Latest j (Unheard j x n entered) h

    -- then, when ping_req_timeout had gone by, x was silent still
    pub record StillUnheard (j : ℕ) (x : A) (n now : ℕ) (t : Turn A) (h : List (Turn A)) : Type 0 where
      pub entered : ℕ
      pub step : Steps j (WaitingForPingReqAck x n) entered (Declaring x n) now t h
      pub silent : Silent x (nodes h j)
      pub asked : Latest j (Asking j x n entered) h

    -- then it declared x: it started a timer, and stood at the beginning of a round again
    pub record Declaration (j : ℕ) (x : A) (n now : ℕ) (t : Turn A) (h : List (Turn A)) : Type 0 where
      pub entered : ℕ
      pub step : Steps j (Declaring x n) entered SendingPing now t h
      pub timer : (nodes (t ∷ h) j).timers ≡ (nodes h j).timers ++ (record { addr = x; number = n; since = now } ∷ [])
      pub unheard : Latest j (StillUnheard j x n entered) h

    -- the place of controller j's row of timers that a turn frees
    abbrev pub frees : ℕ → Turn A → List (Turn A) → Option ℕ
    frees j t h = pick (eqb t.who j) (freed_by t.call (worlds h j)) none

    -- Which place of controller j's row is that of the timer that a declaration started: the last one at first, and one nearer to the front with each timer before it that ends
    pub data Runs (j : ℕ) (x : A) (n started : ℕ) : ℕ → List (Turn A) → Type 0 where
      starts : {t : Turn A} {h : List (Turn A)} → Declaration j x n started t h → Runs j x n started (length (nodes h j).timers) (t ∷ h)
      waits : {t : Turn A} {h : List (Turn A)} {place : ℕ} → frees j t h ≡ none → Runs j x n started place h → Runs j x n started place (t ∷ h)
      passes : {t : Turn A} {h : List (Turn A)} {place : ℕ} (later : ℕ) → frees j t h ≡ some later → place < later → Runs j x n started place h → Runs j x n started place (t ∷ h)
      nears : {t : Turn A} {h : List (Turn A)} {place : ℕ} (sooner : ℕ) → frees j t h ≡ some sooner → sooner ≤ place → Runs j x n started (suc place) h → Runs j x n started place (t ∷ h)

    -- a timer call ended the timer at a place of the row, of x at n, when suspect_timeout had gone by since it was started: x was listed, not Alive and at no greater number,
    -- it left the list, and exactly its death was reported
    pub record Ends (x : A) (n started place : ℕ) (t : Turn A) (h : List (Turn A)) : Type 0 where
      pub now : ℕ
      pub call : TimerAt now t.call
      pub first : over_at now (worlds h t.who) ≡ some place
      pub timer : At (nodes h t.who).timers place (record { addr = x; number = n; since = started })
      pub over : GoneBy (worlds h t.who).node.settings.suspect_timeout started now
      pub silent : Silent x (nodes h t.who)
      pub number : numbered address x (nodes h t.who) ≤ n
      pub gone : lists address x (loaded (given t h).node) ≡ false
      pub event : (given t h).events ≡ record { event = Deceased (nodes h t.who).own x n } ∷ []

    -- a declaration timed out: a timer call that ended it with a removal, and the same controller's declaration before it, which started that very timer
    pub record Removal (x : A) (n : ℕ) (t : Turn A) (h : List (Turn A)) : Type 0 where
      pub started : ℕ
      pub place : ℕ
      pub ends : Ends x n started place t h
      pub declared : Runs t.who x n started place h

    abbrev pub TimedOut : List (Turn A) → A → ℕ → Type 0
    TimedOut h x n = Once (Removal x n) h

    -- a controller's own probe of x at number n went unanswered, and it asked others
    pub record Suspicion (x : A) (n : ℕ) (t : Turn A) (h : List (Turn A)) : Type 0 where
      pub at : ℕ
      pub asking : Asking t.who x n at t h

    abbrev pub AskedFor : List (Turn A) → A → ℕ → Type 0
    AskedFor h x n = Once (Suspicion x n) h

    -- what stands behind a record on the topic
    abbrev pub Caused : Topic → List (Turn A) → A → ℕ → Type 0
    Caused deaths h x n = TimedOut h x n
    Caused suspicions h x n = AskedFor h x n
