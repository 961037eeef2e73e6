-- No call makes up a record: what it holds, sends and reports after it, it held or was told before it, but for the suspicion of a ping-request step and the death of an
-- ended timer.
-- Assumes nothing.
use Rattle.std.specs.Prelude.{◌≡◌, ℕ}
use mathlib.Core.List.{List, [], ◌∷◌}
use Rattle.model.specs.declared.Fate.{Fate}
use Rattle.model.specs.declared.Fate.TheVariants.{Leaves, Stays, Absent}
use Rattle.model.specs.Words.{Address, Suspected, Deceased, Gossip, Timer as Running, WaitState, SendingPing, WaitingForPingAck, SendingPingReq, WaitingForPingReqAck, Declaring}
use Rattle.model.specs.Node.{loaded}
use Rattle.model.specs.Calls.{Outcome, detect, end_timer}
use Rattle.history.specs.Histories.{World, Call, Add, Receive, Step, Timer, Lends}
use Rattle.cabinet.specs.Cabinets.{Topic, About, InGossip, InMessages}
use Rattle.cabinet.specs.Rules.{Holds}

module _ {A : Type 0} where
  -- what a call is told
  abbrev pub Tells : Topic → (A → ℕ → Type 0) → Call A → Type 0
  Tells k P (Add a n ds) = Unit {0}
  Tells k P (Receive action gs ds lent) = InGossip k P gs
  Tells k P (Step tick ds lent) = Unit {0}
  Tells k P (Timer tick lent) = Unit {0}
  Tells k P (Lends wait) = Unit {0}

-- what an ended timer says, by its fate
abbrev pub SaysBy : {A : Type 0} → Fate → Running A → A → List (Gossip A) → Type 0
SaysBy Leaves t own said = said ≡ record { event = Deceased own t.addr t.number } ∷ []
SaysBy Stays t own said = said ≡ []
SaysBy Absent t own said = said ≡ []

module _ {A : Type 0} (address : Address A) (k : Topic) (P : A → ℕ → Type 0) where
  -- what a call gave: its node, its messages and its events
  pub record Gives (o : Outcome A) : Type 0 where
    pub node : Holds address k P (loaded o.node)
    pub messages : InMessages k P o.messages
    pub events : InGossip k P o.events

  -- what is asked of the suspicion that a step says, and of the death that a timer call says
  abbrev pub AsksHave : WaitState A → WaitState A → A → Type 0
  AsksHave SendingPing st own = Unit {0}
  AsksHave (WaitingForPingAck a n) st own = Unit {0}
  AsksHave (SendingPingReq a n) st own = st ≡ WaitingForPingReqAck a n → About k P (Suspected own a n)
  AsksHave (WaitingForPingReqAck a n) st own = Unit {0}
  AsksHave (Declaring a n) st own = Unit {0}

  abbrev pub EndsHave : A → Outcome A → Type 0
  EndsHave own o = (x : A) (n : ℕ) → o.events ≡ record { event = Deceased own x n } ∷ [] → About k P (Deceased own x n)

  -- what is asked of a call's own words
  abbrev pub OwnHave : Call A → World A → Type 0
  OwnHave (Add a n ds) w = Unit {0}
  OwnHave (Receive action gs ds lent) w = Unit {0}
  OwnHave (Step tick ds lent) w = AsksHave w.wait.state (detect address w.node w.wait tick ds lent).wait.state (loaded w.node).own
  OwnHave (Timer tick lent) w = EndsHave (loaded w.node).own (end_timer address w.node tick lent)
  OwnHave (Lends wait) w = Unit {0}
