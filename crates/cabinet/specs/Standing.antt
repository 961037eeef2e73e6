-- What stands in every honest history: each record on the topic that a controller holds, or that is on its way, has its cause; each timer that was started was declared; and
-- each wait record came by the detector's states, in one round.
-- Assumes nothing.
use Rattle.std.specs.Prelude.{List, ℕ}
use Rattle.model.specs.Words.{Address, Lawful, Timer as Running, WaitState, SendingPing, WaitingForPingAck, SendingPingReq, WaitingForPingReqAck, Declaring}
use Rattle.model.specs.Node.{loaded}
use Rattle.history.specs.Histories.{World}
use Rattle.history.specs.Tells.{At}
use Rattle.cabinet.specs.Cabinets.{Topic, Turn, InMessages, Fresh, worlds, Latest, Runs, Pinging, Unheard, Asking, StillUnheard, Caused}
use Rattle.cabinet.specs.Cabinets as cabinets
use Rattle.cabinet.specs.Rules.{Holds}

module _ {A : Type 0} (address : Address A) (lawful : Lawful address) (begins : ℕ → World A) (begun : (j : ℕ) → Fresh address (begins j)) (k : Topic) where
  -- how controller j's wait record came to its state, at the tick at which it was entered
  abbrev pub Came : ℕ → List (Turn A) → WaitState A → ℕ → Type 0
  Came j h SendingPing entered = Unit {0}
  Came j h (WaitingForPingAck x n) entered = Latest address begins j (Pinging address begins j x n entered) h
  Came j h (SendingPingReq x n) entered = Latest address begins j (Unheard address begins j x n entered) h
  Came j h (WaitingForPingReqAck x n) entered = Latest address begins j (Asking address begins j x n entered) h
  Came j h (Declaring x n) entered = Latest address begins j (StillUnheard address begins j x n entered) h

  -- each timer of a row runs since its declaration
  abbrev pub Declared : ℕ → List (Turn A) → List (Running A) → Type 0
  Declared j h row = (i : ℕ) (t : Running A) → At row i t → Runs address begins j t.addr t.number t.since i h

  pub record Watched (h : List (Turn A)) (j : ℕ) (w : World A) : Type 0 where
    pub node : Holds address k (Caused address begins k h) (loaded w.node)
    pub wait : Came j h w.wait.state w.wait.since
    pub timers : Declared j h (loaded w.node).timers

  -- the controller that makes a turn
  module _ (j : ℕ) (h : List (Turn A)) (seen : Watched h j (worlds address begins h j)) where
    abbrev pub w : World A
    w = worlds address begins h j

  abbrev pub All : List (Turn A) → Type 0
  All h = (j : ℕ) → Watched h j (worlds address begins h j)

  -- what stands in every honest history
  pub record Standing (h : List (Turn A)) : Type 0 where
    pub all : All h
    pub sent : InMessages k (Caused address begins k h) (cabinets.sent address begins h)
