-- No rule makes up a record: for any P of an address and a number, if P holds of each record on the topic that a node holds and that it is told, it holds of each that the
-- node then holds, sends and reports. Only the ping-request step says a suspicion of its own, and only an ended timer a death.
-- Assumes nothing.
use Rattle.std.specs.Prelude.{ℕ}
use Rattle.model.specs.declared.Fate.{Fate}
use Rattle.model.specs.declared.Fate.TheVariants.{Leaves, Stays, Absent}
use Rattle.model.specs.Answers.{Answer}
use Rattle.model.specs.Words.{Address, Suspected, Deceased, Timer, WaitState, SendingPing, WaitingForPingAck, SendingPingReq, WaitingForPingReqAck, Declaring}
use Rattle.model.specs.Node.{Disseminator, Node, Out, Effect, Spread}
use Rattle.model.specs.Detector.{Stepped}
use Rattle.laws.specs.After.{After}
use Rattle.cabinet.specs.Cabinets.{Topic, About, InGossip, InHeap, InMessages}

module _ {A : Type 0} (address : Address A) (k : Topic) (P : A → ℕ → Type 0) where
  -- both heaps
  pub record Heaps (d : Disseminator A) : Type 0 where
    pub alive : InHeap k P d.alive
    pub deceased : InHeap k P d.deceased

  abbrev pub Holds : Node A → Type 0
  Holds s = Heaps s.disseminator

  -- what a rule leaves, and what a call does
  pub record Told (o : Out A) : Type 0 where
    pub node : Holds o.node
    pub said : InGossip k P o.said

  pub record Does (e : Effect A) : Type 0 where
    pub node : Holds e.node
    pub messages : InMessages k P e.messages
    pub events : InGossip k P e.events

  -- chosen gossip comes from the heaps
  pub record Spreads (c : Spread A) : Type 0 where
    pub node : Holds c.node
    pub gossip : InGossip k P c.gossip

  -- the detector step is told nothing; its ping-request step says a suspicion
  abbrev pub StepDoes : Answer (Stepped A) → Type 0
  StepDoes x = After (λ e. Does e.effect) x

  -- what a step says of its own
  abbrev pub OwnSuspicion : WaitState A → A → Type 0
  OwnSuspicion SendingPing own = Unit {0}
  OwnSuspicion (WaitingForPingAck a n) own = Unit {0}
  OwnSuspicion (SendingPingReq a n) own = About k P (Suspected own a n)
  OwnSuspicion (WaitingForPingReqAck a n) own = Unit {0}
  OwnSuspicion (Declaring a n) own = Unit {0}

  -- an ended timer that removes declares what it names; any other says nothing
  abbrev pub OwnDeath : Fate → Timer A → A → Type 0
  OwnDeath Leaves t own = About k P (Deceased own t.addr t.number)
  OwnDeath Stays t own = Unit {0}
  OwnDeath Absent t own = Unit {0}
