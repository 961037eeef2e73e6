-- A kept call as its moments: each rule that ran, with the replay's node before and after it and what it reported. An address that leaves
-- and comes back within one message does so at two moments.
-- Assumes nothing.
use Rattle.std.specs.Prelude.{List, [], ◌∷◌, ◌++◌, ℕ, get_or}
use Rattle.std.proofs.Math.Option.{Option, none, some}
use Rattle.model.specs.Answers.{Answer, done, refused, and_then}
use Rattle.model.specs.Words.{Address, Event, Gossip, Action, Ping, PingReq, Ack, Timer, WaitState, no_timer}
use Rattle.model.specs.Members as list
use Rattle.model.specs.Node.{Node, Out, spread, with_members}
use Rattle.model.specs.Handler.{item, gossip, admit, acked}
use Rattle.model.specs.Detector.{Stepped, step, end_at}

-- what a rule was asked: a gossip record, a Ping's sender, an add, an ended timer, or something else, as a detector step
pub data Deed (A : Type 0) : Type 0 where
  Told : Event A → Deed A
  Sender : A → Deed A
  Added Ended : A → ℕ → Deed A
  Other : Deed A

pub record Moment (A : Type 0) : Type 0 where
  pub before : Node A
  pub deed : Deed A
  pub after : Node A
  pub said : List (Gossip A)

module _ {A : Type 0} where
  abbrev pub moment_of : Deed A → Node A → Out A → Moment A
  moment_of d s o = record { before = s; deed = d; after = o.node; said = o.said }

  -- the moment of a rule that gave something
  abbrev pub moment : Deed A → Node A → Answer (Out A) → List (Moment A)
  moment d s (refused r) = []
  moment d s (done o ds) = moment_of d s o ∷ []

  -- a rule that reports nothing
  abbrev pub silent : Deed A → Node A → Node A → List (Moment A)
  silent d s s' = record { before = s; deed = d; after = s'; said = [] } ∷ []

  -- the moments of what follows, if there is a node to go on with
  abbrev pub trace_then : Answer (Out A) → (Node A → List ℕ → List (Moment A)) → List (Moment A)
  trace_then (refused r) k = []
  trace_then (done o ds) k = k o.node ds

  -- a detector step is one moment
  abbrev pub stepped : Node A → Answer (Stepped A) → List (Moment A)
  stepped s (refused r) = []
  stepped s (done e ds) = record { before = s; deed = Other; after = e.effect.node; said = e.effect.events } ∷ []

module _ {A : Type 0} (address : Address A) where
  abbrev pub trace_gossip : List (Gossip A) → Node A → List ℕ → List (Moment A)
  trace_gossip [] s ds = []
  trace_gossip (g ∷ gs) s ds =
      moment (Told g.event) s (item address g.event s ds) ++ trace_then (item address g.event s ds) (trace_gossip gs)

  -- gossip is chosen for the answer
  abbrev pub trace_spread : Node A → List (Moment A)
  trace_spread s = silent Other s (spread address s).node

  abbrev pub trace_admit : A → Node A → List ℕ → List (Moment A)
  trace_admit from s ds = moment (Sender from) s (admit address from s ds) ++ trace_then (admit address from s ds) (λ s' rest. trace_spread s')

  abbrev pub trace_ack : A → Option A → Node A → List (Moment A)
  trace_ack from none s = silent Other s (acked address from s)
  trace_ack from (some to) s = []

  abbrev pub trace_message : Action A → List (Gossip A) → Node A → List ℕ → List (Moment A)
  trace_message (Ping from by) gs s ds = trace_gossip gs s ds ++ trace_then (gossip address gs s ds) (trace_admit from)
  trace_message (PingReq from suspect) gs s ds = trace_gossip gs s ds ++ trace_then (gossip address gs s ds) (λ s' rest. trace_spread s')
  trace_message (Ack from to) gs s ds = trace_gossip gs s ds ++ trace_then (gossip address gs s ds) (λ s' rest. trace_ack from to s')

  abbrev pub trace_step : WaitState A → ℕ → Node A → List ℕ → List (Moment A)
  trace_step st now s ds = stepped s (step address st now s ds)

  abbrev pub ended_deed : Timer A → Deed A
  ended_deed t = Ended t.addr t.number

  abbrev pub trace_timer : ℕ → Node A → List (Moment A)
  trace_timer i s = moment (ended_deed (get_or s.timers i (no_timer address))) s (end_at address i s [])

  abbrev pub trace_add : A → ℕ → Node A → List ℕ → List (Moment A)
  trace_add a n s ds = moment (Added a n) s (and_then (list.add address.same a n s.members ds) λ m rest. done (record { node = with_members s m; said = []; collected = 0 }) rest)
