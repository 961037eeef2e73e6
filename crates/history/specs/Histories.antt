-- A history: any list of calls, each with its draws, its ticks and how many places the host lends, from the node that creation or a restart gave. A step's wait record is the one that the last step
-- left, unless the host lends another: a fresh one, an older one, or one that it made up.
-- Assumes nothing.
use Rattle.std.specs.Prelude.{List, [], ◌∷◌, ◌++◌, ℕ}
use Rattle.std.proofs.Math.Option.{Option, none, some}
use Rattle.model.specs.declared.Reply.{Reply}
use Rattle.model.specs.declared.Reply.TheVariants.{Done, Already, NotDue, Refuted, Gone, Refused, RefusedAt}
use Rattle.model.specs.Bounds.{Room}
use Rattle.model.specs.Words.{Address, Gossip, Action, Wait, SendingPing}
use Rattle.model.specs.Node.{Node, Stored, loaded, stored}
use Rattle.model.specs.Detector.{first_over}
use Rattle.model.specs.Calls.{StepOutcome, unchanged, add_peer, message, detect, end_timer}
use Rattle.history.specs.Beginnings.{Beginning, first_node}
use Rattle.history.specs.Moments.{Moment, Added, silent, trace_add, trace_message, trace_step, trace_timer}

-- what the calls of a history work on
pub record World (A : Type 0) : Type 0 where
  pub node : Stored A
  pub wait : Wait A

-- "The calls that change a node are four: this one, the message, the detector step and the timer call."
pub data Call (A : Type 0) : Type 0 where
  Add : A → ℕ → List ℕ → Call A
  Receive : Action A → List (Gossip A) → List ℕ → Room → Call A
  Step : ℕ → List ℕ → Room → Call A
  Timer : ℕ → Room → Call A
  -- no call of its own: the host lends this wait record from now on
  Lends : Wait A → Call A

module _ {A : Type 0} (address : Address A) where
  -- what a call gives, with the wait record after it
  abbrev pub outcome : Call A → World A → StepOutcome A
  outcome (Add a n ds) w = record { outcome = add_peer address w.node a n ds; wait = w.wait }
  outcome (Receive action gs ds lent) w = record { outcome = message address w.node action gs ds lent; wait = w.wait }
  outcome (Step now ds lent) w = detect address w.node w.wait now ds lent
  outcome (Timer now lent) w = record { outcome = end_timer address w.node now lent; wait = w.wait }
  outcome (Lends wait) w = record { outcome = unchanged (Done 0) w.node; wait = wait }

  abbrev pub world_of : StepOutcome A → World A
  world_of o = record { node = o.outcome.node; wait = o.wait }

  abbrev pub run : List (Call A) → World A → World A
  run [] w = w
  run (c ∷ h) w = run h (world_of (outcome c w))

  -- the rules that a kept call ran
  abbrev pub ending_at : Option ℕ → Node A → List (Moment A)
  ending_at none s = []
  ending_at (some i) s = trace_timer address i s

  abbrev pub rules_of : Call A → Node A → Wait A → List (Moment A)
  rules_of (Add a n ds) s w = trace_add address a n s ds
  rules_of (Receive action gs ds lent) s w = trace_message address action gs s ds
  rules_of (Step now ds lent) s w = trace_step address w.state now s ds
  rules_of (Timer now lent) s w = ending_at (first_over address s.settings.suspect_timeout now s.timers) s
  rules_of (Lends wait) s w = []

  -- "an add .. while not listed": whether the address is listed is for the ledger to say, so an add that answered "already" is read too
  abbrev pub idle_of : Call A → Node A → List (Moment A)
  idle_of (Add a n ds) s = silent (Added a n) s s
  idle_of (Receive action gs ds lent) s = []
  idle_of (Step now ds lent) s = []
  idle_of (Timer now lent) s = []
  idle_of (Lends wait) s = []

  -- "Refused calls drop out"; where nothing was due, nothing ran. A timer that ended without a removal ran
  abbrev pub moments_by : Reply → List (Moment A) → List (Moment A) → List (Moment A)
  moments_by (Done used) ran idle = ran
  moments_by Already ran idle = idle
  moments_by NotDue ran idle = []
  moments_by Refuted ran idle = ran
  moments_by Gone ran idle = ran
  moments_by (Refused r) ran idle = []
  moments_by (RefusedAt r at) ran idle = []

  abbrev pub moments : Call A → World A → List (Moment A)
  moments c w = moments_by (outcome c w).outcome.reply (rules_of c (loaded w.node) w.wait) (idle_of c (loaded w.node))

  abbrev pub trace : List (Call A) → World A → List (Moment A)
  trace [] w = []
  trace (c ∷ h) w = moments c w ++ trace h (world_of (outcome c w))

  -- "a fresh one is SendingPing at any tick"
  abbrev pub start : Beginning A → ℕ → World A
  start b tick = record { node = stored address (first_node b); wait = record { state = SendingPing; since = tick } }
