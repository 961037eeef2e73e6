-- What each call promises, for every input: its answer, the node, the wait record, and every place of every lent row.
-- Assumes nothing.
use Rattle.std.specs.Prelude.{◌≡◌, List, map, ℕ, length}
use Rattle.model.specs.declared.Settings.{Settings}
use Rattle.model.specs.Bounds.{Room}
use Rattle.address.specs.Here.{Addr, here}
use Rattle.model.specs.Words as W
use Rattle.model.specs.Calls as calls
use Rattle.types.specs.declared.Gossip.{Gossip}
use Rattle.types.specs.declared.Action.{Action}
use Rattle.types.specs.Views.{to_gossip, from_gossip, to_action}
use Rattle.node.specs.declared.Node.{Node}
use Rattle.node.specs.declared.Answer.{Answer}
use Rattle.node.specs.Views.{stored_view, answer_of, created_of}
use Rattle.wait.specs.declared.Wait.{Wait}
use Rattle.wait.specs.Views.{to_wait, from_wait}
use Rattle.why.specs.declared.Grounds.{Grounds}
use Rattle.why.specs.Why as asked
use Rattle.swim.specs.declared.Outcome.{Outcome}

-- how a call ended, its node and its messages, and how many events it reported
unfoldable pub outcome_of : calls.Outcome Addr → Outcome
outcome_of o = record { answer = answer_of o; reported = length o.events }

-- a lent row after the call: what was written, and "places past the last written stay as lent"
unfoldable pub row_after : List (W.Gossip Addr) → List Gossip → List Gossip
row_after gs lent = map from_gossip (calls.written gs (map to_gossip lent))

-- the lengths of the rows lent for output
abbrev pub room : List Gossip → List Gossip → Room
room gossip events = record { gossip = length gossip; events = length events }

-- a call that ended as the rules say: its answer, and the rows for gossip and events as they are handed back
pub record Ends (o : calls.Outcome Addr) (gossip events : List Gossip) (r : Outcome) (gossip' events' : List Gossip) : Type 0 where
  pub answer : r ≡ outcome_of o
  pub spoken : gossip' ≡ row_after (calls.packed o.messages) gossip
  pub told : events' ≡ row_after o.events events

-- the calls, by the rules
abbrev pub add_of : Node → Addr → ℕ → List ℕ → calls.Outcome Addr
add_of node a number draws = calls.add_peer here (stored_view node) a number draws

abbrev pub message_of : Node → Action → List Gossip → List ℕ → List Gossip → List Gossip → calls.Outcome Addr
message_of node action rows draws gossip events = calls.message here (stored_view node) (to_action action) (map to_gossip rows) draws (room gossip events)

abbrev pub step_of : Node → Wait → ℕ → List ℕ → List Gossip → List Gossip → calls.StepOutcome Addr
step_of node wait tick draws gossip events = calls.detect here (stored_view node) (to_wait wait) tick draws (room gossip events)

abbrev pub timer_of : Node → ℕ → List Gossip → calls.Outcome Addr
timer_of node tick events = calls.end_timer here (stored_view node) tick (record { gossip = 0; events = length events })

-- creation
pub record Creates (settings : Settings) (own : Addr) (number : ℕ) (r : Answer) : Type 0 where
  pub answer : r ≡ created_of (calls.create here settings own number)

-- adding a peer
pub record Adds (node : Node) (a : Addr) (number : ℕ) (draws : List ℕ) (r : Answer) : Type 0 where
  pub answer : r ≡ answer_of (add_of node a number draws)

-- the message
pub record Receives (node : Node) (action : Action) (rows : List Gossip) (draws : List ℕ) (gossip events : List Gossip) (r : Outcome) (gossip' events' : List Gossip) : Type 0 where
  pub ends : Ends (message_of node action rows draws gossip events) gossip events r gossip' events'

-- the detector step
pub record Steps (node : Node) (wait : Wait) (tick : ℕ) (draws : List ℕ) (gossip events : List Gossip) (r : Outcome) (wait' : Wait) (gossip' events' : List Gossip) : Type 0 where
  pub ends : Ends (step_of node wait tick draws gossip events).outcome gossip events r gossip' events'
  pub waits : wait' ≡ from_wait (step_of node wait tick draws gossip events).wait

-- the timer call
pub record EndsTimer (node : Node) (tick : ℕ) (events : List Gossip) (r : Outcome) (events' : List Gossip) : Type 0 where
  pub answer : r ≡ outcome_of (timer_of node tick events)
  pub told : events' ≡ row_after (timer_of node tick events).events events

-- why an event is decided as it is
pub record Explains (node : Node) (draws : List ℕ) (g : Gossip) (r : Grounds) : Type 0 where
  pub answer : r ≡ asked.why here (stored_view node) (to_gossip g) draws
