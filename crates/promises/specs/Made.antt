-- One call that changes a node, as a program makes it: what it was given, how it ended, and what it handed back. All that is known of it is its contract.
-- Assumes nothing.
use Rattle.std.specs.Prelude.{◌≡◌, List, [], map, ℕ, length, take}
use Rattle.address.specs.Here.{Addr}
use Rattle.model.specs.declared.Reply.{Reply}
use Rattle.model.specs.declared.Reply.TheVariants.{Done}
use Rattle.history.specs.Histories.{Call, Add, Receive, Step, Timer, Lends}
use Rattle.types.specs.declared.Gossip.{Gossip}
use Rattle.types.specs.declared.Action.{Action}
use Rattle.types.specs.Views.{to_gossip, to_action}
use Rattle.node.specs.declared.Node.{Node}
use Rattle.node.specs.declared.Letter.{Letter}
use Rattle.node.specs.declared.Answer.{Answer}
use Rattle.wait.specs.declared.Wait.{Wait}
use Rattle.wait.specs.Views.{to_wait}
use Rattle.swim.specs.declared.Outcome.{Outcome}
use Rattle.swim.specs.Promises.{room, Adds, Receives, Steps, EndsTimer}

-- the node, and what a host lends for a call: its wait record, and its rows for gossip and events
pub record Held : Type 0 where
  pub node : Node
  pub wait : Wait
  pub gossip : List Gossip
  pub events : List Gossip

-- the letters of an answer that are in use
abbrev pub letters_of : Answer → List Letter
letters_of r = take r.sent r.letters

-- what a call answers: how it ended, the messages to send, and how many events it says to have written
pub record Said : Type 0 where
  pub reply : Reply
  pub letters : List Letter
  pub reported : ℕ

-- creation gave a node: it used no draw
abbrev pub Accepted : Answer → Type 0
Accepted r = r.reply ≡ Done 0

-- a row that a call has no use for isn't lent, and so is as it was. Between two calls the host may put any wait record in the place of the one that it has
pub data Made (h : Held) : Call Addr → Said → Held → Type 0 where
  adds : (a : Addr) (number : ℕ) (draws : List ℕ) (r : Answer) → Adds h.node a number draws r
      → Made h (Add a number draws) (record { reply = r.reply; letters = letters_of r; reported = 0 }) (record { node = r.node; wait = h.wait; gossip = h.gossip; events = h.events })
  receives : (action : Action) (rows : List Gossip) (draws : List ℕ) (r : Outcome) (gossip events : List Gossip) → Receives h.node action rows draws h.gossip h.events r gossip events
      → Made h (Receive (to_action action) (map to_gossip rows) draws (room h.gossip h.events)) (record { reply = r.answer.reply; letters = letters_of r.answer; reported = r.reported }) (record { node = r.answer.node; wait = h.wait; gossip = gossip; events = events })
  steps : (tick : ℕ) (draws : List ℕ) (r : Outcome) (wait : Wait) (gossip events : List Gossip) → Steps h.node h.wait tick draws h.gossip h.events r wait gossip events
      → Made h (Step tick draws (room h.gossip h.events)) (record { reply = r.answer.reply; letters = letters_of r.answer; reported = r.reported }) (record { node = r.answer.node; wait = wait; gossip = gossip; events = events })
  ends_timer : (tick : ℕ) (r : Outcome) (events : List Gossip) → EndsTimer h.node tick h.events r events
      → Made h (Timer tick (record { gossip = 0; events = length h.events })) (record { reply = r.answer.reply; letters = letters_of r.answer; reported = r.reported }) (record { node = r.answer.node; wait = h.wait; gossip = h.gossip; events = events })
  lends : (wait : Wait) → Made h (Lends (to_wait wait)) (record { reply = Done 0; letters = []; reported = 0 }) (record { node = h.node; wait = wait; gossip = h.gossip; events = h.events })
