-- EXISTENCE. Every call on every node has a result that meets its contract, and so has every list of calls, so that no theorem over results or runs is empty. With `Unique`: each call has exactly one.
-- Assumes nothing.
use Rattle.std.specs.Prelude.{List, map, ℕ, length}
use Rattle.address.specs.Here.{Addr}
use Rattle.history.specs.Histories.{Call, Add, Receive, Step, Timer, Lends}
use Rattle.types.specs.declared.Gossip.{Gossip}
use Rattle.types.specs.declared.Action.{Action}
use Rattle.types.specs.Views.{to_gossip, to_action}
use Rattle.node.specs.declared.Node.{Node}
use Rattle.wait.specs.declared.Wait.{Wait}
use Rattle.wait.specs.Views.{to_wait}
use Rattle.swim.specs.Promises.{room}
use Rattle.promises.specs.Made.{Held, Said, Made}
use Rattle.promises.specs.Runs.{Runs}

-- a call as a host makes it, or a wait record that it lends from then on
pub data Ask : Type 0 where
  add : Addr → ℕ → List ℕ → Ask
  receive : Action → List Gossip → List ℕ → Ask
  step : ℕ → List ℕ → Ask
  end_timer : ℕ → Ask
  lend : Wait → Ask

-- and the rows that are lent for it
pub record Turn : Type 0 where
  pub ask : Ask
  pub gossip : List Gossip
  pub events : List Gossip

abbrev pub call_by : Ask → List Gossip → List Gossip → Call Addr
call_by (add a n draws) gossip events = Add a n draws
call_by (receive action rows draws) gossip events = Receive (to_action action) (map to_gossip rows) draws (room gossip events)
call_by (step tick draws) gossip events = Step tick draws (room gossip events)
call_by (end_timer tick) gossip events = Timer tick (record { gossip = 0; events = length events })
call_by (lend wait) gossip events = Lends (to_wait wait)

abbrev pub call_of : Turn → Call Addr
call_of t = call_by t.ask t.gossip t.events

pub record Result (h : Held) (c : Call Addr) : Type 0 where
  pub said : Said
  pub held : Held
  pub made : Made h c said held

pub record Ran (n : Node) (w : Wait) (cs : List (Call Addr)) : Type 0 where
  pub node : Node
  pub wait : Wait
  pub runs : Runs n w cs node wait
