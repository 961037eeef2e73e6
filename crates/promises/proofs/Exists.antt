-- EXISTENCE. Every call on every node has a result that meets its contract, and so has every list of calls, so that no theorem over results or runs is empty. With `Unique`: each call has exactly one.
-- Assumes nothing.
use Rattle.std.specs.Prelude.{◌≡◌, refl, true, List, [], ◌∷◌, map, ℕ}
use Rattle.model.specs.declared.Settings.{Settings}
use Rattle.address.specs.Here.{Addr, here}
use Rattle.model.specs.Calls as calls
use Rattle.model.specs.Sound.{in_range}
use Rattle.node.specs.declared.Node.{Node}
use Rattle.node.specs.declared.Answer.{Answer}
use Rattle.node.specs.Views.{answer_of, created_of}
use Rattle.wait.specs.declared.Wait.{Wait}
use Rattle.wait.specs.Views.{from_wait}
use Rattle.swim.specs.Promises.{Creates, outcome_of, row_after, add_of, message_of, step_of, timer_of}
use Rattle.promises.specs.Made.{Held, Accepted, adds, receives, steps, ends_timer, lends}
use Rattle.promises.specs.Runs.{rests, makes}
use Rattle.promises.specs.Exists.{Ask, Turn, call_by, call_of, Result, Ran, add, receive, step, end_timer, lend}

pub create_exists : (settings : Settings) (own : Addr) (number : ℕ) → (r : Answer) × Creates settings own number r
create_exists settings own number = (created_of (calls.create here settings own number), record { answer = refl })

-- settings in range and an own address in range give a node: what the theorems over runs start from is met
pub begins_exist : (settings : Settings) (own : Addr) (number : ℕ) → in_range settings ≡ true → here.valid own ≡ true → (r : Answer) × Creates settings own number r × Accepted r
unfolding calls.create created_of
begins_exist settings own number s v = (created_of (calls.create here settings own number), record { answer = refl }, rw (v, s) refl)

pub exists : (h : Held) (q : Ask) → Result h (call_by q h.gossip h.events)
exists h (add a n draws) =
    record { said = _; held = _; made = adds a n draws (answer_of (add_of h.node a n draws)) (record { answer = refl }) }
exists h (receive action rows draws) =
    let o = message_of h.node action rows draws h.gossip h.events in
    record {
      said = _;
      held = _;
      made = receives action rows draws (outcome_of o) (row_after (calls.packed o.messages) h.gossip) (row_after o.events h.events)
          (record { ends = record { answer = refl; spoken = refl; told = refl } });
    }
exists h (step tick draws) =
    let o = step_of h.node h.wait tick draws h.gossip h.events in
    record {
      said = _;
      held = _;
      made = steps tick draws (outcome_of o.outcome) (from_wait o.wait) (row_after (calls.packed o.outcome.messages) h.gossip) (row_after o.outcome.events h.events)
          (record { ends = record { answer = refl; spoken = refl; told = refl }; waits = refl });
    }
exists h (end_timer tick) =
    let o = timer_of h.node tick h.events in
    record { said = _; held = _; made = ends_timer tick (outcome_of o) (row_after o.events h.events) (record { answer = refl; told = refl }) }
exists h (lend wait) = record { said = _; held = _; made = lends wait }

abbrev handed : Node → Wait → Turn → Held
handed n w t = record { node = n; wait = w; gossip = t.gossip; events = t.events }

-- whatever a host asks, one call after the other, there is a run of it
pub runs_exist : (n : Node) (w : Wait) (ts : List Turn) → Ran n w (map call_of ts)
runs_exist n w [] = record { node = n; wait = w; runs = rests n w }
runs_exist n w (t ∷ ts) =
    let h = handed n w t in
    let x = exists h t.ask in
    let r = runs_exist x.held.node x.held.wait ts in
    record { node = r.node; wait = r.wait; runs = makes h (call_of t) x.said x.held x.made r.runs }
