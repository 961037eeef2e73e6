-- DEMAND 3, OF THE PROGRAM. Of every run of calls of `swim` from the node that creation or a restart handed back, with a fresh wait record at any tick, with any wait record that the host lends later, and of every
-- address. The ledger is 01's, replayed from the inputs of creation or of the restart and the calls alone; the nodes and the rows are those that the program was handed back.
-- Assumes nothing.
use Rattle.std.specs.Prelude.{◌≡◌, List, [], ◌∷◌, ◌++◌, map, ℕ, suc, length, drop}
use Rattle.model.specs.Bounds.{Room}
use Rattle.address.specs.Here.{Addr, here}
use Rattle.model.specs.Words as W
use Rattle.history.specs.Moments.{Moment}
use Rattle.history.specs.Beginnings.{Beginning, own_of}
use Rattle.history.specs.Ledger.{Tally, tally, begun}
use Rattle.history.specs.Walk.{Along}
use Rattle.history.specs.Histories.{World, Call, Step, run, moments, trace, start}
use Rattle.history.specs.Tells.{At, Leads, said_by, deeds_in, asked, asked_by}
use Rattle.history.specs.Next.{Left}
use Rattle.history.specs.Auditor.{Cause, Absent}
use Rattle.types.specs.declared.Gossip.{Gossip}
use Rattle.node.specs.declared.Node.{Node}
use Rattle.node.specs.Views.{view_node}
use Rattle.wait.specs.declared.Wait.{Wait}
use Rattle.wait.specs.Views.{to_wait}
use Rattle.swim.specs.Promises.{row_after}
use Rattle.promises.specs.Begun.{Begun}
use Rattle.promises.specs.Made.{Held, Said, Made}
use Rattle.promises.specs.Runs.{Runs, seen}

-- what demand 3 says of one call of a run, by its moments ms and the ledger t before it: about the node that the program handed in and the one it was handed back, and the events that
-- stand in its row
pub record Account (a own : Addr) (t : Tally) (h : Held) (c : Call Addr) (s : Said) (h' : Held) (ms : List (Moment Addr)) : Type 0 where
  -- the moments lead from the node before the call to the node after it
  pub leads : Leads (view_node h.node) ms (view_node h'.node)
  -- what they said stands in the row for events, and nothing else was written there
  pub events : h'.events ≡ row_after (said_by ms) h.events
  pub reported : s.reported ≡ length (said_by ms)
  -- they were asked what the call asks: each record of a message in its order, then a Ping's sender; and so on
  pub asks : deeds_in ms ≡ asked_by here s.reply (asked here c (seen h))
  -- "while listed, its number never falls"; "a death notice that removes a peer carries a number no lower than any reported for it"
  pub fine : Along here a own ms t
  -- a step that sends a ping and then waits for the peer b sent it to b, and to nobody else
  pub pings : (now : ℕ) (ds : List ℕ) (lent : Room) (b : Addr) (n : ℕ) → c ≡ Step now ds lent → (to_wait h.wait).state ≡ W.SendingPing → (to_wait h'.wait).state ≡ W.WaitingForPingAck b n → map (λ l. l.target) s.letters ≡ b ∷ []

-- the call that took an address out, in a run from one node to another: which one it is, the nodes before and after it, at which of its moments, and by what
pub record Departure (a : Addr) (n : Node) (w : Wait) (cs : List (Call Addr)) (n' : Node) (w' : Wait) : Type 0 where
  pub earlier : List (Call Addr)
  pub call : Call Addr
  pub later : List (Call Addr)
  pub splits : cs ≡ earlier ++ (call ∷ later)
  pub before : Held
  pub said : Said
  pub after : Held
  pub reached : Runs n w earlier before.node before.wait
  pub made : Made before call said after
  pub goes_on : Runs after.node after.wait later n' w'
  pub place : ℕ
  pub moment : Moment Addr
  pub at : At (moments here call (seen before)) place moment
  pub left : Left here a moment
  pub cause : Cause here a call (seen before) place moment.before
  -- it did not come back: neither at a later moment of that call nor at one of a later call
  pub out : Absent here a (drop (suc place) (moments here call (seen before)) ++ trace here later (seen after))

-- ---- the parts of a run
pub record Split (n : Node) (w : Wait) (earlier : List (Call Addr)) (c : Call Addr) (later : List (Call Addr)) (n' : Node) (w' : Wait) : Type 0 where
  pub before : Held
  pub said : Said
  pub after : Held
  pub reached : Runs n w earlier before.node before.wait
  pub made : Made before c said after
  pub goes_on : Runs after.node after.wait later n' w'

module _ (b : Beginning Addr) (tick : ℕ) (first : Node) (first-wait : Wait) (begun-by : Begun b tick first first-wait)
    (cs : List (Call Addr)) (node : Node) (wait : Wait) (runs : Runs first first-wait cs node wait) (a : Addr) where
  abbrev pub own : Addr
  own = own_of b

  -- the replay, and the ledger: of the inputs of creation or of the restart and the calls, and neither looks at what the program was answered
  abbrev pub last : World Addr
  last = run here cs (start here b tick)

  abbrev pub ledger : Tally
  ledger = tally here a (trace here cs (start here b tick)) (begun here a b)

  -- the next call of the run, on whatever rows the host lends
  module _ (gossip events : List Gossip) (c : Call Addr) (s : Said) (h' : Held) (made : Made (record { node = node; wait = wait; gossip = gossip; events = events }) c s h') where
    abbrev pub before : Held
    before = record { node = node; wait = wait; gossip = gossip; events = events }

    -- its moments, by the rules on the replay
    abbrev pub next : List (Moment Addr)
    next = moments here c last
