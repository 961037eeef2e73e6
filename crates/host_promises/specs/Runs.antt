-- A run of a C program's calls is a run of the calls of `swim`: whatever holds of every run of a program holds of a C host. All that is known of a call is its contract.
-- Assumes nothing.
use Rattle.std.specs.Prelude.{List, [], ◌∷◌, map, ℕ, length}
use Rattle.address.specs.Here.{Addr}
use Rattle.history.specs.Histories.{Call, Add, Receive, Step, Timer, Lends}
use Rattle.types.specs.declared.Gossip.{Gossip}
use Rattle.types.specs.Views.{to_gossip, to_action}
use Rattle.wait.specs.Views.{to_wait}
use Rattle.swim.specs.Promises.{room}
use Rattle.cwords.specs.Reading.{Rows, address_in, gossip_of, action_of, wait_of}
use Rattle.host.specs.Promised as host
use Rattle.host.specs.Promised.{added_at, received_at, stepped_at, ended_in}

-- the rows that a C program lends, as the rules see them
abbrev pub lent : List (List ℕ) → List Gossip
lent = map gossip_of

-- one call of a C program: the words before it, and after it
pub data Calls (before : Rows) (wait : List ℕ) : Call Addr → Rows → List ℕ → Type 0 where
  adds_peer : (peer : List ℕ) (number : ℕ) (draws : List ℕ) (code : ℕ) (after : Rows) (counts : List ℕ) → host.Adds (added_at before peer number draws) before code after counts
      → Calls before wait (Add (address_in peer) number draws) after wait
  hears : (action : List ℕ) (records : List (List ℕ)) (draws : List ℕ) (gossip events letters : List (List ℕ)) (code : ℕ) (after : Rows) (gossip' events' letters' : List (List ℕ)) (counts : List ℕ)
      → host.Receives (received_at before action records draws (length gossip) (length events)) before gossip events letters code after gossip' events' letters' counts
      → Calls before wait (Receive (to_action (action_of action)) (map to_gossip (map gossip_of records)) draws (room (lent gossip) (lent events))) after wait
  moves : (tick : ℕ) (draws : List ℕ) (gossip events letters : List (List ℕ)) (code : ℕ) (after : Rows) (wait' : List ℕ) (gossip' events' letters' : List (List ℕ)) (counts : List ℕ)
      → host.Steps (stepped_at before wait tick draws (length gossip) (length events)) before wait gossip events letters code after wait' gossip' events' letters' counts
      → Calls before wait (Step tick draws (room (lent gossip) (lent events))) after wait'
  ends-timer : (tick : ℕ) (events : List (List ℕ)) (code : ℕ) (after : Rows) (events' : List (List ℕ)) (counts : List ℕ)
      → host.EndsTimer (ended_in before tick (length events)) before events code after events' counts
      → Calls before wait (Timer tick (record { gossip = 0; events = length (lent events) })) after wait
  lends_wait : (wait' : List ℕ) → Calls before wait (Lends (to_wait (wait_of wait'))) before wait'

-- and one after the other: each takes the words that the last one left
pub data Goes : Rows → List ℕ → List (Call Addr) → Rows → List ℕ → Type 0 where
  stops : (r : Rows) (w : List ℕ) → Goes r w [] r w
  goes_on : {r' : Rows} {w' : List ℕ} {cs : List (Call Addr)} (before : Rows) (wait : List ℕ) (c : Call Addr) (after : Rows) (wait' : List ℕ) → Calls before wait c after wait'
      → Goes after wait' cs r' w' → Goes before wait (c ∷ cs) r' w'
