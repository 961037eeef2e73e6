-- "A DEATH NOTICE THAT REMOVES A PEER CARRIES A NUMBER NO LOWER THAN ANY REPORTED FOR IT SINCE IT ENTERED", without the ledger: an event about the peer at k, no entry of it after that, and then a notice
-- at n that takes it out: k ≤ n. The notice's own report is one of them. Of every run of calls from a created or a restored node, and its moments one after the other.
-- Assumes nothing.
use Rattle.std.specs.Prelude.{◌≡◌, true, false, List, ℕ, ◌<◌}
use Rattle.model.specs.Words as W
use Rattle.model.specs.Node as M
use Rattle.address.specs.Here.{Addr, here}
use Rattle.history.specs.Moments.{Moment, Told}
use Rattle.history.specs.Beginnings.{Beginning}
use Rattle.history.specs.Histories.{Call, moments, trace, start}
use Rattle.history.specs.Tells.{At}
use Rattle.history.specs.Next.{Left}
use Rattle.node.specs.declared.Node.{Node}
use Rattle.wait.specs.declared.Wait.{Wait}
use Rattle.promises.specs.Begun.{Begun}
use Rattle.promises.specs.Runs.{Runs, world}

-- an event about an address at a number, whichever kind it is
pub data Says (a : Addr) (k : ℕ) : W.Event Addr → Type 0 where
  joined : (from : Addr) → Says a k (W.Joined from a k)
  recovered : (from : Addr) → Says a k (W.Recovered from a k)
  suspected : (from : Addr) → Says a k (W.Suspected from a k)
  deceased : (from : Addr) → Says a k (W.Deceased from a k)

module _ (a : Addr) where
  -- at this moment the address came onto the list
  pub record Entered (m : Moment Addr) : Type 0 where
    pub was : M.lists here a m.before ≡ false
    pub now : M.lists here a m.after ≡ true

  -- this moment reported an event about the address at the number
  pub record Reports (k : ℕ) (m : Moment Addr) : Type 0 where
    pub place : ℕ
    pub event : W.Gossip Addr
    pub there : At m.said place event
    pub says : Says a k event.event

  -- no moment between two places is an entry
  abbrev pub NoEntry : List (Moment Addr) → ℕ → ℕ → Type 0
  NoEntry ms i j = (l : ℕ) (m : Moment Addr) → i < l → l < j → At ms l m → Entered m → ⊥

  -- at this moment a death notice at the number took the address out
  pub record TakenOutBy (n : ℕ) (m : Moment Addr) : Type 0 where
    pub from : Addr
    pub notice : m.deed ≡ Told (W.Deceased from a n)
    pub left : Left here a m

module _ (b : Beginning Addr) (tick : ℕ) (first : Node) (first-wait : Wait) (begun-by : Begun b tick first first-wait)
    (cs : List (Call Addr)) (node : Node) (wait : Wait) (runs : Runs first first-wait cs node wait) (a : Addr) (c : Call Addr) where
  -- the moments of the run so far, and those of the next call on the node and the wait record that it handed back
  abbrev pub so_far : List (Moment Addr)
  so_far = trace here cs (start here b tick)

  abbrev pub next : List (Moment Addr)
  next = moments here c (world node wait)
