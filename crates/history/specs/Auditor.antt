-- The auditor's two questions, in his words: "for any controller that has left a list, which message or time-out took it out? and can an
-- older message do it?", or an older time-out?
-- Assumes nothing.
use Rattle.std.specs.Prelude.{◌≡◌, false, List, [], ◌∷◌, ◌++◌, ℕ, suc, ◌≤◌, drop}
use Rattle.std.proofs.Common.{arith}
use Rattle.std.proofs.Math.Option.{some}
use Rattle.model.specs.Bounds.{Room}
use Rattle.model.specs.Words.{Address, is_alive, Deceased, Gossip, Action, Timer}
use Rattle.model.specs.Node.{Node, loaded, lists, numbered, state_of}
use Rattle.model.specs.Detector.{first_over}
use Rattle.history.specs.Moments.{Moment}
use Rattle.history.specs.Histories as calls
use Rattle.history.specs.Histories.{World, Call, Receive, outcome, world_of, run, moments, trace}
use Rattle.history.specs.Tells.{At}
use Rattle.history.specs.Next.{Left}

module _ {A : Type 0} (address : Address A) (a : A) where
  -- What took the address out at place i of a call's moments, on the world w, where s is the node before that moment. A message did: its record i is a
  -- Deceased gossip for the address, whose number is no lower than the held one. Or a timer did: the first that was over, and it was the address's; the
  -- address was not Alive, and the timer's number is no lower than the held one
  pub data Cause (c : Call A) (w : World A) (i : ℕ) (s : Node A) : Type 0 where
    notice : (action : Action A) (gs : List (Gossip A)) (ds : List ℕ) (lent : Room) (from : A) (n : ℕ)
        → c ≡ Receive action gs ds lent → At gs i (record { event = Deceased from a n }) → numbered address a s ≤ n → Cause c w i s
    time_out : (now : ℕ) (lent : Room) (j : ℕ) (t : Timer A)
        → c ≡ calls.Timer now lent → first_over address w.node.settings.suspect_timeout now (loaded w.node).timers ≡ some j → At (loaded w.node).timers j t → t.addr ≡ a
        → is_alive (state_of address a s) ≡ false → numbered address a s ≤ t.number → Cause c w i s

  -- the address is listed after none of these moments
  abbrev pub Absent : List (Moment A) → Type 0
  Absent ms = (i : ℕ) (m : Moment A) → At ms i m → lists address a m.after ≡ false

  -- the call of a history that took the address out: which one it is, at which of its moments, and by what
  pub record TakenOut (h : List (Call A)) (w : World A) : Type 0 where
    pub earlier : List (Call A)
    pub call : Call A
    pub later : List (Call A)
    pub splits : h ≡ earlier ++ (call ∷ later)
    pub place : ℕ
    pub moment : Moment A
    pub at : At (moments address call (run address earlier w)) place moment
    pub left : Left address a moment
    pub cause : Cause call (run address earlier w) place moment.before
    -- it did not come back: neither at a later moment of that call nor at one of a later call
    pub out : Absent (drop (suc place) (moments address call (run address earlier w)) ++ trace address later (world_of address (outcome address call (run address earlier w))))
