-- The call that comes next: what is known of its moments, and what follows for one address.
-- Assumes nothing.
use Rattle.std.specs.Prelude.{◌≡◌, true, false, List, [], ℕ}
use Rattle.std.proofs.Common.{arith}
use Rattle.model.specs.Words.{Address}
use Rattle.model.specs.Node.{loaded, lists}
use Rattle.history.specs.Moments.{Moment}
use Rattle.history.specs.Ledger.{Tally}
use Rattle.history.specs.Walk.{Along}
use Rattle.history.specs.Histories.{World, Call, outcome, moments}
use Rattle.history.specs.Tells.{At, PingGoes, Tells, deeds_of}

module _ {A : Type 0} (address : Address A) (a : A) where
  -- what is known of a call's moments: their ties and what demand 3 says of each
  pub record Known (own : A) (t : Tally) (c : Call A) (w : World A) : Type 0 where
    pub tells : Tells (loaded w.node) (moments address c w) (loaded (outcome address c w).outcome.node) (outcome address c w).outcome.events (deeds_of address c w)
    pub fine : Along address a own (moments address c w) t
    pub pings : PingGoes address c w

  -- at this moment the address left the list
  pub record Left (m : Moment A) : Type 0 where
    pub was : lists address a m.before ≡ true
    pub gone : lists address a m.after ≡ false

  -- the address is listed after each moment
  abbrev pub StaysListed : List (Moment A) → Type 0
  StaysListed ms = (i : ℕ) (m : Moment A) → At ms i m → lists address a m.after ≡ true
