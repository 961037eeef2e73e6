-- NO FORGED DEATH. In a cabinet of any number of controllers, from nodes that creation or a restart gave and fresh wait records, where each Deceased record that a message
-- brings has stood, by address and number, in some message that some controller sent, and everything else is free: whoever holds, sends or reports that x died at number n,
-- and whoever takes x off its list, does so after a timer call of some controller that reported exactly that death with a removal. And down to the probe: before it that
-- controller, in one round of its wait record, pinged x, which it listed at n, found it silent, asked others, found it silent still, and declared it; then suspect_timeout went by.
-- Assumes nothing.
use Rattle.std.specs.Prelude.{List, ℕ}
use Rattle.model.specs.Words.{Address}
use Rattle.history.specs.Histories.{World, Call, Add, Receive, Step, Timer, Lends}
use Rattle.cabinet.specs.Each.{Among}
use Rattle.cabinet.specs.Cabinets.{deaths, Turn, Names, Removal, TimedOut}

module _ {A : Type 0} where
  -- a message call brought this death
  abbrev pub Carries : A → ℕ → Call A → Type 0
  Carries x n (Add a m ds) = ⊥
  Carries x n (Receive action gs ds lent) = Among (λ g. Names deaths x n g.event) gs
  Carries x n (Step tick ds lent) = ⊥
  Carries x n (Timer tick lent) = ⊥
  Carries x n (Lends wait) = ⊥

module _ {A : Type 0} (address : Address A) (begins : ℕ → World A) where
  -- why a left the list at turn t, after the history h: its controller's own timer for it ended, or its message brought a death that had timed out before it
  pub data Struck (a : A) (t : Turn A) (h : List (Turn A)) : Type 0 where
    ended : (n : ℕ) → Removal address begins a n t h → Struck a t h
    told : (n : ℕ) → Carries a n t.call → TimedOut address begins h a n → Struck a t h
