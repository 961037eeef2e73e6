-- "Timers stand in starting order, which isn't checked": the timers of every node that a history made stand in the order in which the history's declarations started them.
-- Assumes nothing.
use Rattle.std.specs.Prelude.{ℕ}
use mathlib.Core.List.{List, [], ◌∷◌, ◌++◌}
use Rattle.model.specs.declared.Reply.{Reply}
use Rattle.model.specs.declared.Reply.TheVariants.{Done, Already, NotDue, Refuted, Gone, Refused, RefusedAt}
use Rattle.model.specs.Words.{Address, Timer, WaitState, SendingPing, WaitingForPingAck, SendingPingReq, WaitingForPingReqAck, Declaring}
use Rattle.history.specs.Histories.{World, Call, Add, Receive, Step, Lends, outcome, world_of}
use Rattle.history.specs.Histories as history

-- one list stands within another, in its order
pub data Within {B : Type 0} : List B → List B → Type 0 where
  end : Within [] []
  skip : {x : B} {l k : List B} → Within l k → Within l (x ∷ k)
  keep : {x : B} {l k : List B} → Within l k → Within (x ∷ l) (x ∷ k)

module _ {A : Type 0} (address : Address A) where
  -- the declaration that a kept step in Declaring starts
  abbrev pub declared : WaitState A → ℕ → List (Timer A)
  declared SendingPing now = []
  declared (WaitingForPingAck a n) now = []
  declared (SendingPingReq a n) now = []
  declared (WaitingForPingReqAck a n) now = []
  declared (Declaring a n) now = record { addr = a; number = n; since = now } ∷ []

  abbrev pub if_kept : Reply → List (Timer A) → List (Timer A)
  if_kept (Done used) ts = ts
  if_kept Already ts = []
  if_kept NotDue ts = []
  if_kept Refuted ts = ts
  if_kept Gone ts = ts
  if_kept (Refused r) ts = []
  if_kept (RefusedAt r at) ts = []

  abbrev pub started_in : Call A → World A → List (Timer A)
  started_in (Add a n ds) w = []
  started_in (Receive action gs ds lent) w = []
  started_in (Step now ds lent) w = if_kept (outcome address (Step now ds lent) w).outcome.reply (declared w.wait.state now)
  started_in (history.Timer now lent) w = []
  started_in (Lends wait) w = []

  -- all that a history started, in order
  abbrev pub started : List (Call A) → World A → List (Timer A)
  started [] w = []
  started (c ∷ h) w = started_in c w ++ started h (world_of address (outcome address c w))
