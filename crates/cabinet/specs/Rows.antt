-- The row of running timers over a call: a declaration puts one behind it, an ended timer's place is freed, and every other call leaves it as it is.
-- Assumes nothing.
use Rattle.std.specs.Prelude.{◌≡◌, ℕ}
use mathlib.Core.List.{[], ◌∷◌, ◌++◌}
use Rattle.std.proofs.Math.Option.{none, some}
use Rattle.model.specs.Rows.{remove_at}
use Rattle.model.specs.Words.{Address, Timer as Running, SendingPing, Declaring}
use Rattle.model.specs.Node.{loaded}
use Rattle.model.specs.Calls as calls
use Rattle.history.specs.Histories.{World, Call}
use Rattle.cabinet.specs.Cabinets.{freed_by}
use Rattle.cabinet.specs.Waiting.{Went}

module _ {A : Type 0} (address : Address A) where
  -- what became of the row
  pub data Row (c : Call A) (w : World A) (o : calls.StepOutcome A) : Type 0 where
    same : freed_by address c w ≡ none → (loaded o.outcome.node).timers ≡ (loaded w.node).timers → Row c w o
    starts : (t : Running A) → freed_by address c w ≡ none → Went address c w o (Declaring t.addr t.number) SendingPing t.since
        → (loaded o.outcome.node).timers ≡ (loaded w.node).timers ++ (t ∷ []) → Row c w o
    frees : (i : ℕ) → freed_by address c w ≡ some i → (loaded o.outcome.node).timers ≡ remove_at (loaded w.node).timers i → Row c w o
