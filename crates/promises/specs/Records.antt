-- AT WHICH RECORD A MESSAGE STOPS. For any type of address.
-- Assumes nothing.
use Rattle.std.specs.Prelude.{◌≡◌}
use mathlib.Core.List.{List}
use Prim.Native.Nat.{ℕ}
use Rattle.model.specs.declared.Cause.{Cause}
use Rattle.model.specs.declared.Refusal.{Refusal}
use Rattle.model.specs.Answers.{refused}
use Rattle.model.specs.Words.{Address, Gossip, Action}
use Rattle.model.specs.Node.{Node}
use Rattle.model.specs.Handler as handler

-- A refused message tells record k exactly if that record stops, and the sender exactly if its admission does
module _ {A : Type 0} (address : Address A) (x : Refusal) (action : Action A) (gs : List (Gossip A)) (s : Node A) (ds : List ℕ) where
  -- the refusal of the rules, and the cause that goes with it
  abbrev pub Told : Cause → Type 0
  Told at = (handler.handle address action gs s ds ≡ refused x) × (handler.stops_at address gs s ds ≡ at)
