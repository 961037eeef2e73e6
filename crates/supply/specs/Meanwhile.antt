-- Whatever comes in between: in no history does the detector ping more than so often while the alive heap stays full. Messages, adds, timers, steps of every state, lent wait records
-- and refused calls may stand between the pings; collecting is off.
-- Assumes nothing.
use Rattle.std.specs.Prelude.{◌≤◌}
use mathlib.Core.List.{List, [], ◌∷◌}
use native.Mathlib.Omega.{arith}
use Rattle.model.specs.Words.{Address}
use Rattle.history.specs.Histories.{World, Call, outcome, world_of}

module _ {A : Type 0} (address : Address A) where
  -- the alive heap is full before each call of a stretch, and after the last
  abbrev pub FullAlong : List (Call A) → World A → Type 0
  FullAlong [] w = 128 ≤ w.node.alive.used
  FullAlong (c ∷ h) w = (128 ≤ w.node.alive.used) × FullAlong h (world_of address (outcome address c w))
