-- The three counts after each change of a list: one more, one less, or one less and one more; and that a count is no greater than the list is long.
-- Assumes nothing.
use Rattle.std.specs.Prelude.{Bool, [], ℕ, ◌≤◌}
use Rattle.std.proofs.Common.{arith}
use Rattle.model.specs.declared.State.{State}
use Rattle.model.specs.declared.Lamps.{Lamps}
use Rattle.model.specs.Rows.{pick}
use Rattle.model.specs.Lamps.{dark, lamp_of}

-- each count is no greater than a number
pub record Few (most : ℕ) (l : Lamps) : Type 0 where
  pub alive : l.alive ≤ most
  pub pending : l.pending ≤ most
  pub suspected : l.suspected ≤ most

-- each count is no less than another's
pub record Covers (l k : Lamps) : Type 0 where
  pub alive : k.alive ≤ l.alive
  pub pending : k.pending ≤ l.pending
  pub suspected : k.suspected ≤ l.suspected

module _ {A : Type 0} (same : A → A → Bool) where
  -- the lamp of one peer: none for the own address
  unfoldable pub light_of : A → A → State → Lamps
  light_of own a s = pick (same own a) dark (lamp_of s)
