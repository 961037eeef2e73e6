-- WHAT A DEATH NOTICE MAKES THE NODE REPORT OF ITS ADDRESS is at no greater number than its own: of every moment of a message.
-- Assumes nothing.
use Rattle.std.specs.Prelude.{ℕ, ◌≤◌}
use Rattle.model.specs.Answers.{Answer}
use Rattle.model.specs.Node as M
use Rattle.laws.specs.After.{After}
use Rattle.address.specs.Here.{Addr, here}
use Rattle.history.specs.Ledger.{reported}

module _ (a : Addr) where
  abbrev pub Low : ℕ → Answer (M.Out Addr) → Type 0
  Low n x = After (λ (o : M.Out Addr). reported here a o.said ≤ n) x
