-- `address::slot` meets its contract: the rule's own number, below 1024.
-- Assumes nothing.
use mathlib.Core.Path.{◌≡◌, ap}
use Prim.Native.Nat.{ℕ, ◌+◌, ◌*◌, ◌/◌, ◌%◌}
use native.Mathlib.Omega.{arith}
use borrow.Author.Rules.{rules}
use Rattle.address.specs.Families.{slot_of}
use Rattle.address.proofs.slot.Goals as goal

pub returns : goal.returns
unfolding slot_of
returns c = (cc, omega arith)
