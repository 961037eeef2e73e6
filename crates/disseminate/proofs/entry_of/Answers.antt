-- `disseminate::entry_of` meets its contract: the size that is written is the gossip's.
-- Assumes nothing.
use mathlib.Core.Path.{ap}
use Prim.Native.Nat.{ℕ}
use Rattle.model.specs.Words as W
use Rattle.types.specs.Views.{to_gossip}
use Rattle.address.specs.Here.{Addr}
use borrow.Author.Rules.{rules}
use Rattle.disseminate.proofs.entry_of.Goals as goal

pub returns : goal.returns
returns c = ap (λ (n : ℕ). record { gossip = to_gossip c.args.g; sends = 0; size = n }) c.size_of.ensures.0
