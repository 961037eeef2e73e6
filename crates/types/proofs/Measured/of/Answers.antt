-- `types::Measured::of` meets its contract: the length is that of the address's text.
-- Assumes nothing.
use mathlib.Core.Path.{ap}
use Prim.Native.Nat.{ℕ}
use borrow.Author.Rules.{rules}
use Rattle.types.proofs.Measured.of.Goals as goal

pub returns : goal.returns
returns c = ap (λ (n : ℕ). record { addr = c.args.addr; chars = n }) c.text_len.ensures.0
