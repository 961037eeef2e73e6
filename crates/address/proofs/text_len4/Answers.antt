-- `address::text_len4` meets its contract: each of the five numbers has the digits that the rule counts.
-- Assumes nothing.
use mathlib.Core.Path.{◌≡◌, ◌∙◌, ap}
use Prim.Native.Nat.{ℕ, ◌≤◌}
use native.Mathlib.Omega.{arith}
use borrow.Author.Rules.{rules}
use Rattle.address.specs.IPv4.{text_length}
use Rattle.address.specs.TextLaws.{text-length}
use Rattle.address.proofs.text_len4.Goals as goal

pub returns : goal.returns
unfolding text_length
returns c =
    let t = text-length c.args.a in
    (search rules, omega (arith, t), omega (arith, t))
