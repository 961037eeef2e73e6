-- `ip6::dotted_len` meets its contract.
-- Assumes nothing.
use Rattle.ip6.specs.Lengths.{dotted-long}
use borrow.Author.Rules.{rules}
use native.Mathlib.Omega.{arith}
use mathlib.Core.Path.{◌≡◌, refl, ap, sym, ◌∙◌}
use Rattle.ip6.proofs.dotted_len.Goals as goal

pub returns : goal.returns
returns c =
    let e = dotted-long c.args.low in
    (omega arith, omega arith, omega arith)
