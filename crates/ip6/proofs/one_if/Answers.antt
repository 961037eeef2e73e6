-- `ip6::one_if` meets its contract.
-- Assumes nothing.
use Rattle.ip6.specs.Lengths.{one_yes, one_no}
use borrow.Author.Rules.{rules}
use native.Mathlib.Omega.{arith}
use mathlib.Core.Path.{◌≡◌, refl, ap, sym, ◌∙◌}
use Rattle.ip6.proofs.one_if.Goals as goal

pub returns-then-a-b : goal.returns-then-a-b
returns-then-a-b c = (one_yes _ _ (search rules), search rules)

pub returns : goal.returns
returns c = (one_no _ _ (search rules), search rules)
