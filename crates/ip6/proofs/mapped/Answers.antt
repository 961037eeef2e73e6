-- `ip6::mapped` meets its contract.
-- Assumes nothing.
use Rattle.ip6.specs.Lengths.{mapped_yes, mapped_no}
use borrow.Author.Rules.{rules}
use native.Mathlib.Omega.{arith}
use mathlib.Core.Path.{◌≡◌, refl, ap, sym, ◌∙◌}
use Rattle.ip6.proofs.mapped.Goals as goal

pub returns-then-high-eq0 : goal.returns-then-high-eq0
returns-then-high-eq0 c = mapped_yes _ _ (search rules)

pub returns : goal.returns
returns c = mapped_no _ _ (search rules)
