-- `ip6::longer` meets its contract.
-- Assumes nothing.
use Rattle.ip6.specs.Scanning.{longer_zero, longer_other}
use borrow.Author.Rules.{rules}
use native.Mathlib.Omega.{arith}
use mathlib.Core.Path.{◌≡◌, refl, ap, sym, ◌∙◌}
use Rattle.ip6.proofs.longer.Goals as goal

pub returns-then-g-eq0 : goal.returns-then-g-eq0
returns-then-g-eq0 c = (longer_zero _ _ (search rules), search rules)

pub returns : goal.returns
returns c = (longer_other _ _ (search rules), search rules)
