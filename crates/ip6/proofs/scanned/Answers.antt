-- `ip6::scanned` meets its contract.
-- Assumes nothing.
use Rattle.ip6.specs.Scanning.{scan-eight}
use borrow.Author.Rules.{rules}
use native.Mathlib.Omega.{arith}
use mathlib.Core.Path.{◌≡◌, refl, ap, sym, ◌∙◌}
use Rattle.ip6.proofs.scanned.Goals as goal

pub returns : goal.returns
returns c = (scan-eight _ _ _ _ c.four-back.ensures.0 c.four.ensures.0, search rules, search rules, search rules, search rules)
