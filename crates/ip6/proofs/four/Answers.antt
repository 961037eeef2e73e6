-- `ip6::four` meets its contract.
-- Assumes nothing.
use borrow.Author.Rules.{rules}
use native.Mathlib.Omega.{arith}
use mathlib.Core.Path.{◌≡◌, refl, ap, sym, ◌∙◌}
use Rattle.ip6.proofs.four.Goals as goal

pub returns : goal.returns
returns c = (cc, search rules, search rules, search rules, search rules)
