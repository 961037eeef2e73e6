-- `ip6::step` meets its contract.
-- Assumes nothing.
use Rattle.ip6.specs.Scanning.{step-here, step-on}
use borrow.Author.Rules.{rules}
use native.Mathlib.Omega.{arith}
use mathlib.Core.Path.{◌≡◌, refl, ap, sym, ◌∙◌}
use Rattle.ip6.proofs.step.Goals as goal

pub returns-then-s-run : goal.returns-then-s-run
returns-then-s-run c = (step-here _ _ _ _ (search rules) (search rules) (search rules), search rules, search rules, search rules, search rules)

pub returns : goal.returns
returns c = (step-on _ _ _ _ (search rules) (search rules) (search rules), search rules, search rules, search rules, search rules)
