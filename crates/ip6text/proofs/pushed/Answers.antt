-- `ip6text::pushed` meets its contract.
-- Assumes nothing.
use Rattle.ip6text.specs.Parsing.{pushed-full, pushed-on}
use borrow.Author.Rules.{rules}
use native.Mathlib.Omega.{arith}
use mathlib.Core.Path.{◌≡◌, refl, ap, sym, ◌∙◌}
use Rattle.ip6text.proofs.pushed.Goals as goal

pub returns-then-at-ge8 : goal.returns-then-at-ge8
returns-then-at-ge8 c = pushed-full _ (search rules)

pub returns : goal.returns
returns c = pushed-on _ (search rules)
