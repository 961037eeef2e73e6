-- `ip6text::with_dot` meets its contract.
-- Assumes nothing.
use Rattle.ip6text.specs.Parsing.{with_dot, fresh, number}
use borrow.Author.Rules.{rules}
use native.Mathlib.Omega.{arith}
use mathlib.Core.Path.{◌≡◌, refl, ap, sym, ◌∙◌}
use Rattle.ip6text.proofs.with_dot.Goals as goal

pub returns : goal.returns
unfolding with_dot fresh number
returns c = c.fresh.ensures
