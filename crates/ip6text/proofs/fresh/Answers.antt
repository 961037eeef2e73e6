-- `ip6text::fresh` meets its contract.
-- Assumes nothing.
use Rattle.ip6text.specs.Parsing.{fresh, number}
use borrow.Author.Rules.{rules}
use native.Mathlib.Omega.{arith}
use mathlib.Core.Path.{◌≡◌, refl, ap, sym, ◌∙◌}
use Rattle.ip6text.proofs.fresh.Goals as goal

pub returns : goal.returns
unfolding fresh number
returns c = refl
