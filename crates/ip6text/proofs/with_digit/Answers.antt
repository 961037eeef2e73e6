-- `ip6text::with_digit` meets its contract.
-- Assumes nothing.
use Rattle.ip6text.specs.Parsing.{with_digit, number}
use borrow.Author.Rules.{rules}
use native.Mathlib.Omega.{arith}
use mathlib.Core.Path.{◌≡◌, refl, ap, sym, ◌∙◌}
use Rattle.ip6text.proofs.with_digit.Goals as goal

pub returns : goal.returns
unfolding with_digit number
returns c = refl
