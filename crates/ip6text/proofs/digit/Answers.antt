-- `ip6text::digit` meets its contract.
-- Assumes nothing.
use Rattle.ip6text.specs.Writing.{digit_low, digit_high}
use borrow.Author.Rules.{rules}
use native.Mathlib.Omega.{arith}
use mathlib.Core.Path.{◌≡◌, refl, ap, sym, ◌∙◌}
use Rattle.ip6text.proofs.digit.Goals as goal

pub returns-then-d-lt10 : goal.returns-then-d-lt10
returns-then-d-lt10 c = c.low.ensures ∙ digit_low _ (search rules)

pub returns : goal.returns
returns c = c.low-2.ensures ∙ digit_high _ (search rules)
