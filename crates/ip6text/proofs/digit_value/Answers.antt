-- `ip6text::digit_value` meets its contract.
-- Assumes nothing.
use Rattle.ip6text.specs.Parsing.{value_low, value_high}
use borrow.Author.Rules.{rules}
use native.Mathlib.Omega.{arith}
use mathlib.Core.Path.{◌≡◌, refl, ap, sym, ◌∙◌}
use Rattle.ip6text.proofs.digit_value.Goals as goal

pub returns-then-b-lt97 : goal.returns-then-b-lt97
returns-then-b-lt97 c = (value_low _ _ (search rules) (search rules), search rules)

pub returns : goal.returns
returns c = (value_high _ _ (search rules) (search rules), search rules)
