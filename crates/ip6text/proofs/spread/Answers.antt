-- `ip6text::spread` meets its contract.
-- Assumes nothing.
use Rattle.ip6text.specs.Parsing.{spread-before, spread-full, spread_gap, spread-behind}
use borrow.Author.Rules.{rules}
use native.Mathlib.Omega.{arith}
use mathlib.Core.Path.{◌≡◌, refl, ap, sym, ◌∙◌}
use Rattle.ip6text.proofs.spread.Goals as goal

pub returns-then-i-gap : goal.returns-then-i-gap
returns-then-i-gap c = (spread-before _ _ _ _ (search rules), search rules)

pub returns-then-count-ge8 : goal.returns-then-count-ge8
returns-then-count-ge8 c = (spread-full _ _ _ _ (search rules) (search rules), search rules)

pub returns-then-i-gap-2 : goal.returns-then-i-gap-2
returns-then-i-gap-2 c = (spread_gap _ _ _ _ (search rules) (search rules) (search rules), search rules)

pub returns : goal.returns
returns c = (spread-behind _ _ _ _ (search rules) (search rules) (search rules), search rules)
