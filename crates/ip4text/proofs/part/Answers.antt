-- `ip4text::part` meets its contract: each way out by what the number says.
-- Assumes nothing.
use mathlib.Core.Path.{sym, ◌∙◌}
use borrow.Author.Rules.{rules}
use Rattle.ip4text.proofs.Parsing.{part_none, part-short, part_other, part_found}
use Rattle.ip4text.proofs.part.Goals as goal

pub returns-in_default : goal.returns-in_default
returns-in_default c = part_none _ _ (cc)

pub returns-then-bytes-size : goal.returns-then-bytes-size
returns-then-bytes-size c = part-short _ _ _ _ (sym c.decimal.ensures ∙ c.in-Found.is) (search rules) (search rules)

pub returns-then-bytes-size-2 : goal.returns-then-bytes-size-2
returns-then-bytes-size-2 c = part_other _ _ _ _ (sym c.decimal.ensures ∙ c.in-Found.is) (search rules)

pub returns : goal.returns
returns c = part_found _ _ _ _ (cc) (search rules)
