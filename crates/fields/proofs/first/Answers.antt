-- `fields::first` meets its contract: the key, and what follows it.
-- Assumes nothing.
use mathlib.Core.Path.{sym, ◌∙◌}
use borrow.Author.Rules.{rules}
use Rattle.fields.proofs.Fielding.{next_stop, next_key}
use Rattle.fields.proofs.first.Goals as goal

pub returns-in_default : goal.returns-in_default
returns-in_default c =
    next_stop _ (sym c.in_default.is ∙ c.read.ensures)

pub returns : goal.returns
returns c =
    c.content.ensures ∙ next_key _ _ _ (sym c.in-Found.is ∙ c.read.ensures)
