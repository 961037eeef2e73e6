-- `rules::set` meets its contract: the list updates.
-- Assumes nothing.
use mathlib.Core.Path.{ap, ◌∙◌}
use borrow.Author.Rules.{rules}
use Rattle.rules.specs.Views.{stayed}
use Rattle.rules.proofs.set.Goals as goal

pub returns : goal.returns
returns c = c.kept.ensures ∙ ap stayed c.update_member.ensures
