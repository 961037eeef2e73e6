-- `rules::death_plus_one` meets its contract: D decides.
-- Assumes nothing.
use mathlib.Core.Path.{ap, sym, ◌∙◌}
use Rattle.model.specs.Node.{death_plus_one}
use borrow.Author.Rules.{rules}
use Rattle.disseminate.specs.declared.Found.{Found}
use Rattle.disseminate.specs.Views.{from_found}
use Rattle.rules.specs.Views.{to_found}
use Rattle.rules.proofs.death_plus_one.Goals as goal

pub returns-in-At : goal.returns-in-At
returns-in-At c = c.plus_one.ensures ∙ sym (ap (λ (x : Found). from_found (death_plus_one (to_found x))) c.in-At.is)
