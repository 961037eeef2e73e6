-- `departed::or_else` meets its contract: by what was found first.
-- Assumes nothing.
use mathlib.Core.Path.{◌≡◌, ap, sym}
use borrow.Author.Rules.{rules}
use Rattle.disseminate.specs.declared.Found.{Found}
use Rattle.departed.specs.Views.{either_found}
use Rattle.departed.proofs.or_else.Goals as goal

pub returns-in-At : goal.returns-in-At
returns-in-At c = sym (ap (λ (f : Found). either_found f c.args.second) c.in-At.is)
