-- `iptext::six` meets its contract: a case at a time.
-- Assumes nothing.
use mathlib.Core.Path.{ap, sym, ◌∙◌}
use borrow.Author.Rules.{rules}
use Rattle.iptext.specs.declared.Text.TheVariants.{Given}
use Rattle.iptext.specs.Reading.{six}
use Rattle.iptext.proofs.six.Goals as goal

pub returns-in-Malformed : goal.returns-in-Malformed
returns-in-Malformed c = sym (ap six c.in-Malformed.is)

pub returns-in-Given : goal.returns-in-Given
returns-in-Given c = ap Given c.from_parts.ensures ∙ sym (ap six c.in-Given.is)
