-- `iptext::four` meets its contract: a case at a time.
-- Assumes nothing.
use mathlib.Core.Path.{ap, sym, ◌∙◌}
use borrow.Author.Rules.{rules}
use Rattle.iptext.specs.declared.Text.TheVariants.{Given}
use Rattle.iptext.specs.Reading.{four}
use Rattle.iptext.proofs.four.Goals as goal

pub returns-in-Empty : goal.returns-in-Empty
returns-in-Empty c = sym (ap four c.in-Empty.is)

pub returns-in-Malformed : goal.returns-in-Malformed
returns-in-Malformed c = sym (ap four c.in-Malformed.is)

pub returns-in-Given : goal.returns-in-Given
returns-in-Given c = ap Given c.from_number.ensures ∙ sym (ap four c.in-Given.is)
