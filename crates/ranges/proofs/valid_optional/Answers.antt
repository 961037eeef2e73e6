-- `ranges::valid_optional` meets its contract: absent, or an address.
-- Assumes nothing.
use mathlib.Core.Path.{ap, sym, ◌∙◌}
use borrow.Author.Rules.{rules}
use Rattle.address.specs.Here.{here}
use Rattle.model.specs.Calls.{valid_option}
use Rattle.types.specs.declared.Optional.{Optional}
use Rattle.types.specs.Views.{to_optional}
use Rattle.ranges.proofs.valid_optional.Goals as goal

pub returns-in-Absent : goal.returns-in-Absent
returns-in-Absent c = sym (ap (λ (o : Optional). valid_option here (to_optional o)) c.in-Absent.is)

pub returns-in-Given : goal.returns-in-Given
returns-in-Given c = c.in_range.ensures ∙ sym (ap (λ (o : Optional). valid_option here (to_optional o)) c.in-Given.is)
