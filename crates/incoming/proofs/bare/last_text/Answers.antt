-- `incoming::bare::last_text` meets its contract: the one field there is, or nothing is told.
-- Assumes nothing.
use mathlib.Core.Path.{sym, ◌∙◌}
use Rattle.fields.specs.FieldLaws.{next_lies}
use Rattle.incoming.specs.Bare.{ends_not, ends-told}
use borrow.Author.Rules.{rules}
use Rattle.incoming.proofs.bare.last_text.Goals as goal

pub returns-in_default : goal.returns-in_default
returns-in_default c = ends_not _

pub returns-then-f-ne2 : goal.returns-then-f-ne2
returns-then-f-ne2 c = ends_not _

pub returns-then-f-bytes : goal.returns-then-f-bytes
returns-then-f-bytes c = ends_not _

pub text_at-requires : goal.text_at-requires
text_at-requires c = next_lies _ c.in-Found.f (sym (sym c.in-Found.is ∙ c.first.ensures))

pub returns : goal.returns
returns c =
    ends-told _ c.in-Found.f _ (sym c.in-Found.is ∙ c.first.ensures) (search rules) (search rules) c.text_at.ensures
