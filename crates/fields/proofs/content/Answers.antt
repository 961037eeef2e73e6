-- `fields::content` meets its contract: by the wire type.
-- Assumes nothing.
use mathlib.Core.Path.{◌∙◌}
use borrow.Author.Rules.{rules}
use Rattle.fields.proofs.Fielding.{key_over, key_none, key_number, key_eight, key_count, key_four, key_other}
use Rattle.fields.proofs.content.Goals as goal

pub returns-then-key-gt4294967295 : goal.returns-then-key-gt4294967295
returns-then-key-gt4294967295 c =
    key_over _ _ _ (search rules)

pub returns-then-field-eq0 : goal.returns-then-field-eq0
returns-then-field-eq0 c =
    key_none _ _ _ (search rules) (search rules)

pub returns-in-0 : goal.returns-in-0
returns-in-0 c =
    c.number.ensures ∙ key_number _ _ _ (search rules) (search rules) (search rules)

pub returns-in-1 : goal.returns-in-1
returns-in-1 c =
    c.fixed.ensures ∙ key_eight _ _ _ (search rules) (search rules) (search rules)

pub returns-in-2 : goal.returns-in-2
returns-in-2 c =
    c.delimited.ensures ∙ key_count _ _ _ (search rules) (search rules) (search rules)

pub returns-in-5 : goal.returns-in-5
returns-in-5 c =
    c.fixed-in-5.ensures ∙ key_four _ _ _ (search rules) (search rules) (search rules)

pub returns-in_default : goal.returns-in_default
returns-in_default c =
    key_other _ _ _ (search rules) (search rules) (search rules) (search rules) (search rules) (search rules)
