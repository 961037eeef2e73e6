-- `address::text_len` meets its contract: by family.
-- Assumes nothing.
use borrow.Author.Rules.{rules}
use Rattle.address.specs.Families.{chars_six, chars_other, chars_of_bounds}
use native.Mathlib.Omega.{arith}
use Rattle.address.proofs.text_len.Goals as goal

pub returns-then-a-eq-V6 : goal.returns-then-a-eq-V6
returns-then-a-eq-V6 c = (chars_six _ _ _ (search rules) (search rules) c.text_len6.ensures.0, search rules, search rules)

pub returns : goal.returns
returns c = (chars_other _ _ _ c.if-a-eq-V6.false (search rules) c.text_len4.ensures.0, search rules, omega (arith, c.text_len4.ensures.2))
