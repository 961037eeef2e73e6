-- `ip4text::write_part` meets its contract: the mark, and behind it the number.
-- Assumes nothing.
use mathlib.Core.Path.{◌∙◌}
use native.Mathlib.Omega.{arith}
use lib.ListN.{length-set}
use borrow.Author.Rules.{rules}
use Rattle.ip4text.proofs.Laying.{mark_fits, part_room, part-laid}
use Rattle.ip4text.proofs.write_part.Goals as goal

pub bounds-out-at : goal.bounds-out-at
bounds-out-at c = mark_fits c.requires.1

pub overflow_add-at : goal.overflow_add-at
overflow_add-at c = omega (arith, mark_fits c.requires.1)

pub write_decimal-requires : goal.write_decimal-requires
write_decimal-requires c = (search rules, part_room c.requires.1)

pub shape_of-out : goal.shape_of-out
shape_of-out c = c.write_decimal.ensures.long ∙ simp length-set

pub returns : goal.returns
returns c = part-laid c.write_decimal.ensures
