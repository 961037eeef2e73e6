-- `incoming::bare::read` meets its contract: one action and its texts, or nothing is told.
-- Assumes nothing.
use mathlib.Core.Path.{sym, ◌∙◌}
use native.Mathlib.Omega.{arith}
use Rattle.fields.specs.FieldLaws.{next_lies}
use Rattle.incoming.specs.Bare.{briefly_not, briefly_told}
use borrow.Author.Rules.{rules}
use Rattle.incoming.proofs.bare.read.Goals as goal

pub returns-then-bytes-gt-LONGEST : goal.returns-then-bytes-gt-LONGEST
returns-then-bytes-gt-LONGEST c = briefly_not _

pub returns-in_default : goal.returns-in_default
returns-in_default c = briefly_not _

pub returns-then-kind-gt3 : goal.returns-then-kind-gt3
returns-then-kind-gt3 c = briefly_not _

pub returns-then-f-ne2 : goal.returns-then-f-ne2
returns-then-f-ne2 c = briefly_not _

pub returns-then-size-bytes : goal.returns-then-size-bytes
returns-then-size-bytes c = briefly_not _

pub slice_bounds-texts-count : goal.slice_bounds-texts-count
slice_bounds-texts-count c =
    let w = next_lies c.args.bytes.now c.in-Found.f (sym (sym c.in-Found.is ∙ c.first.ensures)) in
    omega (arith, w.begins)

pub slice_bounds-texts-start : goal.slice_bounds-texts-start
slice_bounds-texts-start c =
    let w = next_lies c.args.bytes.now c.in-Found.f (sym (sym c.in-Found.is ∙ c.first.ensures)) in
    omega (arith, w.begins)

pub slice_bounds-texts-end : goal.slice_bounds-texts-end
slice_bounds-texts-end c =
    let w = next_lies c.args.bytes.now c.in-Found.f (sym (sym c.in-Found.is ∙ c.first.ensures)) in
    omega (arith, w.ends)

pub returns-in_default-texts : goal.returns-in_default-texts
returns-in_default-texts c = briefly_not _

pub returns : goal.returns
returns c =
    briefly_told c.args.bytes.now c.in-Found.f _ _ _ _ (sym c.in-Found.is ∙ c.first.ensures)
    (search rules) (search rules) (search rules) c.texts.ensures c.in-Both.is c.judged.ensures
