-- `incoming::bare::texts` meets its contract: one text or two, or nothing is told.
-- Assumes nothing.
use mathlib.Core.Path.{sym, ◌∙◌}
use native.Mathlib.Omega.{arith}
use Rattle.varint.specs.Parts.{rest_of}
use Rattle.fields.specs.FieldLaws.{next_lies}
use Rattle.incoming.specs.Bare.{pairs_not, pairs_one, pairs_two}
use borrow.Author.Rules.{rules}
use Rattle.incoming.proofs.bare.texts.Goals as goal

pub returns-in_default : goal.returns-in_default
returns-in_default c = pairs_not _

pub returns-then-f-ne1 : goal.returns-then-f-ne1
returns-then-f-ne1 c = pairs_not _

pub text_at-requires : goal.text_at-requires
text_at-requires c = next_lies _ c.in-Found.f (sym (sym c.in-Found.is ∙ c.first.ensures))

pub returns-in_default-text_at : goal.returns-in_default-text_at
returns-in_default-text_at c = pairs_not _

pub returns-then-size-bytes : goal.returns-then-size-bytes
returns-then-size-bytes c =
    pairs_one _ c.in-Found.f c.in-Read.from (sym c.in-Found.is ∙ c.first.ensures) (search rules)
    (sym c.in-Read.is ∙ c.text_at.ensures) (search rules)

pub slice_bounds-last_text-count : goal.slice_bounds-last_text-count
slice_bounds-last_text-count c =
    let b = c.args.bytes.now in
    let w = next_lies b c.in-Found.f (sym (sym c.in-Found.is ∙ c.first.ensures)) in
    omega (arith, w.ends)

pub slice_bounds-last_text-start : goal.slice_bounds-last_text-start
slice_bounds-last_text-start c =
    let b = c.args.bytes.now in
    let w = next_lies b c.in-Found.f (sym (sym c.in-Found.is ∙ c.first.ensures)) in
    omega (arith, w.ends)

pub returns-in_default-last_text : goal.returns-in_default-last_text
returns-in_default-last_text c = pairs_not _

pub returns : goal.returns
returns c =
    let b = c.args.bytes.now in
    pairs_two b c.in-Found.f c.in-Read.from (sym c.in-Found.is ∙ c.first.ensures) (search rules)
    (sym c.in-Read.is ∙ c.text_at.ensures) _ _ c.in-Read-last_text.other (rest_of b _) c.last_text.ensures c.in-Read-last_text.is
