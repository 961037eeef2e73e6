-- `actions::first_piece` meets its contract: no field is whole, it stops, or it is read.
-- Assumes nothing.
use mathlib.Core.Path.{sym, ◌∙◌}
use Rattle.fields.specs.FieldLaws.{next_lies}
use Rattle.actions.specs.Stepping.{first-none, first_some, first-whole}
use borrow.Author.Rules.{rules}
use Rattle.actions.proofs.first_piece.Goals as goal

pub returns-in_default : goal.returns-in_default
returns-in_default c =
    let a = c.args in
    first-none a.place a.bytes.now (sym c.in_default.is ∙ c.first.ensures)

pub field-requires : goal.field-requires
field-requires c =
    let a = c.args in
    (next_lies a.bytes.now c.in-Found.f (sym c.first.ensures ∙ c.in-Found.is), search rules)

pub returns-in-Stopped : goal.returns-in-Stopped
returns-in-Stopped c =
    let a = c.args in
    first_some a.place a.bytes.now c.in-Found.f _ (sym c.in-Found.is ∙ c.first.ensures) c.field.ensures _ c.in-Stopped.is

pub returns-in-Read : goal.returns-in-Read
returns-in-Read c =
    let a = c.args in
    first-whole a.place a.bytes.now c.in-Found.f _ (sym c.in-Found.is ∙ c.first.ensures) c.field.ensures _ c.in-Read.is
