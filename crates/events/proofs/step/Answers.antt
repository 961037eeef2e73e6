-- `events::step` meets its contract: each way out by the field's number.
-- Assumes nothing.
use mathlib.Core.Path.{sym, ap, ◌∙◌}
use Rattle.events.specs.Event.{as_merged}
use borrow.Author.Rules.{rules}
use Rattle.events.specs.Stepping.{from_stop, from_read, subject_stop, subject_read, number_stop, number_read, other_read}
use Rattle.events.proofs.step.Goals as goal

pub returns-in_default-text_at : goal.returns-in_default-text_at
returns-in_default-text_at c =
    let a = c.args in
    ap as_merged (from_stop a.s a.place a.bytes.now a.f (search rules) (sym c.in_default-text_at.is ∙ c.text_at.ensures))

pub returns-in_default-text_at-2 : goal.returns-in_default-text_at-2
returns-in_default-text_at-2 c =
    let a = c.args in
    ap as_merged (subject_stop a.s a.place a.bytes.now a.f (search rules) (sym c.in_default-text_at-2.is ∙ c.text_at-in-2.ensures))

pub returns-then-f-ne0 : goal.returns-then-f-ne0
returns-then-f-ne0 c =
    let a = c.args in
    ap as_merged (number_stop a.s a.place a.bytes.now a.f (search rules) (search rules))

pub returns-in-Read : goal.returns-in-Read
returns-in-Read c =
    let a = c.args in
    ap as_merged (from_read a.s a.place a.bytes.now a.f c.in-Read.text (search rules) (sym c.in-Read.is ∙ c.text_at.ensures))

pub returns-in-Read-text_at : goal.returns-in-Read-text_at
returns-in-Read-text_at c =
    let a = c.args in
    ap as_merged (subject_read a.s a.place a.bytes.now a.f c.in-Read-text_at.text (search rules) (sym c.in-Read-text_at.is ∙ c.text_at-in-2.ensures))

pub returns-else-f-ne0 : goal.returns-else-f-ne0
returns-else-f-ne0 c =
    let a = c.args in
    ap as_merged (number_read a.s a.place a.bytes.now a.f (search rules) (search rules))

pub returns-in_default : goal.returns-in_default
returns-in_default c =
    let a = c.args in
    ap as_merged (other_read a.s a.place a.bytes.now a.f (search rules) (search rules) (search rules))
