-- `outgoing::send` meets its contract: a way out for each test, and the writing.
-- Assumes nothing.
use mathlib.Core.Path.{sym, ◌∙◌}
use borrow.Author.Rules.{rules}
use borrow.Author.Tests.{not-true, not-false}
use Rattle.outgoing.specs.Sending.{sends-many, sends_bare, sends_stray_action, sends_stray_record, sends-written}
use Rattle.outgoing.proofs.send.Goals as goal

pub returns-then-n-gt64 : goal.returns-then-n-gt64
returns-then-n-gt64 c = sends-many _ _ _ _ c.if-n-gt64.true

pub returns-then-n-eq0 : goal.returns-then-n-eq0
returns-then-n-eq0 c = sends_bare _ _ _ _ _ _ c.if-n-eq0.true c.send_bare.ensures

pub returns-then-not-valid_action : goal.returns-then-not-valid_action
returns-then-not-valid_action c =
    let r = c.valid_action in
    sends_stray_action _ _ _ _ c.if-n-gt64.false (sym r.ensures ∙ c.if-not-valid_action.true)

pub returns-then-not-valid_rows : goal.returns-then-not-valid_rows
returns-then-not-valid_rows c =
    let r = c.valid_rows in
    sends_stray_record _ _ _ _ c.if-n-gt64.false (sym c.valid_action.ensures ∙ c.if-not-valid_action.false) (sym r.ensures ∙ c.if-not-valid_rows.true)

pub returns : goal.returns
returns c =
    let r = c.valid_rows in
    sends-written _ _ _ _ c.if-n-gt64.false (sym c.valid_action.ensures ∙ c.if-not-valid_action.false) (sym r.ensures ∙ c.if-not-valid_rows.false) _ _ c.write.ensures
