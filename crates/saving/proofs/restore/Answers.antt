-- `saving::restore` meets its contract: by the verdict on the image.
-- Assumes nothing.
use mathlib.Core.Path.{◌∙◌}
use Rattle.saving.proofs.Restoring.{restore-ends}
use Rattle.saving.proofs.restore.Goals as goal

pub returns-in-Accepted : goal.returns-in-Accepted
returns-in-Accepted c =
    let a = c.args in
    c.set_up.ensures ∙ restore-ends a.bytes.now a.settings a.tick _ c.load-loaded.ensures.value _ c.in-Accepted.is

pub returns-in-WrongMark : goal.returns-in-WrongMark
returns-in-WrongMark c =
    let a = c.args in
    c.refused.ensures ∙ restore-ends a.bytes.now a.settings a.tick _ c.load-loaded.ensures.value _ c.in-WrongMark.is

pub returns-in-WrongLength : goal.returns-in-WrongLength
returns-in-WrongLength c =
    let a = c.args in
    c.refused-in-WrongLength.ensures ∙ restore-ends a.bytes.now a.settings a.tick _ c.load-loaded.ensures.value _ c.in-WrongLength.is

pub returns-in-OutOfRule : goal.returns-in-OutOfRule
returns-in-OutOfRule c =
    let a = c.args in
    c.refused-in-OutOfRule.ensures ∙ restore-ends a.bytes.now a.settings a.tick _ c.load-loaded.ensures.value _ c.in-OutOfRule.is
