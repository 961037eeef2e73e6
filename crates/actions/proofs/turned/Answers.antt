-- `actions::turned` meets its contract: each way out by the piece.
-- Assumes nothing.
use mathlib.Core.Path.{sym, ap, ◌∙◌}
use borrow.Author.Rules.{rules}
use Rattle.actions.specs.Action.{turn_of}
use Rattle.actions.proofs.turned.Goals as goal

pub returns-in-Unknown : goal.returns-in-Unknown
unfolding turn_of
returns-in-Unknown c =
    let r = c.unmoved.ensures in (r.0 ∙ sym (ap (turn_of c.args.s) c.in-Unknown.is), r.1)

pub returns-in-From : goal.returns-in-From
unfolding turn_of
returns-in-From c =
    let r = c.unmoved-in-From.ensures in (r.0 ∙ sym (ap (turn_of c.args.s) c.in-From.is), r.1)

pub returns-in-Other : goal.returns-in-Other
unfolding turn_of
returns-in-Other c =
    let r = c.unmoved-in-Other.ensures in (r.0 ∙ sym (ap (turn_of c.args.s) c.in-Other.is), r.1)

pub returns-in-News : goal.returns-in-News
returns-in-News c =
    let r = c.appended.ensures in (r.0 ∙ sym (ap (turn_of c.args.s) c.in-News.is), r.1)
