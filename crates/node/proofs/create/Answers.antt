-- `node::create` meets its contract: 5, then 1, else the fresh node.
-- Assumes nothing.
use mathlib.Core.Path.{◌≡◌, sym, ◌∙◌}
use borrow.Author.Rules.{rules}
use borrow.Author.Tests.{not-true, not-false}
use Rattle.node.proofs.Creating.{create_address, create_setting, create-kept}
use Rattle.node.proofs.create.Goals as goal

pub returns-then-not-in_range : goal.returns-then-not-in_range
returns-then-not-in_range c =
    let a = c.args in
    c.refused.ensures ∙ create_address a.settings a.own a.number _ c.none.ensures (sym c.in_range.ensures ∙ c.if-not-in_range.true)

pub returns-then-not-in_range-2 : goal.returns-then-not-in_range-2
returns-then-not-in_range-2 c =
    let a = c.args in
    c.refused-then-not-in_range-2.ensures
    ∙ create_setting a.settings a.own a.number _ c.none-then-not-in_range-2.ensures (sym c.in_range.ensures ∙ c.if-not-in_range.false) (sym c.in_range-2.ensures ∙ c.if-not-in_range-2.true)

pub returns : goal.returns
returns c =
    let a = c.args in
    c.plain.ensures
    ∙ create-kept a.settings a.own a.number _ c.new.ensures (sym c.in_range.ensures ∙ c.if-not-in_range.false) (sym c.in_range-2.ensures ∙ c.if-not-in_range-2.false)
