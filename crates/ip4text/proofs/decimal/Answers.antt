-- `ip4text::decimal` meets its contract: each way out by the digits passed.
-- Assumes nothing.
use Prim.Native.Nat.{◌-◌}
use mathlib.Core.Path.{◌∙◌}
use lib.ListN.{length}
use borrow.Author.Rules.{rules}
use Rattle.ip4text.proofs.Parsing.{none-at, zero_at, Going, going_none, going_end, going_low, going_high, going_over, going_more}
use Rattle.ip4text.proofs.decimal.Goals as goal

pub returns-then-bytes-eq0 : goal.returns-then-bytes-eq0
returns-then-bytes-eq0 c = none-at _ _ c.if-bytes-eq0.true

pub returns-then-bytes-eq48 : goal.returns-then-bytes-eq48
returns-then-bytes-eq48 c = zero_at _ _ c.if-bytes-eq0.false (search rules)

pub loop-i-init : goal.loop-i-init
loop-i-init c = going_none _ _ c.if-bytes-eq0.false c.if-bytes-eq48.false

pub returns-then-b-lt48 : goal.returns-then-b-lt48
returns-then-b-lt48 c =
    let l = c.loop-i in
    c.ended.ensures ∙ going_low _ _ _ _ l.invariant c.wide-b.result (search rules) (search rules) (search rules)

pub returns-then-b-gt57 : goal.returns-then-b-gt57
returns-then-b-gt57 c =
    let l = c.loop-i in
    c.ended-then-b-gt57.ensures ∙ going_high _ _ _ _ l.invariant c.wide-b.result (search rules) (search rules) (search rules)

pub returns-then-limit-next : goal.returns-then-limit-next
returns-then-limit-next c =
    let l = c.loop-i in
    going_over _ _ _ _ l.invariant c.wide-b.result (search rules) (search rules) (search rules) (search rules) (search rules)

pub loop-i-preserved : goal.loop-i-preserved
loop-i-preserved c =
    let l = c.loop-i in
    going_more _ _ _ _ l.invariant c.wide-b.result (search rules) (search rules) (search rules) (search rules) (search rules)

pub returns : goal.returns
returns c =
    let l = c.loop-i in
    c.ended-2.ensures ∙ going_end _ _ _ _ l.invariant (search rules)
