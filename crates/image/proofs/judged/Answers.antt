-- `image::judged` meets its contract: in rule, or not.
-- Assumes nothing.
use Rattle.image.proofs.Judging.{judged-out, judged_in}
use borrow.Author.Rules.{rules}
use mathlib.Core.Path.{ap}
use mathlib.Core.Bool.{not}
use Rattle.image.proofs.judged.Goals as goal

pub returns-then-not-in_rule : goal.returns-then-not-in_rule
returns-then-not-in_rule c =
    let a = c.args in
    record { value = judged-out a.wide a.own a.rows a.n a.position _ _ c.in_rule.ensures (ap not c.if-not-in_rule.true) c.refused.ensures.value; within = c.refused.ensures.within }

pub returns : goal.returns
returns c =
    let a = c.args in
    record { value = judged_in a.wide a.own a.rows a.n a.position _ c.in_rule.ensures (ap not c.if-not-in_rule.false); within = search rules }
