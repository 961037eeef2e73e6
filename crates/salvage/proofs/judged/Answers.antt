-- `salvage::judged` meets its contract: address, state, repeat, kept.
-- Assumes nothing.
use lib.ListN.{take}
use borrow.Author.Rules.{rules}
use Rattle.salvage.proofs.Judging.{judged_address, judged_state, judged_repeat, judged-kept}
use mathlib.Core.Path.{ap}
use mathlib.Core.Bool.{not}
use Rattle.salvage.proofs.judged.Goals as goal

pub returns-then-not-in_range : goal.returns-then-not-in_range
returns-then-not-in_range c =
    let a = c.args in
    judged_address (take a.n a.kept) a.p _ c.in_range.ensures (ap not c.if-not-in_range.true)

pub returns-then-p-gt2 : goal.returns-then-p-gt2
returns-then-p-gt2 c =
    let a = c.args in
    judged_state (take a.n a.kept) a.p _ c.in_range.ensures (ap not c.if-not-in_range.false) (search rules)

pub returns-then-repeats : goal.returns-then-repeats
returns-then-repeats c =
    let a = c.args in
    judged_repeat (take a.n a.kept) a.p _ _ c.in_range.ensures (ap not c.if-not-in_range.false) (search rules) c.repeats.ensures c.if-repeats.true

pub returns : goal.returns
returns c =
    let a = c.args in
    judged-kept (take a.n a.kept) a.p _ _ c.in_range.ensures (ap not c.if-not-in_range.false) (search rules) c.repeats.ensures c.if-repeats.false
