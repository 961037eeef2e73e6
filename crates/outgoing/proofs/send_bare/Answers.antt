-- `outgoing::send_bare` meets its contract: the action's addresses are tested, and what stands before records is the whole.
-- Assumes nothing.
use mathlib.Core.Path.{refl, sym, ◌∙◌}
use mathlib.Core.List.{[]}
use lib.Dec.{lit≤}
use borrow.Author.Rules.{rules}
use borrow.Author.Tests.{not-true, not-false}
use Rattle.outgoing.specs.Laying.{head-alone}
use Rattle.outgoing.specs.Sending.{sends_stray_action, sends-written}
use Rattle.outgoing.proofs.send_bare.Goals as goal

pub returns-then-not-valid_action : goal.returns-then-not-valid_action
returns-then-not-valid_action c = sends_stray_action _ [] 0 _ (lit≤ tt) (sym c.valid_action.ensures ∙ c.if-not-valid_action.true)

pub returns : goal.returns
returns c =
    sends-written _ [] 0 _ (lit≤ tt) (sym c.valid_action.ensures ∙ c.if-not-valid_action.false) refl _ _ (head-alone _ _ _ _ c.write_head.ensures)
