-- `accounts::account_of` meets its contract: the records, and then the sender.
-- Assumes nothing.
-- what is heard, by who is to come in
use mathlib.Core.Path.{ap, sym, ◌∙◌}
use mathlib.Core.List.{List}
use mathlib.Core.Option.{Option}
use Prim.Native.Nat.{ℕ}
use native.Mathlib.Omega.{arith}
use lib.ListN.{length}
use mir.Val.{Fits}
use mir.Syntax.{w64}
use borrow.Author.Rules.{rules}
use borrow.Author.Tests.{not-true, not-false}
use Rattle.address.specs.Here.{Addr, here}
use Rattle.model.specs.Calls as calls
use Rattle.types.specs.declared.Gossip.{Gossip}
use Rattle.types.specs.declared.Optional.{Optional}
use Rattle.node.specs.declared.Node.{Node}
use Rattle.types.specs.Views.{to_optional}
use Rattle.message.specs.Views.{records_of}
use Rattle.node.specs.Views.{view_node}
use Rattle.accounts.specs.declared.Account.{Account}
use Rattle.accounts.specs.Changes.{account_of}
use Rattle.accounts.specs.Admitting.{heard_changes, sender_heeded, walked_stopped, walked_alone, walked_whole, walked_ready, sender_refused, sender_pushed, walked_room}
use Rattle.accounts.proofs.account_of.Goals as goal

abbrev heard : Node → List Gossip → ℕ → List ℕ → Option Addr → Account
heard node rows given draws o = account_of (heard_changes (records_of rows given) o (view_node node) draws)

pub returns-then-not-walk : goal.returns-then-not-walk
returns-then-not-walk c =
    let a = c.args in
    walked_stopped a.node c.requires.0 a.rows a.given c.requires.1 a.draws.now c.walk_records-walk.result c.walk_records-walk.ensures (not-true _ c.if-not-walk.true) (to_optional a.entrant)

pub offset_bounds-draws-used : goal.offset_bounds-draws-used
offset_bounds-draws-used c =
    let a = c.args in
    let fits : Fits w64 (length a.draws.now) = search rules in
    omega (arith, fits.fits, (walked_whole a.node c.requires.0 a.rows a.given c.requires.1 a.draws.now c.walk_records-walk.result c.walk_records-walk.ensures (not-false _ c.if-not-walk.false)).within)

pub slice_bounds-run_rule-count : goal.slice_bounds-run_rule-count
slice_bounds-run_rule-count c =
    let a = c.args in
    (walked_whole a.node c.requires.0 a.rows a.given c.requires.1 a.draws.now c.walk_records-walk.result c.walk_records-walk.ensures (not-false _ c.if-not-walk.false)).within

pub slice_bounds-run_rule-start : goal.slice_bounds-run_rule-start
slice_bounds-run_rule-start c =
    let a = c.args in
    (walked_whole a.node c.requires.0 a.rows a.given c.requires.1 a.draws.now c.walk_records-walk.result c.walk_records-walk.ensures (not-false _ c.if-not-walk.false)).within

pub run_rule-turn-requires : goal.run_rule-turn-requires
run_rule-turn-requires c =
    let a = c.args in
    let h = sender_heeded c.in-Given.from (ap (λ (o : Optional). calls.valid_option here (to_optional o)) (sym c.in-Given.is) ∙ c.requires.2) c.only_sender.result c.only_sender.ensures in
    (walked_ready a.node c.requires.0 a.rows a.given c.requires.1 a.draws.now c.walk_records-walk.result c.walk_records-walk.ensures (not-false _ c.if-not-walk.false), h.0, h.1)

pub push-requires : goal.push-requires
push-requires c =
    let a = c.args in
    walked_room a.node c.requires.0 a.rows a.given c.requires.1 a.draws.now c.walk_records-walk.result c.walk_records-walk.ensures

pub returns-in-Absent : goal.returns-in-Absent
returns-in-Absent c =
    let a = c.args in
    walked_alone a.node c.requires.0 a.rows a.given c.requires.1 a.draws.now c.walk_records-walk.result c.walk_records-walk.ensures ∙ ap (λ (o : Optional). heard a.node a.rows a.given a.draws.now (to_optional o)) (sym c.in-Absent.is)

pub returns-in-Used : goal.returns-in-Used
returns-in-Used c =
    let a = c.args in
    c.push.ensures
    ∙ sender_pushed a.node c.requires.0 a.rows a.given c.requires.1 a.draws.now c.walk_records-walk.result c.walk_records-walk.ensures (not-false _ c.if-not-walk.false) c.in-Given.from (ap (λ (o : Optional). calls.valid_option here (to_optional o)) (sym c.in-Given.is) ∙ c.requires.2)
    c.only_sender.result c.run_rule-turn.result c.only_sender.ensures c.run_rule-turn.ensures _ c.in-Used.is
    ∙ ap (λ (o : Optional). heard a.node a.rows a.given a.draws.now (to_optional o)) (sym c.in-Given.is)

pub returns-in-Refused : goal.returns-in-Refused
returns-in-Refused c =
    let a = c.args in
    sender_refused a.node c.requires.0 a.rows a.given c.requires.1 a.draws.now c.walk_records-walk.result c.walk_records-walk.ensures (not-false _ c.if-not-walk.false) c.in-Given.from (ap (λ (o : Optional). calls.valid_option here (to_optional o)) (sym c.in-Given.is) ∙ c.requires.2)
    c.only_sender.result c.run_rule-turn.result c.only_sender.ensures c.run_rule-turn.ensures _ c.in-Refused.is
    ∙ ap (λ (o : Optional). heard a.node a.rows a.given a.draws.now (to_optional o)) (sym c.in-Given.is)
