-- `accounts::receive` meets its contract: where the rules ran, the account is theirs.
-- Assumes nothing.
use mathlib.Core.Path.{◌≡◌, ap, sym, ◌∙◌}
use mathlib.Core.Bool.{Bool}
use mathlib.Core.List.{List}
use Prim.Native.Nat.{ℕ}
use mathlib.Core.Option.{Option}
use Rattle.address.specs.Here.{Addr, here}
use Rattle.model.specs.Bounds.{Room}
use Rattle.model.specs.Calls as calls
use Rattle.types.specs.declared.Action.{Action}
use Rattle.types.specs.declared.Gossip.{Gossip}
use Rattle.types.specs.Views.{to_action}
use Rattle.node.specs.declared.Node.{Node}
use Rattle.node.specs.Views.{view_node, stored_view, answer_of}
use Rattle.message.specs.declared.Received.{Received}
use Rattle.message.specs.Views.{records_of}
use Rattle.message.specs.Answers.{received_of, lent_rows}
use Rattle.accounts.specs.Changes.{account_of}
use Rattle.accounts.specs.Admitting.{heard_changes}
use Rattle.accounts.specs.Audits.{has_run, entrant_valid, message_idle, ran_ready, ran_heeded, ran_valid, ran-changes}
use Rattle.accounts.proofs.receive.Goals as goal

tested : (node : Node) (action : Action) (rows : List Gossip) (given : ℕ) (draws : List ℕ) (lent : Room) {r : Received} {ran : Bool}
    → let o = calls.message here (stored_view node) (to_action action) (lent_rows rows given) draws lent in ran ≡ has_run r.answer.reply → r ≡ received_of o → ran ≡ has_run o.reply
unfolding received_of answer_of
tested node action rows given draws lent e f = e ∙ ap (λ (r : Received). has_run r.answer.reply) f

pub account_of-requires : goal.account_of-requires
account_of-requires c =
    let a = c.args in
    let lent : Room = record { gossip = a.gossip_room; events = a.event_room } in
    let run = sym (tested a.node a.action a.rows a.given a.draws.now lent c.has_run.ensures c.receive-received.ensures.0) ∙ c.if-has_run.true in
    let full = c.has_rows.ensures in
    let long = c.has_places.ensures in (
      ran_ready a.node full (to_action a.action) a.rows a.given a.draws.now lent long run,
      ran_heeded a.node full (to_action a.action) a.rows a.given a.draws.now lent long run,
      ap (calls.valid_option here) c.entrant.ensures ∙ entrant_valid (to_action a.action) (ran_valid a.node full (to_action a.action) a.rows a.given a.draws.now lent long run),
    )

pub returns-then-has_run : goal.returns-then-has_run
returns-then-has_run c =
    let a = c.args in
    let lent : Room = record { gossip = a.gossip_room; events = a.event_room } in
    let run = sym (tested a.node a.action a.rows a.given a.draws.now lent c.has_run.ensures c.receive-received.ensures.0) ∙ c.if-has_run.true in (
      c.receive-received.ensures.0,
      c.account_of.ensures
          ∙ ap (λ (o : Option Addr). account_of (heard_changes (records_of a.rows a.given) o (view_node a.node) a.draws.now)) c.entrant.ensures
          ∙ ap account_of (sym (ran-changes a.node c.has_rows.ensures (to_action a.action) a.rows a.given a.draws.now lent c.has_places.ensures run)),
    )

pub returns : goal.returns
returns c =
    let a = c.args in
    let lent : Room = record { gossip = a.gossip_room; events = a.event_room } in
    let idle = sym (tested a.node a.action a.rows a.given a.draws.now lent c.has_run.ensures c.receive-received.ensures.0) ∙ c.if-has_run.false in (
      c.receive-received.ensures.0,
      c.none.ensures
          ∙ ap account_of (sym (message_idle a.node c.has_rows.ensures (to_action a.action) a.rows a.given a.draws.now lent c.has_places.ensures idle)),
    )
