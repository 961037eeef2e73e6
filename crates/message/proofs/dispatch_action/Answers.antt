-- `message::dispatch_action` meets its contract: by the kind of the message.
-- Assumes nothing.
-- the outcome, by the kind of the message
use mathlib.Core.Path.{ap, sym, ◌∙◌}
use mathlib.Core.Bool.{Bool}
use mathlib.Core.List.{List}
use Prim.Native.Nat.{ℕ}
use borrow.Author.Rules.{rules}
use Rattle.address.specs.Here.{here}
use Rattle.laws.specs.Bools.{and_split}
use Rattle.model.specs.Calls as calls
use Rattle.types.specs.declared.Gossip.{Gossip}
use Rattle.types.specs.declared.Action.{Action}
use Rattle.types.specs.Views.{to_action}
use Rattle.node.specs.declared.Node.{Node}
use Rattle.message.specs.declared.Received.{Received}
use Rattle.message.specs.Answers.{handled_of}
use Rattle.message.proofs.dispatch_action.Goals as goal

abbrev by_kind : Node → List Gossip → ℕ → List ℕ → Action → Received
by_kind n rows given draws x = handled_of n (to_action x) rows given draws

abbrev in-range : Action → Bool
in-range x = calls.valid_action here (to_action x)

pub handle_ping-requires : goal.handle_ping-requires
unfolding calls.valid_action
handle_ping-requires c =
    let p = c.requires in
    (p.0, p.1, (and_split _ _ (sym (ap in-range c.in-Ping.is) ∙ p.2)).0)

pub handle_ping_req-requires : goal.handle_ping_req-requires
handle_ping_req-requires c = let p = c.requires in (p.0, p.1)

pub handle_ack-requires : goal.handle_ack-requires
handle_ack-requires c = let p = c.requires in (p.0, p.1)

pub returns-in-Ping : goal.returns-in-Ping
returns-in-Ping c =
    let a = c.args in
    c.handle_ping.ensures ∙ sym (ap (by_kind a.node a.rows a.given a.draws.now) c.in-Ping.is)

pub returns-in-PingReq : goal.returns-in-PingReq
returns-in-PingReq c =
    let a = c.args in
    c.handle_ping_req.ensures ∙ sym (ap (by_kind a.node a.rows a.given a.draws.now) c.in-PingReq.is)

pub returns-in-Ack : goal.returns-in-Ack
returns-in-Ack c =
    let a = c.args in
    c.handle_ack.ensures ∙ sym (ap (by_kind a.node a.rows a.given a.draws.now) c.in-Ack.is)
