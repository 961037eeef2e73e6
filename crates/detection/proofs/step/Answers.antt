-- `detection::step` meets its contract: the tests, then each state has its rule.
-- Assumes nothing.
use mathlib.Core.Path.{subst}
use mathlib.Core.List.{List}
use Prim.Native.Nat.{ℕ}
use borrow.Author.Tests.{not-true, not-false}
use Rattle.address.specs.Here.{Addr}
use Rattle.model.specs.Calls.{StepOutcome}
use Rattle.node.specs.declared.Node.{Node}
use Rattle.wait.specs.declared.Wait.{Wait}
use Rattle.wait.specs.declared.WaitState.TheVariants as state
use Rattle.wait.specs.Views.{Gives}
use Rattle.detection.proofs.Declared.{declare-draws}
use Rattle.detection.proofs.Stepping.{Call, step-stops, by-rule, target_valid, waited}
use Rattle.detection.proofs.step.Goals as goal

abbrev call : Node → Wait → ℕ → List ℕ → ℕ → ℕ → Call
call node wait tick draws gossip events = record { node = node; wait = wait; tick = tick; draws = draws; lent = record { gossip = gossip; events = events } }

pub returns-then-not-told : goal.returns-then-not-told
returns-then-not-told c =
    let i = c.args in
    let q = call i.node i.wait i.tick i.draws.now i.gossip_room i.event_room in
    step-stops q _ c.test_step-told.ensures.0 (not-true _ c.if-not-told.true) c.plain.ensures

pub send_ping-requires : goal.send_ping-requires
send_ping-requires c = c.test_step-told.ensures.1 (not-false _ c.if-not-told.false)

pub wait_for_ack-after-requires : goal.wait_for_ack-after-requires
wait_for_ack-after-requires c = (c.test_step-told.ensures.1 (not-false _ c.if-not-told.false)).members

pub send_ping_req-requires : goal.send_ping_req-requires
send_ping_req-requires c =
    let i = c.args in
    let q = call i.node i.wait i.tick i.draws.now i.gossip_room i.event_room in
    let due = not-false _ c.if-not-told.false in
    (c.test_step-told.ensures.1 due, target_valid q _ c.test_step-told.ensures.0 due c.in-SendingPingReq.is)

pub wait_for_ack-after-requires-in-WaitingForPingReqAck : goal.wait_for_ack-after-requires-in-WaitingForPingReqAck
wait_for_ack-after-requires-in-WaitingForPingReqAck c = (c.test_step-told.ensures.1 (not-false _ c.if-not-told.false)).members

pub declare_node_as_dead-requires : goal.declare_node_as_dead-requires
declare_node_as_dead-requires c = c.test_step-told.ensures.1 (not-false _ c.if-not-told.false)

pub returns-in-SendingPing : goal.returns-in-SendingPing
returns-in-SendingPing c =
    let i = c.args in
    let q = call i.node i.wait i.tick i.draws.now i.gossip_room i.event_room in
    by-rule q _ c.test_step-told.ensures.0 (not-false _ c.if-not-told.false) state.SendingPing c.in-SendingPing.is c.send_ping.ensures

pub returns-in-WaitingForPingAck : goal.returns-in-WaitingForPingAck
returns-in-WaitingForPingAck c =
    let i = c.args in
    let q = call i.node i.wait i.tick i.draws.now i.gossip_room i.event_room in
    let due = not-false _ c.if-not-told.false in
    let a = c.in-WaitingForPingAck.target in
    let k = c.in-WaitingForPingAck.number in
    by-rule q _ c.test_step-told.ensures.0 due (state.WaitingForPingAck a k) c.in-WaitingForPingAck.is
    (waited q (c.test_step-told.ensures.1 due) a (state.SendingPingReq a k) c.wait_for_ack-after.ensures c.plain-in-WaitingForPingAck.ensures)

pub returns-in-SendingPingReq : goal.returns-in-SendingPingReq
returns-in-SendingPingReq c =
    let i = c.args in
    let q = call i.node i.wait i.tick i.draws.now i.gossip_room i.event_room in
    by-rule q _ c.test_step-told.ensures.0 (not-false _ c.if-not-told.false)
    (state.SendingPingReq c.in-SendingPingReq.target c.in-SendingPingReq.number) c.in-SendingPingReq.is c.send_ping_req.ensures

pub returns-in-WaitingForPingReqAck : goal.returns-in-WaitingForPingReqAck
returns-in-WaitingForPingReqAck c =
    let i = c.args in
    let q = call i.node i.wait i.tick i.draws.now i.gossip_room i.event_room in
    let due = not-false _ c.if-not-told.false in
    let a = c.in-WaitingForPingReqAck.target in
    let k = c.in-WaitingForPingReqAck.number in
    by-rule q _ c.test_step-told.ensures.0 due (state.WaitingForPingReqAck a k) c.in-WaitingForPingReqAck.is
    (waited q (c.test_step-told.ensures.1 due) a (state.Declaring a k) c.wait_for_ack-after-in-WaitingForPingReqAck.ensures c.plain-in-WaitingForPingReqAck.ensures)

pub returns-in-Declaring : goal.returns-in-Declaring
returns-in-Declaring c =
    let i = c.args in
    let q = call i.node i.wait i.tick i.draws.now i.gossip_room i.event_room in
    let due = not-false _ c.if-not-told.false in
    let a = c.in-Declaring.target in
    let k = c.in-Declaring.number in
    by-rule q _ c.test_step-told.ensures.0 due (state.Declaring a k) c.in-Declaring.is
    (subst (λ (o : StepOutcome Addr). Gives o c.declare_node_as_dead.result) (declare-draws q.node (c.test_step-told.ensures.1 due) q.wait a k q.tick q.draws) c.declare_node_as_dead.ensures)
