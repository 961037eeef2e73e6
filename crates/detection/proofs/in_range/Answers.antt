-- `detection::in_range` meets its contract: by the state.
-- Assumes nothing.
use Rattle.model.specs.Calls.{valid_state}
use Rattle.detection.proofs.in_range.Goals as goal

pub returns-in-SendingPing : goal.returns-in-SendingPing
unfolding valid_state
returns-in-SendingPing c = rw c.in-SendingPing.is

pub returns-in-WaitingForPingAck : goal.returns-in-WaitingForPingAck
unfolding valid_state
returns-in-WaitingForPingAck c = rw c.in-WaitingForPingAck.is c.in_range.ensures

pub returns-in-SendingPingReq : goal.returns-in-SendingPingReq
unfolding valid_state
returns-in-SendingPingReq c = rw c.in-SendingPingReq.is c.in_range-in-SendingPingReq.ensures

pub returns-in-WaitingForPingReqAck : goal.returns-in-WaitingForPingReqAck
unfolding valid_state
returns-in-WaitingForPingReqAck c = rw c.in-WaitingForPingReqAck.is c.in_range-in-WaitingForPingReqAck.ensures

pub returns-in-Declaring : goal.returns-in-Declaring
unfolding valid_state
returns-in-Declaring c = rw c.in-Declaring.is c.in_range-in-Declaring.ensures
