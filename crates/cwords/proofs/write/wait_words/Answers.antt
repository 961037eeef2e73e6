-- `cwords::write::wait_words` meets its contract: a state at a time.
-- Assumes nothing.
use mathlib.Core.Path.{refl}
use Prim.{tt}
use Rattle.cwords.proofs.Encoding.{wait-ends}
use Rattle.cwords.proofs.write.wait_words.Goals as goal

pub returns-in-SendingPing : goal.returns-in-SendingPing
returns-in-SendingPing c =
    wait-ends c.args.w _ _ _ c.in-SendingPing.is c.wide_tick-since.ensures refl tt

pub returns-in-WaitingForPingAck : goal.returns-in-WaitingForPingAck
returns-in-WaitingForPingAck c =
    let f = c.target_words.ensures in
    wait-ends c.args.w _ _ _ c.in-WaitingForPingAck.is c.wide_tick-since.ensures f.0 f.1

pub returns-in-SendingPingReq : goal.returns-in-SendingPingReq
returns-in-SendingPingReq c =
    let f = c.target_words-in-SendingPingReq.ensures in
    wait-ends c.args.w _ _ _ c.in-SendingPingReq.is c.wide_tick-since.ensures f.0 f.1

pub returns-in-WaitingForPingReqAck : goal.returns-in-WaitingForPingReqAck
returns-in-WaitingForPingReqAck c =
    let f = c.target_words-in-WaitingForPingReqAck.ensures in
    wait-ends c.args.w _ _ _ c.in-WaitingForPingReqAck.is c.wide_tick-since.ensures f.0 f.1

pub returns-in-Declaring : goal.returns-in-Declaring
returns-in-Declaring c =
    let f = c.target_words-in-Declaring.ensures in
    wait-ends c.args.w _ _ _ c.in-Declaring.is c.wide_tick-since.ensures f.0 f.1
