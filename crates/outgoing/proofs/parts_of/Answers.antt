-- `outgoing::parts_of` meets its contract: by the action.
-- Assumes nothing.
use mathlib.Core.Path.{sym, ap}
use Rattle.outgoing.specs.Outgoing.{open_of}
use borrow.Author.Rules.{rules}
use Rattle.outgoing.proofs.parts_of.Goals as goal

pub returns-in-Ping : goal.returns-in-Ping
unfolding open_of
returns-in-Ping c =
    sym (ap open_of c.in-Ping.is)

pub returns-in-PingReq : goal.returns-in-PingReq
unfolding open_of
returns-in-PingReq c =
    sym (ap open_of c.in-PingReq.is)

pub returns-in-Ack : goal.returns-in-Ack
unfolding open_of
returns-in-Ack c =
    sym (ap open_of c.in-Ack.is)
