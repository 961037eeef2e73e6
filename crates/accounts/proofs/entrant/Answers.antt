-- `accounts::entrant` meets its contract.
-- Assumes nothing.
use Rattle.accounts.proofs.entrant.Goals as goal

pub returns-in-Ping : goal.returns-in-Ping
returns-in-Ping c = cc

pub returns-in-PingReq : goal.returns-in-PingReq
returns-in-PingReq c = cc

pub returns-in-Ack : goal.returns-in-Ack
returns-in-Ack c = cc
