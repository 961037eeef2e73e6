-- `cwords::write::action_words` meets its contract.
-- Assumes nothing.
use Rattle.cwords.proofs.Encoding.{ping_ends, request_ends, ack_ends}
use Rattle.cwords.proofs.write.action_words.Goals as goal

pub returns-in-Ping : goal.returns-in-Ping
returns-in-Ping c =
    ping_ends c.args.a _ _ _ _ c.first_word.ensures c.optional_words-o.ensures c.in-Ping.is

pub returns-in-PingReq : goal.returns-in-PingReq
returns-in-PingReq c =
    request_ends c.args.a _ _ _ _ c.first_word-in-PingReq.ensures c.first_word-in-PingReq-2.ensures c.in-PingReq.is

pub returns-in-Ack : goal.returns-in-Ack
returns-in-Ack c =
    ack_ends c.args.a _ _ _ _ c.first_word-in-Ack.ensures c.optional_words-o-in-Ack.ensures c.in-Ack.is
