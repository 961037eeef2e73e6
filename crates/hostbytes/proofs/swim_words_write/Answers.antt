-- `hostbytes::swim_words_write` meets its contract.
use mathlib.Core.List.{map}
use Rattle.cwords.specs.Reading.{gossip_of, action_of}
use Rattle.hostbytes.proofs.Ending.{sent-words, was-written, not_written}
use Rattle.hostbytes.proofs.swim_words_write.Goals as goal

pub returns-in-Whole : goal.returns-in-Whole
returns-in-Whole c =
    let a = c.args in
    let records = map gossip_of a.records.now in
    let at = sent-words a.action.now records _ _ _ _ c.action_of.ensures c.send_words-w.ensures in
    was-written (action_of a.action.now) records _ _ _ at _ c.in-Whole.is

pub returns-in-Refused : goal.returns-in-Refused
returns-in-Refused c =
    let a = c.args in
    let records = map gossip_of a.records.now in
    let at = sent-words a.action.now records _ _ _ _ c.action_of.ensures c.send_words-w.ensures in
    not_written (action_of a.action.now) records _ _ _ at _ _ c.in-Refused.is c.refusal_code.ensures.0
