-- `hostbytes::swim_words_read` meets its contract.
use Rattle.hostbytes.proofs.Ending.{was_read, malformed, not_read}
use Rattle.hostbytes.proofs.swim_words_read.Goals as goal

pub returns-in-Whole : goal.returns-in-Whole
returns-in-Whole c =
    let a = c.args in
    was_read a.bytes.now a.action.now a.records.now _ c.read-taken.result c.read-taken.ensures c.put_65.ensures _ _ _ c.in-Whole.is c.action_words.ensures.0

pub returns-in-Malformed : goal.returns-in-Malformed
returns-in-Malformed c =
    let a = c.args in
    malformed a.bytes.now a.action.now a.records.now _ c.read-taken.result c.read-taken.ensures c.put_65.ensures _ _ c.in-Malformed.is c.place_word.ensures.0

pub returns-in-Refused : goal.returns-in-Refused
returns-in-Refused c =
    let a = c.args in
    not_read a.bytes.now a.action.now a.records.now _ c.read-taken.result c.read-taken.ensures c.put_65.ensures _ _ c.in-Refused.is c.refusal_code.ensures.0
