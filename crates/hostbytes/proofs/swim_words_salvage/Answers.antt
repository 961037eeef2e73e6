-- `hostbytes::swim_words_salvage` meets its contract.
use Rattle.hostbytes.proofs.Ending.{salvaged, not-salvaged}
use Rattle.hostbytes.proofs.swim_words_salvage.Goals as goal

pub returns-in-Whole : goal.returns-in-Whole
returns-in-Whole c =
    let a = c.args in
    salvaged a.bytes.now _ _ a.said.now c.salvage-done.result c.salvage-done.ensures _ _ c.in-Whole.is c.said_words.ensures

pub returns-in-Refused : goal.returns-in-Refused
returns-in-Refused c =
    let a = c.args in
    not-salvaged a.bytes.now _ _ a.said.now c.salvage-done.result c.salvage-done.ensures _ _ c.in-Refused.is c.refusal_code.ensures.0
