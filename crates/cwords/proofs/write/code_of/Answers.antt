-- `cwords::write::code_of` meets its contract.
-- Assumes nothing.
use Rattle.cwords.proofs.write.code_of.Goals as goal

pub returns-in-Done : goal.returns-in-Done
returns-in-Done c = cc

pub returns-in-Already : goal.returns-in-Already
returns-in-Already c = cc

pub returns-in-NotDue : goal.returns-in-NotDue
returns-in-NotDue c = cc

pub returns-in-Refuted : goal.returns-in-Refuted
returns-in-Refuted c = cc

pub returns-in-Gone : goal.returns-in-Gone
returns-in-Gone c = cc

pub returns-in-Refused : goal.returns-in-Refused
returns-in-Refused c = rw c.in-Refused.is c.refusal_code.ensures.0

pub returns-in-RefusedAt : goal.returns-in-RefusedAt
returns-in-RefusedAt c =
    rw (c.in-RefusedAt.is, c.refusal_code-in-RefusedAt.ensures.0, c.place_word.ensures.0)
