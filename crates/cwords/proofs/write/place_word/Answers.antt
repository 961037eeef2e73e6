-- `cwords::write::place_word` meets its contract.
-- Assumes nothing.
use native.Mathlib.Omega.{arith}
use Rattle.cwords.proofs.write.place_word.Goals as goal

pub returns-in-Record : goal.returns-in-Record
returns-in-Record c = (rw c.in-Record.is c.record_word.ensures.0, c.record_word.ensures.1)

pub returns-in-Sender : goal.returns-in-Sender
returns-in-Sender c = (rw c.in-Sender.is, omega arith)
