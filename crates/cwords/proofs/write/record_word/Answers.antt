-- `cwords::write::record_word` meets its contract.
-- Assumes nothing.
use native.Mathlib.Omega.{arith}
use borrow.Author.Tests.{lt-ltb, le-ltb}
use Rattle.cwords.proofs.write.record_word.Goals as goal

pub returns-then-i-lt64 : goal.returns-then-i-lt64
returns-then-i-lt64 c = (rw (lt-ltb _ _ c.if-i-lt64.true), omega arith)

pub returns : goal.returns
returns c = (rw (le-ltb _ _ c.if-i-lt64.false), omega arith)
