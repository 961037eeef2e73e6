-- `cwords::read::capped` meets its contract.
-- Assumes nothing.
use native.Mathlib.Omega.{arith}
use borrow.Author.Tests.{lt-ltb, le-ltb}
use Rattle.cwords.proofs.read.capped.Goals as goal

pub returns-then-w-lt-END_32 : goal.returns-then-w-lt-END_32
returns-then-w-lt-END_32 c = rw (lt-ltb _ _ c.if-w-lt-END_32.true) (omega arith)

pub returns : goal.returns
returns c = rw (le-ltb _ _ c.if-w-lt-END_32.false)
