-- `member::position_after` meets its contract: each way out by the tests that led there.
-- Assumes nothing.
use native.Mathlib.Omega.{arith}
use borrow.Author.Tests.{eq-eqb, ne_eqb}
use borrow.Author.Rules.{rules}
use Rattle.member.proofs.position_after.Goals as goal

pub returns-then-position-len : goal.returns-then-position-len
returns-then-position-len c = simp (ne_eqb _ _ c.if-position-len.true)

pub returns-then-len-eq0 : goal.returns-then-len-eq0
returns-then-len-eq0 c = simp (eq-eqb _ _ c.if-position-len.false) (omega arith)

pub returns-else-len-eq0 : goal.returns-else-len-eq0
returns-else-len-eq0 c = simp (eq-eqb _ _ c.if-position-len.false)
