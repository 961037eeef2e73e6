-- `address::digits` meets its contract: each way out by the tests that led there.
-- Assumes nothing.
use borrow.Author.Rules.{rules}
use borrow.Author.Tests.{lt-ltb, le-ltb}
use Rattle.address.specs.IPv4.{digits}
use Rattle.address.proofs.digits.Goals as goal

pub returns-then-n-lt10 : goal.returns-then-n-lt10
unfolding digits
returns-then-n-lt10 c = (simp (lt-ltb _ _ c.if-n-lt10.true), search rules)

pub returns-then-n-lt100 : goal.returns-then-n-lt100
unfolding digits
returns-then-n-lt100 c = (simp (le-ltb _ _ c.if-n-lt10.false, lt-ltb _ _ c.if-n-lt100.true), search rules)

pub returns-then-n-lt1000 : goal.returns-then-n-lt1000
unfolding digits
returns-then-n-lt1000 c =
    (simp (le-ltb _ _ c.if-n-lt10.false, le-ltb _ _ c.if-n-lt100.false, lt-ltb _ _ c.if-n-lt1000.true), search rules)

pub returns-then-n-lt10000 : goal.returns-then-n-lt10000
unfolding digits
returns-then-n-lt10000 c = (
  simp (
    le-ltb _ _ c.if-n-lt10.false,
    le-ltb _ _ c.if-n-lt100.false,
    le-ltb _ _ c.if-n-lt1000.false,
    lt-ltb _ _ c.if-n-lt10000.true,
  ),
  search rules,
)

pub returns : goal.returns
unfolding digits
returns c = (
  simp (
    le-ltb _ _ c.if-n-lt10.false,
    le-ltb _ _ c.if-n-lt100.false,
    le-ltb _ _ c.if-n-lt1000.false,
    le-ltb _ _ c.if-n-lt10000.false,
  ),
  search rules,
)
