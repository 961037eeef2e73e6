-- `disseminate::over` meets its contract: each way out by the tests that led there.
-- Assumes nothing.
use mathlib.Core.Path.{◌≡◌, sym}
use borrow.Author.Tests.{eq-eqb, ne_eqb, le-leb, lt-leb}
use borrow.Author.Rules.{rules}
use Rattle.disseminate.proofs.over.Goals as goal

pub returns-then-held-eq0 : goal.returns-then-held-eq0
returns-then-held-eq0 c = rw (eq-eqb _ _ c.if-held-eq0.true)

pub returns-then-from_alive-t : goal.returns-then-from_alive-t
returns-then-from_alive-t c = rw (ne_eqb _ _ c.if-held-eq0.false, lt-leb _ _ c.if-from_alive-t.true)

pub returns : goal.returns
returns c = rw (ne_eqb _ _ c.if-held-eq0.false, le-leb _ _ c.if-from_alive-t.false)
