-- `why::add_stop` meets its contract: a full list, then no draw.
-- Assumes nothing.
use borrow.Author.Tests.{le-leb, lt-leb, eq-eqb, ne_eqb}
use Rattle.why.proofs.add_stop.Goals as goal

pub returns-then-listed-ge-CAPACITY : goal.returns-then-listed-ge-CAPACITY
returns-then-listed-ge-CAPACITY c = rw (le-leb 64 _ c.if-listed-ge-CAPACITY.true)

pub returns-then-draws-eq0 : goal.returns-then-draws-eq0
returns-then-draws-eq0 c = rw (lt-leb 64 _ c.if-listed-ge-CAPACITY.false, eq-eqb _ 0 c.if-draws-eq0.true)

pub returns : goal.returns
returns c = rw (lt-leb 64 _ c.if-listed-ge-CAPACITY.false, ne_eqb _ 0 c.if-draws-eq0.false)
