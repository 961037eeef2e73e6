-- `rules::plus_one` meets its contract: the last number has no next.
-- Assumes nothing.
use native.Mathlib.Omega.{arith}
use borrow.Author.Rules.{rules}
use borrow.Author.Tests.{le-leb, lt-leb}
use Rattle.rules.proofs.plus_one.Goals as goal

pub returns-then-number-eq18446744073709551615 : goal.returns-then-number-eq18446744073709551615
returns-then-number-eq18446744073709551615 c = rw (le-leb 18446744073709551615 c.args.number (omega arith))

pub returns : goal.returns
returns c = rw (lt-leb 18446744073709551615 c.args.number (search rules))
