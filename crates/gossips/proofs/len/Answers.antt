-- `gossips::len` meets its contract: nothing for no event, else the size rule.
-- Assumes nothing.
use native.Mathlib.Omega.{arith}
use borrow.Author.Rules.{rules}
use Rattle.gossips.proofs.Laying.{none-long, some-long}
use Rattle.gossips.proofs.len.Goals as goal

pub returns-then-p-eq0 : goal.returns-then-p-eq0
returns-then-p-eq0 c =
    (none-long c.args.g _ c.parts_of-p.ensures (search rules), search rules)

pub returns : goal.returns
returns c =
    (some-long c.args.g _ c.parts_of-p.ensures (search rules) _ c.size_of.ensures.0 (search rules), omega (arith, c.size_of.ensures.1))
