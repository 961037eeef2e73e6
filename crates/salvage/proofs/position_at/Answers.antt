-- `salvage::position_at` meets its contract: missing, in range, out of range.
-- Assumes nothing.
use borrow.Author.Rules.{rules}
use Rattle.salvage.proofs.Judging.{position_none, position_in, position_out}
use Rattle.salvage.proofs.position_at.Goals as goal

pub returns-then-bytes-at : goal.returns-then-bytes-at
returns-then-bytes-at c =
    let a = c.args in
    position_none a.bytes.now a.at a.n (search rules)

pub returns-then-position-n : goal.returns-then-position-n
returns-then-position-n c =
    let a = c.args in
    position_in a.bytes.now a.at a.n c.get_number-position.result c.get_number-position.ensures.0 (search rules)

pub returns : goal.returns
returns c =
    let a = c.args in
    position_out a.bytes.now a.at a.n c.get_number-position.result c.get_number-position.ensures.0 (search rules)
