-- `image::get_wide` meets its contract: family, two numbers, port.
-- Assumes nothing.
use Rattle.image.proofs.Loading.{wide_read}
use borrow.Author.Rules.{rules}
use Rattle.image.proofs.get_wide.Goals as goal

pub returns : goal.returns
returns c =
    let a = c.args in
    wide_read a.bytes.now a.at _ _ _ _ c.get_number-family.ensures.0 c.get_number-high.ensures.0 c.get_number-low.ensures.0 c.get_number-port.ensures.0
