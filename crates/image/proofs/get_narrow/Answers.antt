-- `image::get_narrow` meets its contract: address, port.
-- Assumes nothing.
use Rattle.image.proofs.Loading.{narrow_read}
use borrow.Author.Rules.{rules}
use Rattle.image.proofs.get_narrow.Goals as goal

pub returns : goal.returns
returns c = narrow_read c.args.bytes.now c.args.at _ _ c.get_number-low.ensures.0 c.get_number-port.ensures.0
