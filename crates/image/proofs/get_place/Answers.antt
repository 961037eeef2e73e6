-- `image::get_place` meets its contract: address, state, number.
-- Assumes nothing.
use Rattle.image.proofs.Loading.{place_read}
use borrow.Author.Rules.{rules}
use Rattle.image.proofs.get_place.Goals as goal

pub returns : goal.returns
returns c =
    let a = c.args in
    place_read a.wide a.bytes.now a.at _ _ _ _ c.address_size.ensures.0 c.get_address-addr.ensures c.get_number-state.ensures.0 c.get_number-number.ensures.0
