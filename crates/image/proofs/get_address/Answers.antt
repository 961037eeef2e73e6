-- `image::get_address` meets its contract: by the version.
-- Assumes nothing.
use Rattle.image.proofs.Loading.{got_wide, got_narrow, wide-long, narrow_long}
use Rattle.image.proofs.get_address.Goals as goal

pub get_wide-requires : goal.get_wide-requires
get_wide-requires c = wide-long c.args.wide c.args.at c.args.bytes.now c.if-wide.true c.requires

pub returns-then-wide : goal.returns-then-wide
returns-then-wide c = got_wide _ _ _ c.if-wide.true c.get_wide.ensures

pub get_narrow-requires : goal.get_narrow-requires
get_narrow-requires c = narrow_long c.args.wide c.args.at c.args.bytes.now c.if-wide.false c.requires

pub returns : goal.returns
returns c = got_narrow _ _ _ c.if-wide.false c.get_narrow.ensures
