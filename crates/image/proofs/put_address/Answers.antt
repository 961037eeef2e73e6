-- `image::put_address` meets its contract: by the version.
-- Assumes nothing.
use Rattle.image.proofs.Laying.{wide_room, narrow_room, wide-laid, narrow_laid}
use borrow.Author.Rules.{rules}
use Rattle.image.proofs.put_address.Goals as goal

pub put_wide-requires : goal.put_wide-requires
put_wide-requires c = wide_room c.args.wide c.args.a c.if-wide.true c.requires

pub returns-then-wide : goal.returns-then-wide
returns-then-wide c = wide-laid c.args.wide c.args.a c.if-wide.true c.put_wide.ensures

pub put_narrow-requires : goal.put_narrow-requires
put_narrow-requires c = narrow_room c.args.wide c.args.a c.if-wide.false c.requires

pub returns : goal.returns
returns c = narrow_laid c.args.wide c.args.a c.if-wide.false c.put_narrow.ensures
