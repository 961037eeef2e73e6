-- `image::put_head` meets its contract: mark with version, own, count.
-- Assumes nothing.
use Rattle.image.proofs.Laying.{mark-room, own_room, count_room, head-laid}
use borrow.Author.Rules.{rules}
use Rattle.image.proofs.put_head.Goals as goal

pub put_number-first-requires : goal.put_number-first-requires
put_number-first-requires c = mark-room c.args.wide c.args.own c.args.n _ c.requires

pub put_address-count-requires : goal.put_address-count-requires
put_address-count-requires c =
    own_room c.args.wide c.args.own c.args.n _ c.requires c.put_number-first.ensures

pub put_number-requires : goal.put_number-requires
put_number-requires c =
    count_room c.args.wide c.args.own c.args.n _ c.requires c.put_number-first.ensures c.put_address-count.ensures

pub returns : goal.returns
returns c =
    head-laid c.args.wide c.args.own c.args.n _ c.requires c.put_number-first.ensures c.put_address-count.ensures c.mark_of.ensures c.put_number.ensures
