-- `image::put_narrow` meets its contract: address, port.
-- Assumes nothing.
use Rattle.image.proofs.Laying.{low_room, port-room, narrow_done}
use borrow.Author.Rules.{rules}
use Rattle.image.proofs.put_narrow.Goals as goal

pub put_number-port-requires : goal.put_number-port-requires
put_number-port-requires c = low_room c.args.a c.requires

pub put_number-requires : goal.put_number-requires
put_number-requires c = port-room c.args.a c.requires c.put_number-port.ensures _

pub returns : goal.returns
returns c = narrow_done c.args.a c.requires c.put_number-port.ensures _ (search rules) c.put_number.ensures
