-- `image::put_wide` meets its contract: family, two numbers, port.
-- Assumes nothing.
use Rattle.image.proofs.Laying.{family_room, high_room, low_room₂, port_room₂, wide_done}
use borrow.Author.Rules.{rules}
use Rattle.image.proofs.put_wide.Goals as goal

pub put_number-high-requires : goal.put_number-high-requires
put_number-high-requires c = family_room c.args.a c.requires _

pub put_number-low-requires : goal.put_number-low-requires
put_number-low-requires c = high_room c.args.a c.requires _ c.put_number-high.ensures

pub put_number-port-requires : goal.put_number-port-requires
put_number-port-requires c = low_room₂ c.args.a c.requires _ c.put_number-high.ensures c.put_number-low.ensures

pub put_number-requires : goal.put_number-requires
put_number-requires c =
    port_room₂ c.args.a c.requires _ c.put_number-high.ensures c.put_number-low.ensures c.put_number-port.ensures _

pub returns : goal.returns
returns c =
    wide_done c.args.a c.requires _ c.put_number-high.ensures c.put_number-low.ensures c.put_number-port.ensures _ (search rules) (search rules) c.put_number.ensures
