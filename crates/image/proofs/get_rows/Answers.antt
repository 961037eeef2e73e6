-- `image::get_rows` meets its contract: the places passed stand in the rows.
-- Assumes nothing.
use Prim.Native.Nat.{◌-◌}
use Rattle.image.proofs.Loading.{Going, going_none, going_more, going_done, place-room}
use borrow.Author.Rules.{rules}
use Rattle.image.proofs.get_rows.Goals as goal

pub loop-i-init : goal.loop-i-init
loop-i-init c = going_none _ _ _ _ _ c.none-table.ensures c.blank-order.ensures

pub get_place-p-requires : goal.get_place-p-requires
get_place-p-requires c =
    place-room c.args.wide c.args.n c.loop-i.i _ c.args.bytes.now (search rules) c.place_at.ensures.0 c.requires.1

pub loop-i-preserved : goal.loop-i-preserved
loop-i-preserved c =
    going_more _ _ _ _ _ _ _ (search rules) c.loop-i.invariant _ c.get_place-p.result _ _ (search rules) c.place_at.ensures.0 c.get_place-p.ensures c.member_of.ensures
    c.still-good.ensures

pub returns : goal.returns
returns c = going_done _ _ _ _ _ _ _ (search rules) c.loop-i.invariant (search rules)
