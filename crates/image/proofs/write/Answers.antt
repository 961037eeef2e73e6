-- `image::write` meets its contract: head, places, position.
-- Assumes nothing.
use Rattle.image.proofs.Laying.{too_long, room-head, room-rows, room_position, written}
use borrow.Author.Rules.{rules}
use Rattle.image.proofs.write.Goals as goal

pub returns-then-out-place_at : goal.returns-then-out-place_at
returns-then-out-place_at c =
    let a = c.args in
    too_long _ a.own a.rows a.n a.position (search rules) c.needs_wide-wide.ensures _ c.place_at.ensures.0 a.out.now (search rules)

pub put_head-first-requires : goal.put_head-first-requires
put_head-first-requires c =
    let a = c.args in
    room-head _ a.own a.rows a.n a.position (search rules) c.needs_wide-wide.ensures _ c.place_at.ensures.0 (search rules)

pub put_members-last-requires : goal.put_members-last-requires
put_members-last-requires c =
    let a = c.args in (
      search rules,
      room-rows _ a.own a.rows a.n a.position (search rules) c.needs_wide-wide.ensures _ c.place_at.ensures.0 (search rules) c.put_head-first.ensures,
    )

pub put_number-end-requires : goal.put_number-end-requires
put_number-end-requires c =
    let a = c.args in
    room_position _ a.own a.rows a.n a.position (search rules) c.needs_wide-wide.ensures _ c.place_at.ensures.0 (search rules) c.put_head-first.ensures
    c.put_members-last.ensures

pub returns : goal.returns
returns c =
    let a = c.args in
    written _ a.own a.rows a.n a.position (search rules) c.needs_wide-wide.ensures _ c.place_at.ensures.0 (search rules) c.put_head-first.ensures
    c.put_members-last.ensures c.put_number-end.ensures
