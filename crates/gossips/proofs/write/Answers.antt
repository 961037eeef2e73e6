-- `gossips::write` meets its contract: nothing for no event, else the key, the count and the event.
-- Assumes nothing.
use native.Mathlib.Omega.{arith}
use Rattle.gossips.proofs.Laying.{kind-small, none-laid, key_room, count_is, count_room, event-room, gossip-laid}
use borrow.Author.Rules.{rules}
use Rattle.gossips.proofs.write.Goals as goal

pub returns-then-p-eq0 : goal.returns-then-p-eq0
returns-then-p-eq0 c =
    let p = c.parts_of-p in
    none-laid c.args.g p.result p.ensures _ _ (search rules)

pub overflow_mul-p : goal.overflow_mul-p
overflow_mul-p c =
    let p = c.parts_of-p in
    omega (arith, kind-small c.args.g p.result p.ensures)

pub overflow_add-p : goal.overflow_add-p
overflow_add-p c =
    let p = c.parts_of-p in
    omega (arith, kind-small c.args.g p.result p.ensures)

pub write-count-requires : goal.write-count-requires
write-count-requires c =
    let p = c.parts_of-p in
    key_room c.args.g p.result p.ensures (search rules) c.requires

pub overflow_sub-size_of : goal.overflow_sub-size_of
overflow_sub-size_of c =
    let p = c.parts_of-p in
    omega (arith, count_is c.args.g p.result p.ensures (search rules) _ c.size_of.ensures.0 (search rules))

pub write-start-requires : goal.write-start-requires
write-start-requires c =
    let p = c.parts_of-p in
    count_room c.args.g p.result p.ensures (search rules) _ c.size_of.ensures.0 (search rules) c.requires c.write-count.ensures

pub write-requires : goal.write-requires
write-requires c =
    let p = c.parts_of-p in
    event-room c.args.g p.result p.ensures (search rules) _ c.size_of.ensures.0 (search rules) c.requires c.write-count.ensures c.write-start.ensures

pub returns : goal.returns
returns c =
    let p = c.parts_of-p in
    gossip-laid c.args.g p.result p.ensures (search rules) _ c.size_of.ensures.0 (search rules) c.requires c.write-count.ensures c.write-start.ensures c.write.ensures
