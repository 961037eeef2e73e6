-- `outgoing::write` meets its contract: the head, and behind it the records.
-- Assumes nothing.
use mathlib.Core.Path.{◌∙◌}
use native.Mathlib.Omega.{arith}
use lib.ListN.{take}
use Rattle.outgoing.specs.Laying.{head-refused, head-laid, rest-room, all_written}
use borrow.Author.Rules.{rules}
use Rattle.outgoing.proofs.write.Goals as goal

pub write_head-head-requires : goal.write_head-head-requires
write_head-head-requires c =
    omega (arith, c.requires, c.gossips_len.ensures.1)

pub write_gossips-end-requires : goal.write_gossips-end-requires
write_gossips-end-requires c =
    let gs = take c.args.n c.args.row in
    let g = c.gossips_len.ensures.0 in
    let h = c.write_head-head in
    (search rules, rest-room c.args.a gs _ _ g h.result _ h.ensures _ c.in-Whole.is)

pub returns-in-Refused : goal.returns-in-Refused
returns-in-Refused c =
    let gs = take c.args.n c.args.row in
    let g = c.gossips_len.ensures.0 in
    let h = c.write_head-head in
    head-refused c.args.a gs _ _ g h.result _ h.ensures _ c.in-Refused.is

pub shape_of-out-in-Whole : goal.shape_of-out-in-Whole
shape_of-out-in-Whole c =
    let gs = take c.args.n c.args.row in
    let g = c.gossips_len.ensures.0 in
    let h = c.write_head-head in
    c.write_gossips-end.ensures.long ∙ (head-laid c.args.a gs _ _ g h.result _ h.ensures _ c.in-Whole.is).long

pub returns-in-Whole : goal.returns-in-Whole
returns-in-Whole c =
    let gs = take c.args.n c.args.row in
    let g = c.gossips_len.ensures.0 in
    let h = c.write_head-head in
    all_written c.args.a gs _ _ g h.result _ h.ensures _ c.in-Whole.is c.write_gossips-end.ensures
