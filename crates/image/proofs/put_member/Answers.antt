-- `image::put_member` meets its contract: address, state, number.
-- Assumes nothing.
use Rattle.member.specs.Views.{to_member}
use Rattle.image.proofs.Laying.{addr_room, state_room, number-room, member-laid}
use borrow.Author.Rules.{rules}
use Rattle.image.proofs.put_member.Goals as goal

pub put_address-state-requires : goal.put_address-state-requires
put_address-state-requires c = addr_room c.args.wide (to_member c.args.m) c.requires

pub put_number-number-requires : goal.put_number-number-requires
put_number-number-requires c =
    state_room c.args.wide (to_member c.args.m) c.requires c.put_address-state.ensures c.state_number.result

pub put_number-requires : goal.put_number-requires
put_number-requires c =
    number-room c.args.wide (to_member c.args.m) c.requires c.put_address-state.ensures c.state_number.result c.put_number-number.ensures

pub returns : goal.returns
returns c =
    member-laid c.args.wide (to_member c.args.m) c.requires c.put_address-state.ensures c.state_number.result c.put_number-number.ensures
    c.state_number.ensures c.put_number.ensures
