-- `member::Members::get_member_list` meets its contract: the order is probed, the table stands aside.
-- Assumes nothing.
use Rattle.member.proofs.Probing.{order_ready, picked_is}
use Rattle.member.proofs.Members.get_member_list.Goals as goal

pub pick-picked-requires : goal.pick-picked-requires
pick-picked-requires c =
    (order_ready c.args.self c.requires.0, c.requires.2, c.requires.3)

pub returns : goal.returns
returns c =
    let a = c.args in
    picked_is a.self c.requires.0 a.own c.requires.1 a.exclusion a.wanted a.draws.now a.from c.pick-picked.result c.pick-picked.ensures.value
