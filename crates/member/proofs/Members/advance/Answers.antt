-- `member::Members::advance` meets its contract: the order is advanced, the table stands aside.
-- Assumes nothing.
use Rattle.member.proofs.Probing.{order_ready, advanced_is}
use Rattle.member.proofs.Members.advance.Goals as goal

pub advance-turned-requires : goal.advance-turned-requires
advance-turned-requires c =
    (order_ready c.args.self c.requires.0, c.requires.1, c.requires.2)

pub returns : goal.returns
returns c =
    let a = c.args in
    advanced_is a.self c.requires.0 a.draws.now a.from c.advance-turned.result c.requires.1 c.advance-turned.ensures
