-- `events::write_number` meets its contract: nothing for 0, else the key and the number.
-- Assumes nothing.
use Rattle.events.proofs.Laying.{number-none, number_key_room, number-room, number-laid}
use borrow.Author.Rules.{rules}
use Rattle.events.proofs.write_number.Goals as goal

pub returns-then-n-eq0 : goal.returns-then-n-eq0
returns-then-n-eq0 c =
    number-none _ _ c.args.field c.args.n (search rules)

pub write-start-requires : goal.write-start-requires
write-start-requires c =
    let a = c.args in
    number_key_room a.field a.n (search rules) c.requires.1

pub write-requires : goal.write-requires
write-requires c =
    let a = c.args in
    number-room a.field a.n (search rules) c.write-start.ensures c.requires.1

pub returns : goal.returns
returns c =
    let a = c.args in
    number-laid a.field a.n (search rules) c.write-start.ensures c.write.ensures
