-- `events::write_text` meets its contract: the key, the count, the text.
-- Assumes nothing.
use mathlib.Core.Path.{refl}
use Rattle.events.proofs.Laying.{key_room, count_room, text-room, text-laid}
use borrow.Author.Rules.{rules}
use Rattle.events.proofs.write_text.Goals as goal

pub write-count-requires : goal.write-count-requires
write-count-requires c =
    let a = c.args in
    key_room a.field a.a _ refl c.requires.1

pub write-start-requires : goal.write-start-requires
write-start-requires c =
    let a = c.args in
    count_room a.field a.a _ c.text_len.ensures.0 c.requires.1 c.write-count.ensures

pub write-requires : goal.write-requires
write-requires c =
    let a = c.args in
    text-room a.field a.a _ c.text_len.ensures.0 c.requires.1 c.write-count.ensures c.write-start.ensures

pub returns : goal.returns
returns c =
    let a = c.args in
    text-laid a.field a.a _ c.text_len.ensures.0 c.requires.1 c.write-count.ensures c.write-start.ensures c.write.ensures
