-- `heap::sound::place_sound` meets its contract: a used place by its entry and its order, any other by its zeros.
-- Assumes nothing.
use borrow.Author.Rules.{rules}
use Rattle.heap.proofs.sound.place_sound.Goals as goal

pub returns-then-used : goal.returns-then-used
returns-then-used c =
    rw (c.both.ensures, c.sound_entry-sound.ensures, c.if-used.true)

pub returns : goal.returns
returns c = rw (c.is_unused.ensures, c.if-used.false)
