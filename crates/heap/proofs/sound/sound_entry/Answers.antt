-- `heap::sound::sound_entry` meets its contract: each test says its part.
-- Assumes nothing.
use borrow.Author.Rules.{rules}
use Rattle.heap.proofs.Testing.{entry-by_parts}
use Rattle.heap.proofs.sound.sound_entry.Goals as goal

pub returns : goal.returns
returns c =
    let a = c.args in
    rw (c.both-3.ensures, c.both-2.ensures, c.both.ensures, c.both-valid.ensures, c.in_range-2.ensures, c.in_range.ensures, c.size_over-size.ensures.0, c.text_len-subject.ensures.0, c.text_len-from.ensures.0, c.of_kind-held.ensures)
    (entry-by_parts a.kind a.e _ c.parts_of-p.ensures)
