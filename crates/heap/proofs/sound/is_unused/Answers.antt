-- `heap::sound::is_unused` meets its contract: each test says its part.
-- Assumes nothing.
use borrow.Author.Rules.{rules}
use Rattle.heap.proofs.Testing.{unused-by_parts}
use Rattle.heap.proofs.sound.is_unused.Goals as goal

pub returns : goal.returns
returns c =
    rw (c.both-2.ensures, c.both.ensures) (unused-by_parts c.args.e _ c.parts_of-p.ensures)
