-- `heap::Heap::sink_top` meets its contract: what the sinking gives is the packed heap.
-- Assumes nothing.
use borrow.Author.Rules.{rules}
use Rattle.heap.proofs.Padding.{packed-sink_top}
use Rattle.heap.proofs.Heap.sink_top.Goals as goal

pub returns : goal.returns
returns c =
    packed-sink_top c.args.self c.requires.0 c.args.e c.sink-down.result c.requires.1 c.sink-down.ensures
