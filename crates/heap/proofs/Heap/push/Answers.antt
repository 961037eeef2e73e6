-- `heap::Heap::push` meets its contract: what the climb gives is the packed heap.
-- Assumes nothing.
use borrow.Author.Rules.{rules}
use Rattle.heap.proofs.Padding.{packed-push}
use Rattle.heap.proofs.Heap.push.Goals as goal

pub returns : goal.returns
returns c =
    packed-push c.args.self c.requires.0 c.args.e c.climb-up.result c.requires.1 c.climb-up.ensures
