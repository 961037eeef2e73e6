-- `heap::Heap::new` meets its contract: each place holds what `Entry::empty` gives.
-- Assumes nothing.
use mathlib.Core.Path.{ap}
use borrow.Author.Rules.{rules}
use lib.ListN.{replicate}
use Rattle.heap.specs.declared.Entry.{Entry}
use Rattle.heap.specs.declared.Heap.{Heap}
use Rattle.heap.proofs.Heap.new.Goals as goal

abbrev filled : Entry → Heap
filled e = record { entries = replicate 128 e; len = 0 }

pub returns : goal.returns
returns c = ap filled c.empty-e.ensures
