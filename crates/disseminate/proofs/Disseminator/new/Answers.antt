-- `disseminate::Disseminator::new` meets its contract: both heaps are fresh.
-- Assumes nothing.
use borrow.Author.Rules.{rules}
use Rattle.heap.specs.declared.Heap.{Heap}
use Rattle.disseminate.specs.declared.Disseminator.{Disseminator}
use Rattle.disseminate.proofs.Disseminator.new.Goals as goal

pub returns : goal.returns
returns c = λ i. record { alive = c.new.ensures i; deceased = c.new-2.ensures i }
