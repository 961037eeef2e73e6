-- What each rule of the handler and the detector does to one address.
-- Assumes nothing.
use Rattle.std.specs.Prelude.{[]}
use Rattle.std.proofs.Common.{arith}
use Rattle.model.specs.Answers.{Answer}
use Rattle.laws.specs.After.{After}
use Rattle.model.specs.Words.{Address, Lawful}
use Rattle.model.specs.Node.{Node, Out}
use Rattle.history.specs.Moments.{Deed}
use Rattle.history.specs.Did.{Did}

module _ {A : Type 0} (address : Address A) (lawful : Lawful address) (a : A) where
  abbrev pub Runs : Node A → Deed A → Answer (Out A) → Type 0
  Runs s d x = After (Did address a s d) x
