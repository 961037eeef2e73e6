-- DEMAND 3. Of every history from the node that creation or a restart gave (a fresh wait record at any tick, and whichever the host lends later) and of
-- every address, of any type of address: who is listed, and in which order. The replay starts at the inputs of creation or of the restart.
-- Assumes nothing.
use Rattle.std.specs.Prelude.{List, ℕ}
use Rattle.std.proofs.Common.{arith}
use Rattle.model.specs.Words.{Address, Lawful}
use Rattle.model.specs.Node.{Stored}
use Rattle.history.specs.Beginnings.{Beginning, Gave}
use Rattle.history.specs.Ledger.{Tally, tally, begun}
use Rattle.history.specs.Histories.{World, Call, run, trace, start}

module _ {A : Type 0} (address : Address A) (lawful : Lawful address) (b : Beginning A) (tick : ℕ) (node : Stored A) (gave : Gave address b node) (h : List (Call A)) (a : A) where
  abbrev pub last : World A
  last = run address h (start address b tick)

  abbrev pub ledger : Tally
  ledger = tally address a (trace address h (start address b tick)) (begun address a b)
