-- The removals are the departures of 01's ledger, one for one: of every address there are as many of either, after every history.
-- Assumes nothing.
use Rattle.std.specs.Prelude.{List, [], ℕ}
use Rattle.std.proofs.Common.{arith}
use Rattle.model.specs.Rows.{occurs}
use Rattle.model.specs.Words.{Address, Lawful, Departed}
use Rattle.model.specs.Departed.{gone}

module _ {A : Type 0} (address : Address A) (lawful : Lawful address) (a : A) where
  -- so often an address stands among removals
  abbrev pub times : List (Departed A) → ℕ
  times l = occurs address.same a (gone l)
