-- `departed::DepartedRow::new` meets its contract: each place holds what `Departed::empty` gives.
-- Assumes nothing.
use mathlib.Core.Path.{ap}
use borrow.Author.Rules.{rules}
use lib.ListN.{replicate}
use Rattle.departed.specs.declared.Departed.{Departed}
use Rattle.departed.specs.declared.DepartedRow.{DepartedRow}
use Rattle.departed.proofs.DepartedRow.new.Goals as goal

abbrev filled : Departed → DepartedRow
filled t = record { entries = replicate 128 t; len = 0 }

pub returns : goal.returns
returns c = ap filled c.empty-d.ensures
