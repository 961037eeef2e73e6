-- `departed::DepartedRow::look_up` meets its contract: what stands at the place of the address.
-- Assumes nothing.
use mathlib.Core.Path.{ap, sym}
use borrow.Author.Rules.{rules}
use Rattle.disseminate.specs.Views.{from_found}
use Rattle.departed.proofs.Remembering.{look_found, look_lost}
use Rattle.departed.proofs.DepartedRow.look_up.Goals as goal

pub returns-then-place-n : goal.returns-then-place-n
returns-then-place-n c =
    sym (ap from_found (look_found c.args.self c.requires c.args.a _ c.find_place-place.ensures.value c.if-place-n.true))

pub returns : goal.returns
returns c =
    sym (ap from_found (look_lost c.args.self c.requires c.args.a _ c.find_place-place.ensures.value c.if-place-n.false))
