-- How the row of the departed carries the model's list of them.
-- Assumes nothing.
use Rattle.std.specs.Prelude.{Bool, List, map, ℕ, length}
use Rattle.address.specs.Here.{Addr, here}
use Rattle.model.specs.Words as W
use Rattle.model.specs.Node.{Row}
use Rattle.model.specs.Sound.{is_no_departed}
use Rattle.laws.specs.Packing.{PackedRow, view_row, pack_row}
use Rattle.disseminate.specs.declared.Found.{Found}
use Rattle.disseminate.specs.declared.Found.TheVariants.{Missing, At}
use Rattle.departed.specs.declared.Departed.{Departed}
use Rattle.departed.specs.declared.DepartedRow.{DepartedRow}

abbrev pub to_departed : Departed → W.Departed Addr
to_departed d = record { addr = d.addr; number = d.number }

abbrev pub from_departed : W.Departed Addr → Departed
from_departed d = record { addr = d.addr; number = d.number }

-- an unused place
abbrev pub no_departed : Departed
no_departed = record { addr = here.blank; number = 0 }

abbrev pub addr_of : Departed → Addr
addr_of d = d.addr

abbrev pub departed_view : DepartedRow → List (W.Departed Addr)
departed_view r = view_row to_departed from_departed r.entries r.len

abbrev pub pack_departed : List (W.Departed Addr) → DepartedRow
pack_departed l = record { entries = pack_row to_departed from_departed 128 no_departed l; len = length l }

abbrev pub Packed : DepartedRow → Type 0
Packed r = PackedRow 128 no_departed r.entries r.len

-- the whole row, for the test of soundness
abbrev pub row_view : DepartedRow → Row (W.Departed Addr)
row_view r = record { places = map to_departed r.entries; used = r.len }

-- the two tests of a place
abbrev pub has_range : Departed → Bool
has_range d = here.valid d.addr

abbrev pub is_empty_place : Departed → Bool
is_empty_place d = is_no_departed here (to_departed d)

-- what was found first, else what was found second
abbrev pub either_found : Found → Found → Found
either_found (At n) second = At n
either_found Missing second = second
