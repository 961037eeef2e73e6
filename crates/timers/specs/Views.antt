-- How the row of timers carries the model's list of timers.
-- Assumes nothing.
use Rattle.std.specs.Prelude.{ℕ, Bool, List, map, length}
use Rattle.std.proofs.Math.Option.{Option, none, some}
use Rattle.address.specs.Here.{Addr, here}
use Rattle.model.specs.Words as W
use Rattle.model.specs.Node.{Row}
use Rattle.model.specs.Sound.{is_no_timer}
use Rattle.laws.specs.Packing.{PackedRow, view_row, pack_row}
use Rattle.timers.specs.declared.Timer.{Timer}
use Rattle.timers.specs.declared.Timers.{Timers}
use Rattle.timers.specs.declared.Ending.{Ending}
use Rattle.timers.specs.declared.Ending.TheVariants.{Nothing, At}

abbrev pub to_timer : Timer → W.Timer Addr
to_timer t = record { addr = t.addr; number = t.number; since = t.since }

abbrev pub from_timer : W.Timer Addr → Timer
from_timer t = record { addr = t.addr; number = t.number; since = t.since }

-- an unused place
abbrev pub no_timer : Timer
no_timer = record { addr = here.blank; number = 0; since = 0 }

abbrev pub timers_view : Timers → List (W.Timer Addr)
timers_view t = view_row to_timer from_timer t.entries t.len

abbrev pub pack_timers : List (W.Timer Addr) → Timers
pack_timers l = record { entries = pack_row to_timer from_timer 16 no_timer l; len = length l }

abbrev pub Packed : Timers → Type 0
Packed t = PackedRow 16 no_timer t.entries t.len

-- the whole row, for the test of soundness
abbrev pub row_view : Timers → Row (W.Timer Addr)
row_view t = record { places = map to_timer t.entries; used = t.len }

-- the two tests of a place, and the answer of the search
abbrev pub has_range : Timer → Bool
has_range t = here.valid t.addr

abbrev pub is_empty_place : Timer → Bool
is_empty_place t = is_no_timer here (to_timer t)

abbrev pub ending_of : Option ℕ → Ending
ending_of none = Nothing
ending_of (some i) = At i
