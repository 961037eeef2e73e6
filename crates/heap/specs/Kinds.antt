-- A heap as the model's row, and which kind it is of.
-- Assumes nothing.
use Rattle.std.specs.Prelude.{map}
use Rattle.address.specs.Here.{Addr}
use Rattle.model.specs.Words as W
use Rattle.model.specs.Node.{Row}
use Rattle.heap.specs.declared.Heap.{Heap}
use Rattle.heap.specs.Views.{to_entry}

abbrev pub row_view : Heap → Row (W.Entry Addr)
row_view h = record { places = map to_entry h.entries; used = h.len }
