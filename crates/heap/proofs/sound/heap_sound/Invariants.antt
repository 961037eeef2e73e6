-- `heap::sound::heap_sound` meets its contract: the first i places pass.
-- Assumes nothing.
use mathlib.Core.Path.{◌≡◌, refl, ◌∙◌}
use mathlib.Core.Bool.{true}
use Prim.Native.Nat.{◌≤◌, ◌-◌}
use lib.ListN.{length, length-map}
use borrow.Author.Rules.{rules}
use borrow.Author.Tests.{not-true, not-false, lt-leb}
use Rattle.model.specs.Heap.{all_below}
use Rattle.model.specs.Sound.{sound_heap}
use Rattle.laws_heap.specs.HeapTests.{all_more, all_less}
use Rattle.heap.specs.Views.{to_entry}
use Rattle.heap.proofs.Testing.{row_over, place, at_place, place_fails, all_pass}
use Rattle.heap.proofs.sound.heap_sound.Given as goal

abbrev pub invariant-loop-i : goal.invariant-loop-i
invariant-loop-i l = (l.i ≤ 128) × (length l.es ≡ 128) × (all_below (place l.kind (row_over l.len l.es)) l.i ≡ true)

abbrev pub decreases-loop-i : goal.decreases-loop-i
decreases-loop-i l = 128 - l.i
