-- `heap::sound::heap_sound` meets its contract: the first i places pass.
-- Assumes nothing.
use mathlib.Core.Path.{◌≡◌, refl, ◌∙◌}
use mathlib.Core.Bool.{true}
use Prim.Native.Nat.{◌≤◌, ◌-◌}
use lib.ListN.{length, length-map}
use borrow.Author.Rules.{rules}
use borrow.Author.Tests.{not-true, not-false, lt-leb}
use Rattle.model.specs.Heap.{all_below}
use Rattle.model.specs.Sound.{sound_heap}
use Rattle.laws_heap.specs.HeapTests.{all_more, all_less}
use Rattle.heap.specs.Views.{to_entry}
use Rattle.heap.proofs.Testing.{row_over, place, at_place, place_fails, all_pass}
use Rattle.heap.proofs.sound.heap_sound.Goals as goal

pub returns-then-len-gt-CAPACITY : goal.returns-then-len-gt-CAPACITY
unfolding sound_heap
returns-then-len-gt-CAPACITY c = rw (lt-leb c.args.h.len 128 c.if-len-gt-CAPACITY.true)

pub loop-i-init : goal.loop-i-init
unfolding all_below
loop-i-init c = (search rules, c.has_entries.ensures, refl)

pub place_sound-requires : goal.place_sound-requires
place_sound-requires c = rw c.of-known.ensures

pub returns-then-not-place_sound : goal.returns-then-not-place_sound
returns-then-not-place_sound c =
    let h = c.args.h in
    let kind = c.args.kind in
    let long : length (row_over h.len h.entries).places ≡ 128 = length-map h.entries to_entry ∙ c.loop-i.invariant.1 in
    place_fails kind (row_over h.len h.entries) c.if-len-gt-CAPACITY.false long c.loop-i.i (search rules)
    (at_place kind h.len h.entries c.loop-i.i _ _ c.above.ensures.0 c.place_sound.ensures ∙ c.if-not-place_sound.true)

pub loop-i-preserved : goal.loop-i-preserved
loop-i-preserved c =
    let h = c.args.h in
    let kind = c.args.kind in (
      search rules,
      c.loop-i.invariant.1,
      all_more (place kind (row_over h.len h.entries)) c.loop-i.i c.loop-i.invariant.2
          (at_place kind h.len h.entries c.loop-i.i _ _ c.above.ensures.0 c.place_sound.ensures ∙ c.if-not-place_sound.false),
    )

pub returns : goal.returns
returns c =
    let h = c.args.h in
    let kind = c.args.kind in
    let long : length (row_over h.len h.entries).places ≡ 128 = length-map h.entries to_entry ∙ c.loop-i.invariant.1 in
    all_pass kind (row_over h.len h.entries) c.if-len-gt-CAPACITY.false long
    (all_less (place kind (row_over h.len h.entries)) c.loop-i.i 128 (search rules) c.loop-i.invariant.2)
