-- `disseminate::collect::rebuild` meets its contract: what is left of the row goes into the heap of what was kept.
-- Assumes nothing.
use mathlib.Core.Path.{◌≡◌, refl, sym, ◌∙◌, ap}
use mathlib.Core.Bool.{not}
use mathlib.Core.List.{[]}
use Prim.Native.Nat.{◌-◌, ◌≤◌}
use native.Mathlib.Omega.{arith}
use lib.ListN.{length}
use Rattle.address.specs.Here.{here}
use Rattle.model.specs.Rows.{those}
use Rattle.model.specs.Words.{unused, sends_of}
use Rattle.model.specs.Heap.{push_all}
use Rattle.model.specs.Collect.{is_old}
use Rattle.types.specs.Views.{to_parts}
use Rattle.heap.specs.Views.{pack_heap, packed-length, pack_view}
use Rattle.disseminate.proofs.Sifting.{rest_from, Sifted, sift_starts, sift_next, sift_ends}
use borrow.Author.Rules.{rules}
use Rattle.disseminate.proofs.collect.rebuild.Goals as goal

pub loop-i-init : goal.loop-i-init
loop-i-init c =
    let h = c.args.h in (
      c.requires.few,
      omega (arith, packed-length h c.requires, c.requires.few),
      omega arith,
      sift_starts (is_old here c.args.kind (to_parts c.args.news)) h.len h.entries _ c.new-kept.result c.new-kept.ensures refl,
    )

pub keep-kept-requires : goal.keep-kept-requires
keep-kept-requires c = let v = c.loop-i.invariant in (v.3.packed, omega (arith, v.3.fewer, v.0, c.loop-i-test.true))

pub loop-i-preserved : goal.loop-i-preserved
loop-i-preserved c =
    let a = c.args in
    let v = c.loop-i.invariant in (
      v.0,
      v.1,
      search rules,
      sift_next (is_old here a.kind (to_parts a.news)) a.h.len a.h.entries _ v.1 v.0 c.loop-i.kept c.loop-i.i v.3 c.is_old.result c.keep-kept.result (search rules) c.is_old.ensures c.keep-kept.ensures,
    )

pub returns : goal.returns
returns c =
    let a = c.args in
    let v = c.loop-i.invariant in
    sym (pack_view c.loop-i.kept v.3.packed)
    ∙ ap pack_heap (sift_ends (is_old here a.kind (to_parts a.news)) a.h.len a.h.entries _ v.1 v.0 c.loop-i.kept c.loop-i.i v.3 c.loop-i-test.false)
