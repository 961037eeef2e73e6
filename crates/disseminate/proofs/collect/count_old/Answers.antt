-- `disseminate::collect::count_old` meets its contract: what is counted and what is left make up the count.
-- Assumes nothing.
use mathlib.Core.Path.{◌≡◌, refl}
use Prim.Native.Nat.{◌+◌, ◌-◌, ◌≤◌}
use native.Mathlib.Omega.{arith}
use lib.ListN.{length}
use Rattle.address.specs.Here.{here}
use Rattle.model.specs.Rows.{count}
use Rattle.model.specs.Collect.{is_old}
use Rattle.types.specs.Views.{to_parts}
use Rattle.heap.specs.Views.{packed-length}
use Rattle.disseminate.proofs.Sifting.{one-most, rest_from, count_next, count-ends}
use borrow.Author.Rules.{rules}
use Rattle.disseminate.proofs.collect.count_old.Goals as goal

pub loop-i-init : goal.loop-i-init
loop-i-init c =
    let h = c.args.h in
    (c.requires.few, omega (arith, packed-length h c.requires, c.requires.few), omega arith, omega arith, omega arith)

pub plus-count-requires : goal.plus-count-requires
plus-count-requires c = let v = c.loop-i.invariant in omega (arith, v.0, v.2, v.3)

pub loop-i-preserved : goal.loop-i-preserved
loop-i-preserved c =
    let a = c.args in
    let old = is_old here a.kind (to_parts a.news) in
    let v = c.loop-i.invariant in (
      v.0,
      v.1,
      search rules,
      omega (arith, c.plus-count.ensures, one-most c.is_old.result, v.3),
      count_next a.h.len a.h.entries v.1 c.loop-i.i old _ c.loop-i.count v.4 c.is_old.result c.plus-count.result (search rules) c.is_old.ensures c.plus-count.ensures,
    )

pub returns : goal.returns
returns c =
    let a = c.args in
    let v = c.loop-i.invariant in
    count-ends a.h.len a.h.entries v.1 c.loop-i.i (is_old here a.kind (to_parts a.news)) _ c.loop-i.count v.4 c.loop-i-test.false
