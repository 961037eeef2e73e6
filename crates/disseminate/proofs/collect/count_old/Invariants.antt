-- `disseminate::collect::count_old` meets its contract: what is counted and what is left make up the count.
-- Assumes nothing.
use mathlib.Core.Path.{◌≡◌, refl}
use Prim.Native.Nat.{◌+◌, ◌-◌, ◌≤◌}
use native.Mathlib.Omega.{arith}
use lib.ListN.{length}
use Rattle.address.specs.Here.{here}
use Rattle.model.specs.Rows.{count}
use Rattle.model.specs.Collect.{is_old}
use Rattle.types.specs.Views.{to_parts}
use Rattle.heap.specs.Views.{packed-length}
use Rattle.disseminate.proofs.Sifting.{one-most, rest_from, count_next, count-ends}
use borrow.Author.Rules.{rules}
use Rattle.disseminate.proofs.collect.count_old.Given as goal

abbrev pub invariant-loop-i : goal.invariant-loop-i
invariant-loop-i l =
    let old = is_old here l.kind (to_parts l.news) in
    (l.len ≤ 128) × (l.len ≤ length l.es) × (l.i ≤ l.len) × (l.count ≤ l.i) × (l.count + count old (rest_from l.len l.es l.i) ≡ count old (rest_from l.len l.es 0))

abbrev pub decreases-loop-i : goal.decreases-loop-i
decreases-loop-i l = l.len - l.i
