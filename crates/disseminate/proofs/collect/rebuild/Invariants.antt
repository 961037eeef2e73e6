-- `disseminate::collect::rebuild` meets its contract: what is left of the row goes into the heap of what was kept.
-- Assumes nothing.
use mathlib.Core.Path.{◌≡◌, refl, sym, ◌∙◌, ap}
use mathlib.Core.Bool.{not}
use mathlib.Core.List.{[]}
use Prim.Native.Nat.{◌-◌, ◌≤◌}
use native.Mathlib.Omega.{arith}
use lib.ListN.{length}
use Rattle.address.specs.Here.{here}
use Rattle.model.specs.Rows.{those}
use Rattle.model.specs.Words.{unused, sends_of}
use Rattle.model.specs.Heap.{push_all}
use Rattle.model.specs.Collect.{is_old}
use Rattle.types.specs.Views.{to_parts}
use Rattle.heap.specs.Views.{pack_heap, packed-length, pack_view}
use Rattle.disseminate.proofs.Sifting.{rest_from, Sifted, sift_starts, sift_next, sift_ends}
use borrow.Author.Rules.{rules}
use Rattle.disseminate.proofs.collect.rebuild.Given as goal

abbrev pub invariant-loop-i : goal.invariant-loop-i
invariant-loop-i l =
    let old = is_old here l.kind (to_parts l.news) in
    (l.len ≤ 128) × (l.len ≤ length l.es) × (l.i ≤ l.len) × Sifted old l.len l.es (push_all unused sends_of [] (those (λ e. not (old e)) (rest_from l.len l.es 0))) l.kept l.i

abbrev pub decreases-loop-i : goal.decreases-loop-i
decreases-loop-i l = l.len - l.i
