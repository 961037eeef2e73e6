-- `disseminate::choose` meets its contract: what is left of the rounds leads to the model's choice.
-- Assumes nothing.
-- the locals of the loop, as one choice
use mathlib.Core.Path.{◌≡◌, sym, ◌∙◌}
use Prim.Native.Nat.{ℕ, ◌≤◌}
use native.Mathlib.Omega.{arith}
use Rattle.address.specs.Here.{here}
use Rattle.model.specs.Choose.{choose}
use Rattle.heap.specs.declared.Heap.{Heap}
use Rattle.heap.specs.Views.{heap_view}
use Rattle.disseminate.specs.declared.Chosen.{Chosen}
use Rattle.disseminate.specs.declared.Choice.{Choice}
use Rattle.disseminate.specs.Views.{to_terms}
use Rattle.disseminate.proofs.Stepping.{open_alive, counts_fit, may_note, may_spend}
use Rattle.disseminate.proofs.Choosing.{Going, begins, over_is, ends-out, ends-over, opens, round_stops, round_goes_on}
use borrow.Author.Rules.{rules}
use Rattle.disseminate.proofs.choose.Given as goal

abbrev pub choice : Heap → Heap → Chosen → ℕ → ℕ → Choice
choice a d n living dead = record { alive = a; deceased = d; chosen = n; from_alive = living; from_deceased = dead }

abbrev pub invariant-loop-left : goal.invariant-loop-left
invariant-loop-left l =
    (l.left ≤ 64) × Going l.t (choose here (to_terms l.t) (heap_view l.initial.a) (heap_view l.initial.d)) (choice l.a l.d l.n l.from_alive l.from_deceased) l.left

abbrev pub decreases-loop-left : goal.decreases-loop-left
decreases-loop-left l = l.left
