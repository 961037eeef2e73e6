-- `actions::merge` meets its contract: the fields passed and the fields left come to the whole.
-- Assumes nothing.
use mathlib.Core.Path.{◌≡◌, refl, sym, ap, ◌∙◌}
use mathlib.Core.List.{List}
use Prim.Native.Nat.{ℕ, ◌+◌, ◌-◌, ◌≤◌}
use native.Mathlib.Omega.{arith}
use lib.ListN.{length, length-drop, length-set}
use Rattle.varint.specs.Parts.{rest_of}
use Rattle.fields.specs.Walks.{going_none, going_end}
use Rattle.actions.specs.Action.{Acting, Shows, put, action_step}
use Rattle.actions.specs.Stepping.{first_size, first_stop, first_read, shows_turn, Run, given-stopped, given_read}
use borrow.Author.Rules.{rules}
use Rattle.actions.proofs.merge.Given as goal

abbrev pub invariant-loop-at : goal.invariant-loop-at
invariant-loop-at l =
    (l.at ≤ length l.bytes) × (length l.row ≡ 65) × ((b : Acting) → Shows b l.initial.small l.initial.row → Run l.place l.bytes b l.at l.small l.row)

abbrev pub decreases-loop-at : goal.decreases-loop-at
decreases-loop-at l = length l.bytes - l.at
