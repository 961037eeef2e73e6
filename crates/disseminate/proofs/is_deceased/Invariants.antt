-- `disseminate::is_deceased` meets its contract: what is left of the row gives the same answer.
-- Assumes nothing.
use mathlib.Core.Path.{◌≡◌, refl, sym, ◌∙◌}
use mathlib.Core.List.{map}
use Prim.Native.Nat.{◌≤◌, ◌-◌}
use native.Mathlib.Omega.{arith}
use lib.ListN.{length, take, drop}
use Rattle.address.specs.Here.{here}
use Rattle.model.specs.Choose.{death}
use Rattle.heap.specs.Views.{to_entry, packed-length}
use Rattle.disseminate.proofs.Dying.{found, onward, nowhere}
use borrow.Author.Rules.{rules}
use Rattle.disseminate.proofs.is_deceased.Given as goal

abbrev pub invariant-loop-i : goal.invariant-loop-i
invariant-loop-i l =
    (l.len ≤ 128) × (l.len ≤ length l.es) × (death here l.a (map to_entry (take l.len l.es)) ≡ death here l.a (map to_entry (drop l.i (take l.len l.es))))

abbrev pub decreases-loop-i : goal.decreases-loop-i
decreases-loop-i l = l.len - l.i
