-- `order::shuffle` meets its contract: what is left to do gives the answer of the whole.
-- Assumes nothing.
use mathlib.Core.Path.{◌≡◌, refl, ap, sym, ◌∙◌}
use mathlib.Core.List.{List}
use Prim.Native.Nat.{ℕ, ◌+◌, ◌-◌, ◌≤◌, ◌<◌, ◌%◌}
use native.Mathlib.Omega.{arith}
use native.Mathlib.Nat.{mod-lt}
use lib.ListN.{length, get_or, take, drop, length-set}
use lib.Seq.{length-take-le}
use Rattle.address.specs.Here.{Addr, here}
use Rattle.model.specs.Rows.{swap}
use Rattle.model.specs.Members.{shuffle_from, shuffle}
use Rattle.order.specs.Views.{shuffled_as}
use Rattle.order.proofs.Turns.{shuffle-turn, shuffle-short, shuffle-over, take-swap, drop-swap, shuffled_done}
use borrow.Author.Rules.{rules}
use Rattle.order.proofs.shuffle.Given as goal

pub record Left (row : List Addr) (n : ℕ) (draws : List ℕ) (from : ℕ) (out : List Addr) (next i : ℕ) : Type 0 where
  pub few : i ≤ n
  pub after : from ≤ next
  pub within : next ≤ length draws
  pub long : length out ≡ 64
  pub rest : drop n out ≡ drop n row
  pub same : shuffle here.blank (take n row) (drop from draws) ≡ shuffle_from here.blank (i - 1) (take n out) (drop next draws)

abbrev pub invariant-loop-i : goal.invariant-loop-i
invariant-loop-i l = Left l.row l.n l.draws l.from l.out l.next l.i

abbrev pub decreases-loop-i : goal.decreases-loop-i
decreases-loop-i l = l.i
