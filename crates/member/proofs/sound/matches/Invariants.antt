-- `member::sound::matches` meets its contract: each of the first i was found in the order, and its place is marked.
-- Assumes nothing.
use mathlib.Core.Path.{◌≡◌, refl, ap, sym, ◌∙◌, subst}
use mathlib.Core.Bool.{Bool, true, false, ◌&&◌}
use mathlib.Core.List.{List}
use Prim.Native.Nat.{ℕ, ◌+◌, ◌-◌, ◌%◌, ◌≤◌, ◌<◌}
use native.Mathlib.Omega.{arith}
use lib.Dec.{ltb}
use lib.ListN.{length, get_or, set, take, length-set, get_or-replicate}
use lib.Seq.{length-take-le, get_or-take}
use mathlib.Core.Logic.{⊎_elim}
use borrow.Author.Tests.{not-false, ltb-true}
use Rattle.laws.specs.Bools.{and_split}
use Rattle.address.specs.Here.{Addr, here, here_lawful, here_drawer}
use Rattle.laws_list.specs.Places.{place_of}
use Rattle.laws_list.specs.Checks.{Marked, mark-start, mark_absent, mark_again, mark-next, mark_end}
use Rattle.member.specs.Drawers.{Firsts, first_found}
use borrow.Author.Rules.{rules}
use Rattle.member.proofs.sound.matches.Given as goal

pub record Found (row order : List Addr) (n : ℕ) (marks : List Bool) (i : ℕ) : Type 0 where
  pub few : i ≤ n
  pub long : length marks ≡ 64
  pub marked : Marked here.same here_lawful.test (take n order) (take n row) marks i

abbrev pub invariant-loop-i : goal.invariant-loop-i
invariant-loop-i l = Found l.row l.order l.n l.marks l.i

abbrev pub decreases-loop-i : goal.decreases-loop-i
decreases-loop-i l = l.n - l.i
