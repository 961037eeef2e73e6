-- `member::lamps::lamps_of` meets its contract: the first i are counted.
-- Assumes nothing.
use mathlib.Core.Path.{◌≡◌, ap, ◌∙◌}
use mathlib.Core.List.{List, map}
use Prim.Native.Nat.{ℕ, ◌-◌, ◌≤◌}
use native.Mathlib.Omega.{arith}
use lib.ListN.{length, take}
use Rattle.address.specs.Here.{Addr, here}
use Rattle.model.specs.declared.Lamps.{Lamps}
use Rattle.model.specs.Lamps.{lamps_of}
use Rattle.member.specs.declared.Member.{Member}
use Rattle.member.specs.Views.{to_member}
use Rattle.member.proofs.Lighting.{lamps_room, count-start, count_few, count_next}
use borrow.Author.Rules.{rules}
use Rattle.member.proofs.lamps.lamps_of.Given as goal

pub record Counts (own : Addr) (table : List Member) (n : ℕ) (lamps : Lamps) (i : ℕ) : Type 0 where
  pub few : i ≤ n
  pub counted : lamps ≡ lamps_of here.same own (map to_member (take i table))

abbrev pub invariant-loop-i : goal.invariant-loop-i
invariant-loop-i l = Counts l.own l.table l.n l.lamps l.i

abbrev pub decreases-loop-i : goal.decreases-loop-i
decreases-loop-i l = l.n - l.i
