-- `member::sound::table_ends` meets its contract: each place from n to i has passed.
-- Assumes nothing.
use mathlib.Core.Path.{◌≡◌, ap, sym, ◌∙◌, subst}
use mathlib.Core.Bool.{Bool}
use mathlib.Core.List.{map}
use Prim.Native.Nat.{◌-◌}
use native.Mathlib.Omega.{arith}
use lib.ListN.{length, drop}
use Rattle.address.specs.Here.{here}
use Rattle.model.specs.Rows.{every}
use Rattle.model.specs.Sound.{is_no_member}
use Rattle.laws.specs.Bools.{every_map, drop-map}
use Rattle.laws.specs.Loops.{Tested, test_from, test_fails, test_next, test_ends}
use Rattle.member.specs.declared.Member.{Member}
use Rattle.member.specs.Views.{to_member, nobody}
use borrow.Author.Rules.{rules}
use Rattle.member.proofs.sound.table_ends.Given as goal

abbrev pub unused : Member → Bool
unused m = is_no_member here (to_member m)

abbrev pub invariant-loop-i : goal.invariant-loop-i
invariant-loop-i l = Tested unused l.table 64 (every (is_no_member here) (drop l.n (map to_member l.table))) l.i

abbrev pub decreases-loop-i : goal.decreases-loop-i
decreases-loop-i l = 64 - l.i
