-- `ranges::valid_rows` meets its contract: what is left of the records still decides the answer.
-- Assumes nothing.
use mathlib.Core.Path.{◌≡◌, refl, ap, sym, ◌∙◌}
use borrow.Author.Rules.{rules}
use mathlib.Core.Bool.{Bool}
use mathlib.Core.List.{List, map}
use Prim.Native.Nat.{◌-◌, ◌≤◌}
use native.Mathlib.Omega.{arith}
use lib.ListN.{length, take, drop}
use borrow.Author.Tests.{not-true, not-false}
use lib.Seq.{get_or-take, length-take-le}
use Rattle.address.specs.Here.{here}
use Rattle.model.specs.Rows.{every}
use Rattle.model.specs.Sound.{valid_gossip}
use Rattle.laws.specs.Bools.{every_map, loop_fails, loop_next, loop_ends}
use Rattle.types.specs.declared.Gossip.{Gossip}
use Rattle.types.specs.Views.{to_gossip, no_gossip}
use Rattle.ranges.proofs.valid_rows.Given as goal

abbrev pub valid : Gossip → Bool
valid g = valid_gossip here (to_gossip g)

abbrev pub invariant-loop-i : goal.invariant-loop-i
invariant-loop-i l = (l.i ≤ l.given) × (every valid (drop l.i (take l.given l.rows)) ≡ every valid (take l.given l.rows))

abbrev pub decreases-loop-i : goal.decreases-loop-i
decreases-loop-i l = l.given - l.i
