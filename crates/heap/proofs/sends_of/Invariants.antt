-- `heap::sends_of` meets its contract: after i turns the numbers are the sends of the first i places.
-- Assumes nothing.
use mathlib.Core.Path.{◌≡◌}
use lib.ListN.{length}
use Prim.Native.Nat.{◌≤◌, ◌-◌}
use borrow.Author.Rules.{rules}
use Rattle.heap.specs.Views.{sends, no_entry}
use Rattle.heap.specs.Deciding.{nth, Agree}
use Rattle.heap.proofs.Decided.{agree_none, agree_more, agree_less}
use Rattle.heap.proofs.sends_of.Given as goal

abbrev pub invariant-loop-i : goal.invariant-loop-i
invariant-loop-i l = (l.i ≤ l.len) × (length l.ks ≡ 128) × Agree no_entry sends (nth l.ks) l.es l.i

abbrev pub decreases-loop-i : goal.decreases-loop-i
decreases-loop-i l = l.len - l.i
