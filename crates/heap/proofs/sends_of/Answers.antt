-- `heap::sends_of` meets its contract: after i turns the numbers are the sends of the first i places.
-- Assumes nothing.
use mathlib.Core.Path.{◌≡◌}
use lib.ListN.{length}
use Prim.Native.Nat.{◌≤◌, ◌-◌}
use borrow.Author.Rules.{rules}
use Rattle.heap.specs.Views.{sends, no_entry}
use Rattle.heap.specs.Deciding.{nth, Agree}
use Rattle.heap.proofs.Decided.{agree_none, agree_more, agree_less}
use Rattle.heap.proofs.sends_of.Goals as goal

pub loop-i-init : goal.loop-i-init
loop-i-init c = (search rules, search rules, agree_none no_entry sends _ _)

pub loop-i-preserved : goal.loop-i-preserved
loop-i-preserved c = (search rules, search rules, agree_more no_entry sends _ c.loop-i.ks c.loop-i.i (search rules) c.loop-i.invariant.2)

pub returns : goal.returns
returns c = agree_less no_entry sends _ _ _ _ c.loop-i-test.false c.loop-i.invariant.2
