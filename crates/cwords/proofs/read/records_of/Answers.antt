-- `cwords::read::records_of` meets its contract: a place a turn, to the end of the shorter row.
-- Assumes nothing.
use mathlib.Core.Path.{refl}
use borrow.Author.Rules.{rules}
use Rattle.types.specs.Views.{no_gossip}
use Rattle.cwords.proofs.Filling.{filled_none, filled_next, padded}
use Rattle.cwords.proofs.read.records_of.Goals as goal

pub loop-i-init : goal.loop-i-init
loop-i-init c = (search rules, refl, filled_none)

pub returns-then-rows-i : goal.returns-then-rows-i
returns-then-rows-i c = let h = c.loop-i.invariant in padded h.2 no_gossip h.1 h.0 (search rules)

pub loop-i-preserved : goal.loop-i-preserved
loop-i-preserved c = let h = c.loop-i.invariant in (search rules, h.1, filled_next h.2 _ (search rules) (search rules) (search rules) c.gossip_of.ensures)

pub returns : goal.returns
returns c = let h = c.loop-i.invariant in padded h.2 no_gossip h.1 h.0 (search rules)
