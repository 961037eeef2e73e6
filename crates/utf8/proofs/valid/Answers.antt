-- `utf8::valid` meets its contract: the bytes passed and the bytes left come to the whole.
-- Assumes nothing.
use Prim.Native.Nat.{◌-◌}
use lib.ListN.{length}
use borrow.Author.Rules.{rules}
use Rattle.utf8.proofs.Testing.{Going, going_none, going_end, going_wrong, going_more}
use Rattle.utf8.proofs.valid.Goals as goal

pub loop-i-init : goal.loop-i-init
loop-i-init c = going_none _

pub returns-then-l-eq4 : goal.returns-then-l-eq4
returns-then-l-eq4 c = going_wrong _ _ _ c.loop-i.invariant (search rules) _ c.after-l.ensures (search rules)

pub loop-i-preserved : goal.loop-i-preserved
loop-i-preserved c = going_more _ _ _ c.loop-i.invariant (search rules) _ c.after-l.ensures (search rules)

pub returns : goal.returns
returns c = going_end _ _ _ c.loop-i.invariant (search rules)
