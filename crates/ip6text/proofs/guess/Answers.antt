-- `ip6text::guess` meets its contract.
-- Assumes nothing.
use Prim.Native.Nat.{◌-◌}
use lib.ListN.{length}
use Rattle.ip6text.specs.Parsing.{Going, going_none, going_more, going_end}
use borrow.Author.Rules.{rules}
use native.Mathlib.Omega.{arith}
use mathlib.Core.Path.{◌≡◌, refl, ap, sym, ◌∙◌}
use Rattle.ip6text.proofs.guess.Goals as goal

pub loop-i-init : goal.loop-i-init
loop-i-init c = going_none _

pub loop-i-preserved : goal.loop-i-preserved
loop-i-preserved c = going_more _ _ _ _ c.loop-i.invariant (search rules) c.next-s.ensures

pub returns : goal.returns
returns c = going_end _ _ _ c.loop-i.invariant (search rules)
