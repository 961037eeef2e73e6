-- `departed::sound::all_in_range` meets its contract: each of the first i has passed.
-- Assumes nothing.
use mathlib.Core.Path.{◌≡◌}
use Prim.Native.Nat.{◌-◌}
use native.Mathlib.Omega.{arith}
use lib.ListN.{length, take}
use Rattle.model.specs.Rows.{every}
use Rattle.laws.specs.Loops.{Tested, test_first, test_fails, test_next, test_ends}
use Rattle.departed.specs.Views.{no_departed, has_range}
use borrow.Author.Rules.{rules}
use mathlib.Core.Path.{ap}
use mathlib.Core.Bool.{not}
use Rattle.departed.proofs.sound.all_in_range.Goals as goal

pub loop-i-init : goal.loop-i-init
loop-i-init c =
    let long : length c.args.entries ≡ 128 = search rules in
    test_first has_range c.args.entries c.args.n (omega arith)

pub returns-then-not-in_range : goal.returns-then-not-in_range
returns-then-not-in_range c = let l = c.loop-i in test_fails no_departed l.invariant _ (omega arith) c.in_range.ensures (ap not c.if-not-in_range.true)

pub loop-i-preserved : goal.loop-i-preserved
loop-i-preserved c = let l = c.loop-i in test_next no_departed l.invariant _ (omega arith) c.in_range.ensures (ap not c.if-not-in_range.false)

pub returns : goal.returns
returns c = test_ends no_departed c.loop-i.invariant (omega arith)
