-- `departed::sound::all_empty` meets its contract: each place from n to i has passed.
-- Assumes nothing.
use mathlib.Core.Path.{◌≡◌}
use Prim.Native.Nat.{◌-◌}
use native.Mathlib.Omega.{arith}
use lib.ListN.{length, drop}
use Rattle.model.specs.Rows.{every}
use Rattle.laws.specs.Loops.{Tested, test_from, test_fails, test_next, test_ends}
use Rattle.departed.specs.Views.{no_departed, is_empty_place}
use borrow.Author.Rules.{rules}
use mathlib.Core.Path.{ap}
use mathlib.Core.Bool.{not}
use Rattle.departed.proofs.sound.all_empty.Goals as goal

pub loop-i-init : goal.loop-i-init
loop-i-init c =
    let long : length c.args.entries ≡ 128 = search rules in
    test_from is_empty_place c.args.entries 128 c.args.n long (omega arith)

pub returns-then-not-is_empty : goal.returns-then-not-is_empty
returns-then-not-is_empty c = let l = c.loop-i in test_fails no_departed l.invariant _ (omega arith) c.is_empty.ensures (ap not c.if-not-is_empty.true)

pub loop-i-preserved : goal.loop-i-preserved
loop-i-preserved c = let l = c.loop-i in test_next no_departed l.invariant _ (omega arith) c.is_empty.ensures (ap not c.if-not-is_empty.false)

pub returns : goal.returns
returns c = test_ends no_departed c.loop-i.invariant (omega arith)
