-- `cwords::read::timer_of` meets its contract.
-- Assumes nothing.
use mathlib.Core.Path.{◌≡◌}
use native.Mathlib.Omega.{arith}
use borrow.Author.Tests.{lt-ltb, le-ltb}
use Prim.Native.Nat.{◌%◌}
use lib.ListN.{get_or}
use Rattle.cwords.specs.Reading.{timer_of, timer_as}
use Rattle.cwords.proofs.read.timer_of.Goals as goal

pub returns-then-since-lt-END_32 : goal.returns-then-since-lt-END_32
unfolding timer_of timer_as
returns-then-since-lt-END_32 c =
    let w = c.args.w in
    let e : get_or w 4 0 % 4294967296 ≡ get_or w 4 0 = omega (arith, c.if-since-lt-END_32.true) in
    rw (lt-ltb _ _ c.if-since-lt-END_32.true, e, c.address_of-addr.ensures)

pub returns : goal.returns
unfolding timer_of timer_as
returns c = rw (le-ltb _ _ c.if-since-lt-END_32.false, c.nowhere.ensures)
