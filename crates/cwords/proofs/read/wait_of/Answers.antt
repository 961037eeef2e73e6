-- `cwords::read::wait_of` meets its contract.
-- Assumes nothing.
use mathlib.Core.Path.{◌≡◌}
use native.Mathlib.Omega.{arith}
use borrow.Author.Tests.{lt-ltb, le-ltb}
use Prim.Native.Nat.{◌%◌}
use lib.ListN.{get_or}
use Rattle.cwords.specs.Reading.{wait_of}
use Rattle.cwords.proofs.read.wait_of.Goals as goal

pub returns-then-since-lt-END_32 : goal.returns-then-since-lt-END_32
unfolding wait_of
returns-then-since-lt-END_32 c =
    let w = c.args.w in
    let e : get_or w 5 0 % 4294967296 ≡ get_or w 5 0 = omega (arith, c.if-since-lt-END_32.true) in
    rw (lt-ltb _ _ c.if-since-lt-END_32.true, c.state_of.ensures, e, c.address_of-target.ensures)

pub returns : goal.returns
unfolding wait_of
returns c = rw (le-ltb _ _ c.if-since-lt-END_32.false, c.nowhere.ensures)
