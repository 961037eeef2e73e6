-- `departed::find_place` meets its contract: none of the first i places holds the address.
-- Assumes nothing.
-- does a place hold the address?
use mathlib.Core.Path.{◌≡◌, sym, ◌∙◌}
use mathlib.Core.Bool.{Bool}
use Prim.Native.Nat.{◌-◌}
use native.Mathlib.Omega.{arith}
use lib.ListN.{length, take}
use Rattle.address.specs.Here.{Addr, here}
use Rattle.laws.specs.Loops.{Sought, seek-first, seek_found, seek-next, seek-ends, place_map}
use Rattle.departed.specs.declared.Departed.{Departed}
use Rattle.departed.specs.Views.{no_departed, addr_of}
use borrow.Author.Rules.{rules}
use Rattle.departed.proofs.find_place.Invariants.{holds}
use Rattle.departed.proofs.find_place.Goals as goal

pub loop-i-init : goal.loop-i-init
loop-i-init c =
    let long : length c.args.entries ≡ 128 = search rules in
    seek-first (holds c.args.a) c.args.entries c.args.n (omega arith)

pub returns-then-same : goal.returns-then-same
returns-then-same c =
    let a = c.args in
    record { value = seek_found no_departed c.loop-i.invariant _ (omega arith) c.same.ensures c.if-same.true ∙ sym (place_map (here.same a.a) addr_of (take a.n a.entries)); within = omega arith }

pub loop-i-preserved : goal.loop-i-preserved
loop-i-preserved c =
    let l = c.loop-i in
    seek-next no_departed l.invariant _ (omega arith) c.same.ensures c.if-same.false

pub returns : goal.returns
returns c =
    let a = c.args in
    record { value = seek-ends no_departed c.loop-i.invariant (omega arith) ∙ sym (place_map (here.same a.a) addr_of (take a.n a.entries)); within = omega arith }
