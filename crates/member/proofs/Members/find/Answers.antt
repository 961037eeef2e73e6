-- `member::Members::find` meets its contract: none of the passed places holds the address.
-- Assumes nothing.
use mathlib.Core.Path.{refl, ◌∙◌}
use Prim.Native.Nat.{◌-◌}
use native.Mathlib.Omega.{arith}
use Rattle.address.specs.Here.{here}
use Rattle.laws.specs.Loops.{Sought, seek-first, seek_found, seek-next, seek-ends}
use Rattle.member.specs.declared.Member.{Member}
use Rattle.member.specs.Views.{nobody}
use Rattle.member.specs.Packing.{table-long}
use Rattle.member.proofs.Changing.{place_is, said-listed, said_absent}
use borrow.Author.Rules.{rules}
use Rattle.member.proofs.Members.find.Goals as goal

pub loop-place-init : goal.loop-place-init
loop-place-init c =
    seek-first (λ (m : Member). here.same c.args.a m.addr) c.args.self.table c.args.self.len
    (omega (arith, table-long c.args.self c.requires.packed, c.requires.packed.few))

pub returns-then-same : goal.returns-then-same
returns-then-same c =
    let found = seek_found nobody c.loop-place.invariant _ (omega arith) c.same.ensures c.if-same.true in
    record { value = said-listed c.args.self c.requires.packed c.args.a _ (found ∙ place_is c.args.self c.args.a) (omega arith); within = omega arith }

pub loop-place-preserved : goal.loop-place-preserved
loop-place-preserved c = seek-next nobody c.loop-place.invariant _ (omega arith) c.same.ensures c.if-same.false

pub returns : goal.returns
returns c =
    let none = seek-ends nobody c.loop-place.invariant (omega arith) in
    record { value = said_absent c.args.self c.requires.packed c.args.a _ (none ∙ place_is c.args.self c.args.a) refl; within = omega arith }
