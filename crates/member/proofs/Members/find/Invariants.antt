-- `member::Members::find` meets its contract: none of the passed places holds the address.
-- Assumes nothing.
use mathlib.Core.Path.{refl, ◌∙◌}
use Prim.Native.Nat.{◌-◌}
use native.Mathlib.Omega.{arith}
use Rattle.address.specs.Here.{here}
use Rattle.laws.specs.Loops.{Sought, seek-first, seek_found, seek-next, seek-ends}
use Rattle.member.specs.declared.Member.{Member}
use Rattle.member.specs.Views.{nobody}
use Rattle.member.specs.Packing.{table-long}
use Rattle.member.proofs.Changing.{place_is, said-listed, said_absent}
use borrow.Author.Rules.{rules}
use Rattle.member.proofs.Members.find.Given as goal

abbrev pub invariant-loop-place : goal.invariant-loop-place
invariant-loop-place l = Sought (λ (m : Member). here.same l.a m.addr) l.table l.n l.place

abbrev pub decreases-loop-place : goal.decreases-loop-place
decreases-loop-place l = l.n - l.place
