-- `departed::find_place` meets its contract: none of the first i places holds the address.
-- Assumes nothing.
-- does a place hold the address?
use mathlib.Core.Path.{◌≡◌, sym, ◌∙◌}
use mathlib.Core.Bool.{Bool}
use Prim.Native.Nat.{◌-◌}
use native.Mathlib.Omega.{arith}
use lib.ListN.{length, take}
use Rattle.address.specs.Here.{Addr, here}
use Rattle.laws.specs.Loops.{Sought, seek-first, seek_found, seek-next, seek-ends, place_map}
use Rattle.departed.specs.declared.Departed.{Departed}
use Rattle.departed.specs.Views.{no_departed, addr_of}
use borrow.Author.Rules.{rules}
use Rattle.departed.proofs.find_place.Given as goal

abbrev pub holds : Addr → Departed → Bool
holds a d = here.same a (addr_of d)

abbrev pub invariant-loop-i : goal.invariant-loop-i
invariant-loop-i l = Sought (holds l.a) l.entries l.n l.i

abbrev pub decreases-loop-i : goal.decreases-loop-i
decreases-loop-i l = l.n - l.i
