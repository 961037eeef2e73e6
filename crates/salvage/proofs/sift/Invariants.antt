-- `salvage::sift` meets its contract: the first i places are sifted.
-- Assumes nothing.
use Prim.Native.Nat.{◌-◌}
use Rattle.image.specs.Versions.{version}
use Rattle.salvage.proofs.Sifting.{Going}
use Rattle.salvage.proofs.sift.Given as goal

abbrev pub invariant-loop-i : goal.invariant-loop-i
invariant-loop-i l = Going (version l.wide) l.bytes l.places l.table l.kept l.words l.len l.i

abbrev pub decreases-loop-i : goal.decreases-loop-i
decreases-loop-i l = l.places - l.i
