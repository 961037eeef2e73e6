-- `cwords::read::records_of` meets its contract: a place a turn, to the end of the shorter row.
-- Assumes nothing.
use mathlib.Core.Path.{◌≡◌}
use Prim.Native.Nat.{◌-◌, ◌≤◌}
use lib.ListN.{length, replicate}
use Rattle.types.specs.Views.{no_gossip}
use Rattle.cwords.specs.Reading.{gossip_of}
use Rattle.cwords.proofs.Filling.{Filled}
use Rattle.cwords.proofs.read.records_of.Given as goal

abbrev pub invariant-loop-i : goal.invariant-loop-i
invariant-loop-i l = (l.i ≤ length l.rows) × (l.initial.out ≡ replicate 64 no_gossip) × Filled gossip_of l.rows 64 l.initial.out l.i l.out

abbrev pub decreases-loop-i : goal.decreases-loop-i
decreases-loop-i l = 64 - l.i
