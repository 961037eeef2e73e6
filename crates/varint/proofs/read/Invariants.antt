-- `varint::read` meets its contract: each way out by the bytes passed.
-- Assumes nothing.
use Prim.Native.Nat.{◌-◌}
use native.Mathlib.Omega.{arith}
use borrow.Author.Rules.{rules}
use Rattle.varint.proofs.Reading.{Going, going_none, room, going_short, going_last, going_more, tenth_over, tenth_fits, tenth_last, fits}
use Rattle.varint.proofs.read.Given as goal

abbrev pub invariant-loop-i : goal.invariant-loop-i
invariant-loop-i l = Going l.bytes l.value l.scale l.i

abbrev pub decreases-loop-i : goal.decreases-loop-i
decreases-loop-i l = 9 - l.i
