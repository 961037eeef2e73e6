-- `varint::write` meets its contract: what is written and what is left come to the whole.
-- Assumes nothing.
use native.Mathlib.Omega.{arith}
use borrow.Author.Rules.{rules}
use Rattle.varint.proofs.Writing.{Going, going_none, some_left, going_more, going_last}
use Rattle.varint.proofs.write.Given as goal

abbrev pub invariant-loop-rest : goal.invariant-loop-rest
invariant-loop-rest l = Going l.initial.out l.at l.n l.out l.rest l.i

abbrev pub decreases-loop-rest : goal.decreases-loop-rest
decreases-loop-rest l = l.rest
