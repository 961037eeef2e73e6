-- `hostbytes::said_words` meets its contract: a place a turn.
use Prim.Native.Nat.{◌-◌}
use Rattle.hostbytes.specs.Promised.{said_word}
use Rattle.cwords.proofs.Filling.{Filled}
use Rattle.hostbytes.proofs.said_words.Given as goal

abbrev pub invariant-loop-i : goal.invariant-loop-i
invariant-loop-i l = Filled said_word l.values 64 l.initial.out l.i l.out

abbrev pub decreases-loop-i : goal.decreases-loop-i
decreases-loop-i l = 64 - l.i
