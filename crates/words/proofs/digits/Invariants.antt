-- `words::digits` meets its contract: the whole word says what the value so far and the rest say.
-- Assumes nothing.
use mathlib.Core.Path.{◌≡◌, refl}
use Prim.Native.Nat.{◌-◌, ◌^◌, ◌≤◌, ◌<◌}
use lib.Dec.{lit<}
use lib.ListN.{length, drop, get_or}
use borrow.Author.Rules.{rules}
use Rattle.words.specs.Decimal.{digits_after}
use Rattle.words.proofs.Reading.{appended-small, stop_at, more-at, end-at}
use Rattle.words.proofs.digits.Given as goal

abbrev pub invariant-loop-i : goal.invariant-loop-i
invariant-loop-i l =
    (l.i ≤ length l.word) × (l.value < 2 ^ 64) × (digits_after 0 l.word ≡ digits_after l.value (drop l.i l.word))

abbrev pub decreases-loop-i : goal.decreases-loop-i
decreases-loop-i l = length l.word - l.i
