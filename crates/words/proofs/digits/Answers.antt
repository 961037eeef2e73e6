-- `words::digits` meets its contract: the whole word says what the value so far and the rest say.
-- Assumes nothing.
use mathlib.Core.Path.{◌≡◌, refl}
use Prim.Native.Nat.{◌-◌, ◌^◌, ◌≤◌, ◌<◌}
use lib.Dec.{lit<}
use lib.ListN.{length, drop, get_or}
use borrow.Author.Rules.{rules}
use Rattle.words.specs.Decimal.{digits_after}
use Rattle.words.proofs.Reading.{appended-small, stop_at, more-at, end-at}
use Rattle.words.proofs.digits.Goals as goal

pub loop-i-init : goal.loop-i-init
loop-i-init c = (search rules, lit< tt, refl)

pub returns-in_default : goal.returns-in_default
returns-in_default c =
    let l = c.loop-i in
    stop_at _ l.value l.i (search rules) l.invariant.2 (cc)

pub loop-i-preserved : goal.loop-i-preserved
loop-i-preserved c =
    let l = c.loop-i in
    let w = c.args.word.now in
    (search rules, appended-small l.value (get_or w l.i 0) c.in-Value.next (cc), more-at _ l.value l.i (search rules) l.invariant.2 _ (cc))

pub returns : goal.returns
returns c =
    let l = c.loop-i in
    end-at _ l.value l.i (search rules) (search rules) l.invariant.2
