-- `member::sound::order_ends` meets its contract: each place from n to i has passed.
-- Assumes nothing.
use mathlib.Core.Path.{◌≡◌, ap, ◌∙◌}
use Prim.Native.Nat.{◌-◌}
use native.Mathlib.Omega.{arith}
use lib.ListN.{length, get_or, drop}
use Rattle.address.specs.Here.{here}
use Rattle.model.specs.Rows.{every}
use Rattle.laws.specs.Loops.{Tested, test_from, test_fails, test_next, test_ends}
use Rattle.member.specs.Views.{blank_address}
use borrow.Author.Rules.{rules}
use Rattle.member.proofs.sound.order_ends.Lts as lts
use Rattle.member.proofs.sound.order_ends.Tie as tie
use Rattle.member.proofs.sound.order_ends.Reads as reads
use mathlib.Core.Bool.{not}
use Rattle.member.proofs.sound.order_ends.Goals as goal

-- what the test of a place gave
tested : (c : lts.After-same tie.the-claims reads.Pre reads.Post goal.the-invariant-loop-i goal.the-decreases-loop-i) → c.same.result ≡ blank_address (get_or c.args.order c.loop-i.i here.blank)
tested c = c.same.ensures ∙ ap (here.same (get_or c.args.order c.loop-i.i here.blank)) c.loop-i.invariant.0

pub loop-i-init : goal.loop-i-init
loop-i-init c =
    let a = c.args in
    let long : length a.order ≡ 64 = search rules in
    (c.blank-blank.ensures, test_from blank_address a.order 64 a.n long (omega arith))

pub returns-then-not-same : goal.returns-then-not-same
returns-then-not-same c = test_fails here.blank c.loop-i.invariant.1 _ (omega arith) (tested c.before) (ap not c.if-not-same.true)

pub loop-i-preserved : goal.loop-i-preserved
loop-i-preserved c =
    let l = c.loop-i in
    (l.invariant.0, test_next here.blank l.invariant.1 _ (omega arith) (tested c.before) (ap not c.if-not-same.false))

pub returns : goal.returns
returns c = test_ends here.blank c.loop-i.invariant.1 (omega arith)
