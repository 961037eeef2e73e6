-- `member::sound::table_ends` meets its contract: each place from n to i has passed.
-- Assumes nothing.
use mathlib.Core.Path.{◌≡◌, ap, sym, ◌∙◌, subst}
use mathlib.Core.Bool.{Bool}
use mathlib.Core.List.{map}
use Prim.Native.Nat.{◌-◌}
use native.Mathlib.Omega.{arith}
use lib.ListN.{length, drop}
use Rattle.address.specs.Here.{here}
use Rattle.model.specs.Rows.{every}
use Rattle.model.specs.Sound.{is_no_member}
use Rattle.laws.specs.Bools.{every_map, drop-map}
use Rattle.laws.specs.Loops.{Tested, test_from, test_fails, test_next, test_ends}
use Rattle.member.specs.declared.Member.{Member}
use Rattle.member.specs.Views.{to_member, nobody}
use borrow.Author.Rules.{rules}
use mathlib.Core.Bool.{not}
use Rattle.member.proofs.sound.table_ends.Invariants.{unused}
use Rattle.member.proofs.sound.table_ends.Goals as goal

pub loop-i-init : goal.loop-i-init
loop-i-init c =
    let t = c.args.table in
    let n = c.args.n in
    let long : length t ≡ 64 = search rules in
    subst (λ (b : Bool). Tested unused t 64 b n)
    (sym (ap (every (is_no_member here)) (drop-map to_member n t) ∙ every_map (is_no_member here) to_member (drop n t)))
    (test_from unused t 64 n long (omega arith))

pub returns-then-not-is_unused : goal.returns-then-not-is_unused
returns-then-not-is_unused c = let l = c.loop-i in test_fails nobody l.invariant _ (omega arith) c.is_unused.ensures (ap not c.if-not-is_unused.true)

pub loop-i-preserved : goal.loop-i-preserved
loop-i-preserved c = let l = c.loop-i in test_next nobody l.invariant _ (omega arith) c.is_unused.ensures (ap not c.if-not-is_unused.false)

pub returns : goal.returns
returns c = test_ends nobody c.loop-i.invariant (omega arith)
