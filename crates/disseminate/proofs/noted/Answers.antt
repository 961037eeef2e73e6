-- `disseminate::noted` meets its contract: what is left of the notes gives the same answer.
-- Assumes nothing.
use mathlib.Core.Path.{◌≡◌, refl, sym, ◌∙◌}
use Prim.Native.Nat.{◌≤◌}
use native.Mathlib.Omega.{arith}
use Rattle.disseminate.proofs.Noting.{was, was-there, was_other, was_apart, was-none}
use borrow.Author.Rules.{rules}
use Rattle.disseminate.proofs.noted.Goals as goal

pub loop-i-init : goal.loop-i-init
loop-i-init c = (search rules, search rules, refl)

pub returns-then-same_gossip : goal.returns-then-same_gossip
returns-then-same_gossip c =
    let a = c.args in
    sym (c.loop-i.invariant.2 ∙ was-there a.rows a.sent a.g a.sends c.loop-i.i _ (search rules) c.same_gossip.ensures c.if-same_gossip.true (search rules))

pub loop-i-preserved-else-same_gossip : goal.loop-i-preserved-else-same_gossip
loop-i-preserved-else-same_gossip c =
    let a = c.args in (
      search rules,
      search rules,
      c.loop-i.invariant.2 ∙ was_other a.rows a.sent a.g a.sends c.loop-i.i _ (search rules) c.same_gossip.ensures c.if-same_gossip.false,
    )

pub loop-i-preserved : goal.loop-i-preserved
loop-i-preserved c =
    let a = c.args in
    (search rules, search rules, c.loop-i.invariant.2 ∙ was_apart a.rows a.sent a.g a.sends c.loop-i.i (search rules) c.if-sent-i.false)

pub returns : goal.returns
returns c =
    let a = c.args in
    sym (c.loop-i.invariant.2 ∙ was-none a.rows a.sent a.g a.sends c.loop-i.i c.loop-i-test.false)
