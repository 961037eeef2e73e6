-- `wait::mail::append` meets its contract: the row is filled from where it ends.
-- Assumes nothing.
use mathlib.Core.Path.{◌≡◌, ap, ◌∙◌}
use mathlib.Core.List.{◌++◌}
use Prim.Native.Nat.{ℕ, ◌+◌}
use native.Mathlib.Omega.{arith}
use lib.ListN.{length, take, get_or, set}
use borrow.Author.Rules.{rules}
use Rattle.model.specs.Rows.{pad_to}
use Rattle.types.specs.Views.{no_gossip}
use Rattle.wait.specs.Posting.{append-start, append-next}
use Rattle.wait.proofs.mail.append.Goals as goal

pub loop-i-init : goal.loop-i-init
loop-i-init c = (append-start c.args.gossip c.args.at c.args.rows c.requires.0, omega arith)

pub loop-i-smaller : goal.loop-i-smaller
loop-i-smaller c = omega (arith, c.loop-i-test.true)

pub loop-i-preserved : goal.loop-i-preserved
loop-i-preserved c =
    let l = c.loop-i in
    let a = c.args in
    let long : length c.args.rows ≡ 64 = search rules in (
      ap (λ (x : _). set x (a.at + l.i) (get_or a.rows l.i no_gossip)) l.invariant.0
          ∙ append-next a.gossip a.at a.rows l.i c.requires.0 (omega (arith, long, c.loop-i-test.true, c.requires.1)) (omega (arith, c.loop-i-test.true, c.requires.2)),
      omega (arith, c.loop-i-test.true),
    )

pub returns : goal.returns
returns c =
    let l = c.loop-i in
    let a = c.args in
    let e : l.i ≡ a.count = omega (arith, l.invariant.1, c.loop-i-test.false) in
    l.invariant.0 ∙ ap (λ (k : ℕ). pad_to 256 no_gossip (take a.at a.gossip ++ take k a.rows)) e
