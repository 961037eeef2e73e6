-- `member::sound::first_places` meets its contract: from the last place to the first, each is put into its drawer.
-- Assumes nothing.
use mathlib.Core.Path.{◌≡◌, refl, subst}
use Prim.Native.Nat.{ℕ, ◌-◌}
use native.Mathlib.Omega.{arith}
use borrow.Author.Rules.{rules}
use Rattle.member.specs.Drawers.{Firsts, first-start, first_next}
use Rattle.member.proofs.sound.first_places.Goals as goal

pub loop-i-init : goal.loop-i-init
loop-i-init c = first-start c.args.order c.args.n _ refl

pub loop-i-preserved : goal.loop-i-preserved
loop-i-preserved c =
    let l = c.loop-i in
    first_next c.args.order c.args.n l.out l.i (l.i - 1) _ l.invariant (omega arith) c.drawer.ensures.0 c.drawer.ensures.1

pub returns : goal.returns
returns c =
    let a = c.args in
    let l = c.loop-i in
    let done : l.i ≡ 0 = omega arith in
    subst (λ (k : ℕ). Firsts a.order a.n l.out k) done l.invariant
