-- `departed::sound::stands_from` meets its contract: what is left of the row gives the same answer.
-- Assumes nothing.
use mathlib.Core.Path.{◌≡◌, refl, ap, sym, ◌∙◌}
use mathlib.Core.List.{List}
use Prim.Native.Nat.{◌-◌, ◌≤◌}
use native.Mathlib.Omega.{arith}
use lib.ListN.{length, drop}
use Rattle.address.specs.Here.{Addr, here}
use Rattle.model.specs.Rows.{has}
use Rattle.departed.proofs.Seeking.{addresses, none_left, stands_here, stands-later}
use borrow.Author.Rules.{rules}
use Rattle.departed.proofs.sound.stands_from.Goals as goal

pub loop-i-init : goal.loop-i-init
loop-i-init c =
    let long : length c.args.entries ≡ 128 = search rules in
    (omega arith, omega arith, refl)

pub returns-then-same : goal.returns-then-same
returns-then-same c =
    let a = c.args in
    sym (c.loop-i.invariant.2 ∙ stands_here a.entries a.n c.loop-i.invariant.0 a.a c.loop-i.i _ (omega arith) c.same.ensures c.if-same.true)

pub loop-i-preserved : goal.loop-i-preserved
loop-i-preserved c =
    let a = c.args in
    (c.loop-i.invariant.0, omega arith, c.loop-i.invariant.2 ∙ stands-later a.entries a.n c.loop-i.invariant.0 a.a c.loop-i.i _ (omega arith) c.same.ensures c.if-same.false)

pub returns : goal.returns
returns c =
    let a = c.args in
    sym (c.loop-i.invariant.2 ∙ ap (has here.same a.a) (none_left a.entries a.n c.loop-i.invariant.0 c.loop-i.i (omega arith)))
