-- `member::sound::is_unused` meets its contract: address, state and number.
-- Assumes nothing.
-- the test, by what is known of its parts
use mathlib.Core.Path.{◌≡◌, ap, sym, ◌∙◌}
use mathlib.Core.Bool.{Bool, true, false, ◌&&◌}
use Prim.Native.Nat.{ℕ}
use lib.Dec.{eqb}
use Rattle.address.specs.Here.{here}
use Rattle.model.specs.declared.State.{State}
use Rattle.model.specs.declared.State.TheVariants.{Alive, Pending, Suspected}
use Rattle.model.specs.Words.{is_alive}
use borrow.Author.Tests.{not-true, not-false}
use borrow.Author.Rules.{rules}
use Rattle.member.proofs.sound.is_unused.Goals as goal

test : Bool → State → ℕ → Bool
test u s n = u && is_alive s && eqb n 0

pub returns-then-not-same : goal.returns-then-not-same
unfolding test
returns-then-not-same c =
    let m = c.args.m in
    let e : here.same m.addr here.blank ≡ false =
    ap (here.same m.addr) (sym c.blank.ensures) ∙ sym c.same.ensures ∙ c.if-not-same.true in
    sym (ap (λ (u : Bool). test u m.state m.number) e)

pub returns-in-Alive : goal.returns-in-Alive
unfolding test
returns-in-Alive c =
    let m = c.args.m in
    let blank : here.same m.addr here.blank ≡ true = ap (here.same m.addr) (sym c.blank.ensures) ∙ sym c.same.ensures ∙ c.if-not-same.false in
    sym (λ i. test (blank i) (c.in-Alive.is i) m.number)

pub returns-in-Pending : goal.returns-in-Pending
unfolding test
returns-in-Pending c =
    let m = c.args.m in
    let blank : here.same m.addr here.blank ≡ true = ap (here.same m.addr) (sym c.blank.ensures) ∙ sym c.same.ensures ∙ c.if-not-same.false in
    sym (λ i. test (blank i) (c.in-Pending.is i) m.number)

pub returns-in-Suspected : goal.returns-in-Suspected
unfolding test
returns-in-Suspected c =
    let m = c.args.m in
    let blank : here.same m.addr here.blank ≡ true = ap (here.same m.addr) (sym c.blank.ensures) ∙ sym c.same.ensures ∙ c.if-not-same.false in
    sym (λ i. test (blank i) (c.in-Suspected.is i) m.number)
