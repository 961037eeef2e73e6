-- `order::passed` meets its contract: own first, then the exclusion.
-- Assumes nothing.
use mathlib.Core.Path.{◌≡◌, sym, ◌∙◌}
use mathlib.Core.Bool.{true, false}
use Rattle.address.specs.Here.{Addr, here}
use Rattle.model.specs.Members.{passed}
use Rattle.order.specs.declared.Exclusion.{Exclusion}
use Rattle.order.specs.declared.Exclusion.TheVariants.{Nobody, Peer}
use Rattle.order.specs.Views.{excluded}
use borrow.Author.Rules.{rules}
use Rattle.order.proofs.passed.Goals as goal

over : (own : Addr) (e : Exclusion) (x : Addr) → here.same own x ≡ true → true ≡ passed here.same here.blank own (excluded e) x
over own Nobody x h = sym h
over own (Peer e) x h = rw h

nobody : (own : Addr) (e : Exclusion) (x : Addr) → e ≡ Nobody → here.same own x ≡ false → false ≡ passed here.same here.blank own (excluded e) x
nobody own e x p h = rw p (sym h)

peer : (own : Addr) (e : Exclusion) (y x : Addr) → e ≡ Peer y → here.same own x ≡ false
    → here.same y x ≡ passed here.same here.blank own (excluded e) x
peer own e y x p h = rw (p, h)

pub returns-then-same : goal.returns-then-same
returns-then-same c =
    let a = c.args in
    over a.own a.exclusion a.x (sym c.same.ensures ∙ c.if-same.true)

pub returns-in-Nobody : goal.returns-in-Nobody
returns-in-Nobody c =
    let a = c.args in
    nobody a.own a.exclusion a.x c.in-Nobody.is (sym c.same.ensures ∙ c.if-same.false)

pub returns-in-Peer : goal.returns-in-Peer
returns-in-Peer c =
    let a = c.args in
    c.same-in-Peer.ensures
    ∙ peer a.own a.exclusion _ a.x c.in-Peer.is (sym c.same.ensures ∙ c.if-same.false)
