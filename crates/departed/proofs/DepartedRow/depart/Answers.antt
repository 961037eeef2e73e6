-- `departed::DepartedRow::depart` meets its contract: the address goes from its place to the end, or comes in, behind all or in place of the first.
-- Assumes nothing.
use mathlib.Core.Path.{◌≡◌, refl, ap, sym, ◌∙◌}
use mathlib.Core.List.{[], ◌∷◌, ◌++◌}
use Prim.Native.Nat.{ℕ}
use native.Mathlib.Omega.{arith}
use borrow.Author.Rules.{rules}
use Rattle.departed.specs.declared.DepartedRow.{DepartedRow}
use Rattle.departed.specs.Views.{departed_view, pack_departed}
use Rattle.departed.proofs.Remembering.{less-packed, departs_again, departs-new, departs-full}
use Rattle.departed.proofs.DepartedRow.depart.Goals as goal

pub more-requires : goal.more-requires
more-requires c =
    less-packed c.args.self _ _ c.requires c.if-place-n.true c.less-rest.ensures

pub returns-then-place-n : goal.returns-then-place-n
returns-then-place-n c =
    let a = c.args in
    c.more.ensures
    ∙ ap (λ (k : ℕ). pack_departed (departed_view c.less-rest.result ++ (record { addr = a.a; number = k } ∷ []))) c.greater.ensures
    ∙ departs_again a.self c.requires a.a _ c.find_place-place.ensures.value a.number _ c.if-place-n.true c.less-rest.ensures

pub returns-then-n-lt-CAPACITY : goal.returns-then-n-lt-CAPACITY
returns-then-n-lt-CAPACITY c =
    let a = c.args in
    c.more-then-n-lt-CAPACITY.ensures ∙ departs-new a.self c.requires a.a _ c.find_place-place.ensures.value a.number c.if-place-n.false c.if-n-lt-CAPACITY.true

pub more-requires-2 : goal.more-requires-2
more-requires-2 c =
    less-packed c.args.self _ _ c.requires (omega (arith, c.if-n-lt-CAPACITY.false)) c.less-rest-2.ensures

pub returns : goal.returns
returns c =
    let a = c.args in
    c.more-2.ensures ∙ departs-full a.self c.requires a.a _ c.find_place-place.ensures.value a.number _ c.if-place-n.false c.if-n-lt-CAPACITY.false c.less-rest-2.ensures
