-- `departed::death_of` meets its contract: the row's number, or the heap's.
-- Assumes nothing.
use mathlib.Core.Path.{◌≡◌, refl, ap, sym, ◌∙◌}
use mathlib.Core.Bool.{Bool, true, false}
use mathlib.Core.Option.{Option, none, some}
use Prim.Native.Nat.{ℕ}
use borrow.Author.Rules.{rules}
use borrow.Author.Tests.{not-true, not-false}
use Rattle.address.specs.Here.{Addr, here}
use Rattle.model.specs.Rows.{pick}
use Rattle.model.specs.Choose.{or_else, death}
use Rattle.model.specs.Departed.{look_up, death_of}
use Rattle.heap.specs.declared.Heap.{Heap}
use Rattle.heap.specs.Views.{heap_view}
use Rattle.disseminate.specs.declared.Found.{Found}
use Rattle.disseminate.specs.declared.Found.TheVariants.{Missing, At}
use Rattle.disseminate.specs.Views.{from_found}
use Rattle.departed.specs.declared.DepartedRow.{DepartedRow}
use Rattle.departed.specs.Views.{departed_view, either_found}
use mathlib.Core.Bool.{not}
use Rattle.departed.proofs.death_of.Goals as goal

module _ (r : DepartedRow) (h : Heap) (a : Addr) where
  abbrev seen : Option ℕ
  seen = look_up here.same a (departed_view r)

  -- D, by the setting and what the row says
  abbrev taken : Bool → Option ℕ → Found
  taken on o = from_found (or_else here (pick on o none) (death here a (heap_view h)))

  whole : (on : Bool) → taken on seen ≡ from_found (death_of here on a (departed_view r) (heap_view h))
  unfolding death_of
  whole on = refl

  heap-where-off : (on : Bool) → on ≡ false → from_found (death here a (heap_view h)) ≡ from_found (death_of here on a (departed_view r) (heap_view h))
  unfolding or_else
  heap-where-off on e = sym (ap (λ (u : Bool). taken u seen) e) ∙ whole on

  either : (x y : Option ℕ) → either_found (from_found x) (from_found y) ≡ from_found (or_else here x y)
  unfolding or_else
  either none y = refl
  either (some n) y = refl

  row_first : (on : Bool) → on ≡ true → either_found (from_found seen) (from_found (death here a (heap_view h))) ≡ from_found (death_of here on a (departed_view r) (heap_view h))
  row_first on e = either seen (death here a (heap_view h)) ∙ sym (ap (λ (u : Bool). taken u seen) e) ∙ whole on

pub returns-then-not-on : goal.returns-then-not-on
returns-then-not-on c =
    let a = c.args in
    c.is_deceased-held.ensures ∙ heap-where-off a.row a.deceased a.a a.on (not-true a.on (ap not c.if-not-on.true))

pub returns : goal.returns
returns c =
    let a = c.args in
    c.or_else.ensures ∙ (λ j. either_found (c.look_up-seen.ensures j) (c.is_deceased-held.ensures j)) ∙ row_first a.row a.deceased a.a a.on (not-false a.on (ap not c.if-not-on.false))
