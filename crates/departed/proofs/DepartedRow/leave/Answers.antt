-- `departed::DepartedRow::leave` meets its contract: both numbers are counted.
-- Assumes nothing.
use mathlib.Core.Path.{◌≡◌, ap, ◌∙◌}
use Prim.Native.Nat.{ℕ, max}
use borrow.Author.Rules.{rules}
use Rattle.address.specs.Here.{here}
use Rattle.model.specs.Departed.{depart, departs}
use Rattle.departed.specs.Views.{departed_view, pack_departed}
use Rattle.departed.proofs.DepartedRow.leave.Goals as goal

pub returns : goal.returns
unfolding departs
returns c =
    let a = c.args in
    c.depart.ensures
    ∙ ap (λ (k : ℕ). pack_departed (depart here.same a.a k (departed_view a.self))) (c.greater.ensures ∙ ap (λ (h : ℕ). max h a.number) c.member_number-held.ensures)
