-- `departed::DepartedRow::less` meets its contract: the row closes up.
-- Assumes nothing.
use mathlib.Core.Path.{◌≡◌, refl, ap, sym, ◌∙◌}
use mathlib.Core.List.{List, map}
use Prim.Native.Nat.{◌-◌}
use native.Mathlib.Omega.{arith}
use borrow.Author.Rules.{rules}
use lib.ListN.{length, take}
use Rattle.model.specs.Rows.{remove_at, pad_to}
use Rattle.laws.specs.Pad.{length-remove_at}
use Rattle.laws.specs.Packing.{view_length, from_to_all, map-remove_at}
use Rattle.departed.specs.declared.Departed.{Departed}
use Rattle.departed.specs.Views.{to_departed, from_departed, no_departed, departed_view}
use Rattle.departed.proofs.DepartedRow.less.Goals as goal

pub returns : goal.returns
returns c =
    let t = c.args.self in
    let place = c.args.place in
    let v : List Departed = take t.len t.entries in
    let l : length (departed_view t) ≡ t.len = view_length to_departed from_departed (λ b. refl) 128 no_departed t.entries t.len c.requires.0 in
    let row : c.close_up.result ≡ pad_to 128 no_departed (map from_departed (remove_at (departed_view t) place)) =
    c.close_up.ensures
    ∙ sym (ap (pad_to 128 no_departed) (map-remove_at from_departed (departed_view t) place ∙ ap (λ (m : List Departed). remove_at m place) (from_to_all to_departed from_departed (λ b. refl) v))) in
    let len : t.len - 1 ≡ length (remove_at (departed_view t) place) = omega (arith, length-remove_at (departed_view t) place (omega (arith, c.requires.1)), l) in
    λ i. record { entries = row i; len = len i }
