-- `departed::DepartedRow::more` meets its contract: a row with one more behind the last.
-- Assumes nothing.
use mathlib.Core.Path.{◌≡◌, refl}
use mathlib.Core.List.{[], ◌∷◌, ◌++◌}
use Prim.Native.Nat.{◌+◌}
use native.Mathlib.Omega.{arith}
use borrow.Author.Rules.{rules}
use lib.ListN.{length, length-append}
use Rattle.laws.specs.Packing.{pack_more, view_length}
use Rattle.departed.specs.Views.{to_departed, from_departed, no_departed, departed_view}
use Rattle.departed.proofs.DepartedRow.more.Goals as goal

pub returns : goal.returns
returns c =
    let t = c.args.self in
    let p = c.requires.0 in
    let row = pack_more to_departed from_departed (λ b. refl) 128 no_departed t.entries t.len c.args.d p c.requires.1 in
    let len : t.len + 1 ≡ length (departed_view t ++ (to_departed c.args.d ∷ [])) =
    omega (arith, view_length to_departed from_departed (λ b. refl) 128 no_departed t.entries t.len p, length-append (departed_view t) (to_departed c.args.d ∷ [])) in
    λ i. record { entries = row i; len = len i }
