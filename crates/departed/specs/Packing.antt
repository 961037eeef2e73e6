-- A row of the departed that is packed is the packed row of what it holds.
-- Assumes nothing.
use Rattle.std.specs.Prelude.{◌≡◌, refl}
use Rattle.laws.specs.Packing.{pack_view, view_length}
use Rattle.departed.specs.declared.DepartedRow.{DepartedRow}
use Rattle.departed.specs.Views.{to_departed, from_departed, no_departed, departed_view, pack_departed, Packed}

pub pack_back : (r : DepartedRow) → Packed r → pack_departed (departed_view r) ≡ r
pack_back r p =
    let e = pack_view to_departed from_departed (λ b. refl) 128 no_departed r.entries r.len p in
    let l = view_length to_departed from_departed (λ b. refl) 128 no_departed r.entries r.len p in
    λ i. record { entries = e i; len = l i }
