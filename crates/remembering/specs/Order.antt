-- What the fold of removals comes to, said without it: who is in the row, and in which order, by the addresses of the removals alone. Each address stands where it was removed last, and of
-- those the newest 128 are the row.
-- Assumes nothing.
use Rattle.std.specs.Prelude.{Bool, ℕ, ◌-◌, drop}
use Rattle.std.proofs.Common.{arith}
use mathlib.Core.List.{List, [], ◌∷◌}
use Rattle.std.proofs.Math.ListN.{length}
use Rattle.model.specs.Rows.{pick, has}

-- of addresses, one after the other, each only where it stands last
abbrev pub lasts : {A : Type 0} → (A → A → Bool) → List A → List A
lasts same [] = []
lasts same (x ∷ l) = pick (has same x l) (lasts same l) (x ∷ lasts same l)

-- the last so many of a list
abbrev pub newest : {A : Type 0} → ℕ → List A → List A
newest k l = drop (length l - k) l
