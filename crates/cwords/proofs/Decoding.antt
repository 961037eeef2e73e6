-- How a function that reads words by their kind ends, where the kind is none of four.
-- Assumes nothing.
use mathlib.Core.Path.{◌≡◌}
use Prim.Native.Nat.{ℕ}
use lib.Dec.{eqb}
use borrow.Author.Tests.{ne_eqb}
use Rattle.model.specs.Rows.{pick}

pub past-four : {B : Type 0} (k : ℕ) (a b c d e : B) → (k ≡ 1 → ⊥) → (k ≡ 2 → ⊥) → (k ≡ 3 → ⊥) → (k ≡ 4 → ⊥)
    → e ≡ pick (eqb k 1) a (pick (eqb k 2) b (pick (eqb k 3) c (pick (eqb k 4) d e)))
past-four k a b c d e f g h i = rw (ne_eqb k 1 f, ne_eqb k 2 g, ne_eqb k 3 h, ne_eqb k 4 i)
