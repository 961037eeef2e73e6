-- RFC 5952 4.2.3, without the words of the recursion: "the longest run of zero groups is shortened, the first of equals". A run of n zero groups from place p on is
-- n groups there that are all zero. What `Text6` leaves out is such a run, none is longer, and none of its length starts before it.
-- Assumes nothing.
use Rattle.std.specs.Prelude.{◌≡◌, List, [], ◌∷◌, ℕ, zero, suc}

-- n groups from place p on are zero
abbrev pub Zeros : ℕ → ℕ → List ℕ → Type 0
Zeros p zero gs = Unit {0}
Zeros p (suc n) [] = ⊥
Zeros zero (suc n) (g ∷ gs) = (g ≡ 0) × Zeros zero n gs
Zeros (suc p) (suc n) (g ∷ gs) = Zeros p (suc n) gs
