-- Where an entry ends, decided on the ranks alone: K is the rank at a place.
-- Assumes nothing.
use Rattle.std.specs.Prelude.{◌≡◌, Bool, ◌&&◌, List, ℕ, zero, suc, ◌+◌, ◌*◌, ◌<◌, eqb, ltb, leb, get_or}
use Rattle.model.specs.Rows.{pick}
use Rattle.model.specs.Heap.{parent}

-- a row of numbers, by places
abbrev pub nth : List ℕ → ℕ → ℕ
nth ks i = get_or ks i 0

-- K has the ranks of the first len places
unfoldable pub Agree : {A : Type 0} → A → (A → ℕ) → (ℕ → ℕ) → List A → ℕ → Type 0
Agree d key K xs len = (i : ℕ) → i < len → K i ≡ key (get_or xs i d)

-- the place to which one of rank m climbs from p, n steps at most
unfoldable pub climb_to_in : (ℕ → ℕ) → ℕ → ℕ → ℕ → ℕ
climb_to_in K m zero p = p
climb_to_in K m (suc n) p = pick (eqb p 0) p (pick (ltb m (K (parent p))) (climb_to_in K m n (parent p)) p)

unfoldable pub climb_to : (ℕ → ℕ) → ℕ → ℕ → ℕ
climb_to K m p = climb_to_in K m p p

-- the place below p: of two the right one, unless the left has fewer
unfoldable pub lower_to : (ℕ → ℕ) → ℕ → ℕ → ℕ
lower_to K len p =
    pick (ltb (2 * p + 2) len)
    (pick (ltb (K (2 * p + 1)) (K (2 * p + 2))) (2 * p + 1) (2 * p + 2))
    (2 * p + 1)

-- the place to which one goes down from p while the rank below passes g
unfoldable pub down_to_in : (ℕ → ℕ) → (ℕ → Bool) → ℕ → ℕ → ℕ → ℕ
down_to_in K g zero len p = p
down_to_in K g (suc n) len p =
    pick (leb len (2 * p + 1)) p (pick (g (K (lower_to K len p))) (down_to_in K g n len (lower_to K len p)) p)

unfoldable pub down_to : (ℕ → ℕ) → (ℕ → Bool) → ℕ → ℕ → ℕ
down_to K g len p = down_to_in K g len len p

abbrev pub sink_to : (ℕ → ℕ) → ℕ → ℕ → ℕ → ℕ
sink_to K m len p = down_to K (λ k. ltb k m) len p

-- one that goes to the bottom and climbs back ends at t, the end from the place below, or at p if it climbs over that place too
unfoldable pub back : (ℕ → ℕ) → ℕ → ℕ → ℕ → ℕ → ℕ
back K m p c t = pick (eqb t c && ltb m (K c)) p t

unfoldable pub settle_in : (ℕ → ℕ) → ℕ → ℕ → ℕ → ℕ → ℕ
settle_in K m zero len p = p
settle_in K m (suc n) len p = pick (leb len (2 * p + 1)) p (back K m p (lower_to K len p) (settle_in K m n len (lower_to K len p)))

unfoldable pub settle_to : (ℕ → ℕ) → ℕ → ℕ → ℕ → ℕ
settle_to K m len p = settle_in K m len len p
