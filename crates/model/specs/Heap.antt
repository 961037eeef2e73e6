-- "Heap. The standard library's BinaryHeap; fewer sends is greater." For any type of entry: `d` is what stands past the end, and `key`
-- the entry's rank, its sends: fewer is nearer the top.
-- Assumes nothing.
use Rattle.std.specs.Prelude.{Bool, true, ◌&&◌, List, [], ◌∷◌, ◌++◌, ℕ, zero, suc, ◌+◌, ◌-◌, ◌*◌, ◌/◌, eqb, ltb, leb, length, get_or, set, take}
use Rattle.model.specs.Rows.{pick, swap}

-- the place above a place
abbrev pub parent : ℕ → ℕ
parent p = (p - 1) / 2

-- "An entry climbs to its parent place while it has fewer sends than the parent, strictly": n steps at most
unfoldable pub climb_in : {A : Type 0} → A → (A → ℕ) → ℕ → List A → ℕ → List A
climb_in d key zero xs p = xs
climb_in d key (suc n) xs p =
    pick (eqb p 0)
    xs
    (pick (ltb (key (get_or xs p d)) (key (get_or xs (parent p) d)))
    (climb_in d key n (swap d xs p (parent p)) (parent p))
    xs)

-- a place falls at each step, so p steps are enough
unfoldable pub climb : {A : Type 0} → A → (A → ℕ) → List A → ℕ → List A
climb d key xs p = climb_in d key p xs p

-- "of two children take the right one unless the left has fewer sends": len is how many entries there are
unfoldable pub lower : {A : Type 0} → A → (A → ℕ) → List A → ℕ → ℕ → ℕ
lower d key xs len p =
    pick (ltb (2 * p + 2) len)
    (pick (ltb (key (get_or xs (2 * p + 1) d)) (key (get_or xs (2 * p + 2) d))) (2 * p + 1) (2 * p + 2))
    (2 * p + 1)

-- the entry at p goes down while the one below says so to it, n steps at most, and where it ends `out` is done
unfoldable pub down_in : {A : Type 0} → A → (A → ℕ) → (A → A → Bool) → (List A → ℕ → List A) → ℕ → List A → ℕ → ℕ → List A
down_in d key goes out zero xs len p = out xs p
down_in d key goes out (suc n) xs len p =
    pick (leb len (2 * p + 1))
    (out xs p)
    (pick (goes (get_or xs (lower d key xs len p) d) (get_or xs p d))
    (down_in d key goes out n (swap d xs p (lower d key xs len p)) len (lower d key xs len p))
    (out xs p))

-- a place rises at each step and stays below len, so len steps are enough
unfoldable pub down : {A : Type 0} → A → (A → ℕ) → (A → A → Bool) → (List A → ℕ → List A) → List A → ℕ → ℕ → List A
down d key goes out xs len p = down_in d key goes out len xs len p

-- "stop unless that child has fewer than the sinking entry; a lone left child likewise"
abbrev pub sink : {A : Type 0} → A → (A → ℕ) → List A → ℕ → ℕ → List A
sink d key = down d key (λ c e. ltb (key c) (key e)) (λ xs p. xs)

-- "sinks to the bottom by the same choice of child without the stop, then climbs"
abbrev pub bottom : {A : Type 0} → A → (A → ℕ) → List A → ℕ → ℕ → List A
bottom d key = down d key (λ c e. true) (climb d key)

-- an entry more: it stands last, and climbs
unfoldable pub push : {A : Type 0} → A → (A → ℕ) → List A → A → List A
push d key xs a = climb d key (xs ++ (a ∷ [])) (length xs)

-- entries put into a heap, one after the other
unfoldable pub push_all : {A : Type 0} → A → (A → ℕ) → List A → List A → List A
push_all d key xs [] = xs
push_all d key xs (a ∷ more) = push_all d key (push d key xs a) more

-- the top is another entry, which sinks
unfoldable pub sink_top : {A : Type 0} → A → (A → ℕ) → List A → A → List A
sink_top d key xs a = sink d key (set xs 0 a) (length xs) 0

-- "Removing the top: the last entry goes to the top, sinks to the bottom .., then climbs."
unfoldable pub remove_top : {A : Type 0} → A → (A → ℕ) → List A → List A
remove_top d key xs = bottom d key (take (length xs - 1) (set xs 0 (get_or xs (length xs - 1) d))) (length xs - 1) 0

-- the rank of what stands at a place
abbrev pub rank : {A : Type 0} → A → (A → ℕ) → List A → ℕ → ℕ
rank d key xs i = key (get_or xs i d)

-- a test passes at every number below n
unfoldable pub all_below : (ℕ → Bool) → ℕ → Bool
all_below f zero = true
all_below f (suc n) = all_below f n && f n

-- heap order of the first len places, as a test: none has fewer than the one above it; place 0 is its own parent, and passes
abbrev pub stands_in_order : {A : Type 0} → A → (A → ℕ) → List A → ℕ → Bool
stands_in_order d key xs len = all_below (λ i. leb (rank d key xs (parent i)) (rank d key xs i)) len
