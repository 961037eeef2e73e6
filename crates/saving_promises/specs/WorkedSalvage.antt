-- Worked salvages, byte by byte: an image of version 2 with one record of IPv6. It stays as it is; it comes out as version 1 where that record is dropped; it is refused where its head is short.
-- Assumes nothing.
use Rattle.std.specs.Prelude.{List, [], ◌∷◌, ◌++◌, ℕ}

-- 10.0.0.1:7000, and how many are listed
abbrev pub head_of : ℕ → List ℕ
head_of version = 77 ∷ 66 ∷ 82 ∷ 0 ∷ version ∷ 4 ∷ 0 ∷ 0 ∷ 0 ∷ 0 ∷ 0 ∷ 0 ∷ 0 ∷ 0 ∷ 0 ∷ 0 ∷ 0 ∷ 0 ∷ 10 ∷ 0 ∷ 0 ∷ 1 ∷ 27 ∷ 88 ∷ []

-- [2001:db8::2]:7000 in some state and family, at 5; 10.0.0.2:7000 Suspected at 6; the second of them is probed next
abbrev pub wide_image : ℕ → ℕ → List ℕ
wide_image family state =
    head_of 2
    ++ (2 ∷ [])
    ++ (family ∷ 32 ∷ 1 ∷ 13 ∷ 184 ∷ 0 ∷ 0 ∷ 0 ∷ 0 ∷ 0 ∷ 0 ∷ 0 ∷ 0 ∷ 0 ∷ 0 ∷ 0 ∷ 2 ∷ 27 ∷ 88 ∷ state ∷ 0 ∷ 0 ∷ 0 ∷ 0 ∷ 0 ∷ 0 ∷ 0 ∷ 5 ∷ [])
    ++ (4 ∷ 0 ∷ 0 ∷ 0 ∷ 0 ∷ 0 ∷ 0 ∷ 0 ∷ 0 ∷ 0 ∷ 0 ∷ 0 ∷ 0 ∷ 10 ∷ 0 ∷ 0 ∷ 2 ∷ 27 ∷ 88 ∷ 2 ∷ 0 ∷ 0 ∷ 0 ∷ 0 ∷ 0 ∷ 0 ∷ 0 ∷ 6 ∷ [])
    ++ (1 ∷ [])

-- what is left without the first: version 1, and a position that is no place any more
abbrev pub narrow_image : List ℕ
narrow_image =
    (77 ∷ 66 ∷ 82 ∷ 0 ∷ 1 ∷ 0 ∷ 0 ∷ 10 ∷ 0 ∷ 0 ∷ 1 ∷ 27 ∷ 88 ∷ 1 ∷ [])
    ++ (0 ∷ 0 ∷ 10 ∷ 0 ∷ 0 ∷ 2 ∷ 27 ∷ 88 ∷ 2 ∷ 0 ∷ 0 ∷ 0 ∷ 0 ∷ 0 ∷ 0 ∷ 0 ∷ 6 ∷ [])
    ++ (0 ∷ [])
