-- UTF-8 as RFC 3629 has it: by the first byte of a character, how many follow and what the next lies between.
-- Assumes nothing.
use Rattle.std.specs.Prelude.{Bool, false, List, [], ◌∷◌, ℕ, ◌-◌, eqb, ltb, leb}
use Rattle.model.specs.Rows.{pick}
use Rattle.utf8.specs.declared.Lead.{Lead}

-- so many bytes follow, and the next lies between two
abbrev pub asks : ℕ → ℕ → ℕ → Lead
asks left low high = record { left = left; low = low; high = high }

-- 00-7F; C2-DF 80-BF; E0 A0-BF 80-BF; E1-EC, EE, EF 80-BF 80-BF; ED 80-9F 80-BF; F0 90-BF and two; F1-F3 80-BF and two; F4 80-8F and two
-- no other byte begins a character: it asks for four
unfoldable pub leads : ℕ → Lead
leads b =
    pick (ltb b 128) (asks 0 128 191)
    (pick (ltb b 194) (asks 4 128 191)
    (pick (ltb b 224) (asks 1 128 191)
    (pick (eqb b 224) (asks 2 160 191)
    (pick (eqb b 237) (asks 2 128 159)
    (pick (ltb b 240) (asks 2 128 191)
    (pick (eqb b 240) (asks 3 144 191)
    (pick (ltb b 244) (asks 3 128 191)
    (pick (eqb b 244) (asks 3 128 143)
    (asks 4 128 191)))))))))

-- what is asked for after one more byte: its character's first, or one that lies where it was asked for
unfoldable pub after : Lead → ℕ → Lead
after l b =
    pick (eqb l.left 0) (leads b)
    (pick (leb l.low b) (pick (leb b l.high) (asks (l.left - 1) 128 191) (asks 4 128 191)) (asks 4 128 191))

-- the bytes end a character that was begun, and are whole characters from there on
unfoldable pub utf8_from : Lead → List ℕ → Bool
utf8_from l [] = eqb l.left 0
utf8_from l (b ∷ bytes) = pick (eqb (after l b).left 4) false (utf8_from (after l b) bytes)

-- whole characters from the start on
unfoldable pub utf8 : List ℕ → Bool
utf8 bytes = utf8_from (asks 0 128 191) bytes
