-- A number laid down: the bytes before the last, and the last.
-- Assumes nothing.
use mathlib.Core.Path.{◌≡◌, refl, ap, sym, ◌∙◌}
use mathlib.Core.List.{List, [], ◌∷◌, ◌++◌}
use Prim.Native.Nat.{ℕ, zero, suc, ◌+◌, ◌*◌, ◌-◌, ◌/◌, ◌%◌, ◌≤◌, ◌<◌}
use native.Mathlib.Omega.{arith}
use lib.ListN.{length, set}
use Rattle.numbers.specs.Numbers.{big_endian}
use Rattle.numbers.specs.NumberLaws.{big_none, big_more, big_long}
use Rattle.varint.specs.Laid.{Laid, laid_none, laid_one, laid_then, laid_as, Room, room-first, room_then}

parted : (w n : ℕ) → 1 ≤ w → big_endian w n ≡ big_endian (w - 1) (n / 256) ++ (n % 256 ∷ [])
parted zero n h = absurd (omega arith)
parted (suc w) n h =
    let e : w ≡ suc w - 1 = omega arith in
    big_more w n ∙ ap (λ (k : ℕ). big_endian k (n / 256) ++ (n % 256 ∷ [])) e

module _ {row : List ℕ} {at : ℕ} (n : ℕ) where
  pub none-laid : (w : ℕ) → w ≡ 0 → Laid row at (big_endian w n) row at
  none-laid w e = laid_as [] (big_endian w n) (sym (ap (λ (k : ℕ). big_endian k n) e ∙ big_none n)) (laid_none row at)

  module _ (w : ℕ) (h : 1 ≤ w) where
    pub first-room : Room row at (big_endian w n) → Room row at (big_endian (w - 1) (n / 256))
    first-room r = record { fits = omega (arith, big_long w n, big_long (w - 1) (n / 256), r.fits) }

    pub last_fits : {row' : List ℕ} {end : ℕ} → Room row at (big_endian w n) → Laid row at (big_endian (w - 1) (n / 256)) row' end → end < length row'
    last_fits r f = omega (arith, big_long w n, big_long (w - 1) (n / 256), r.fits, f.ends, f.long)

    pub more-laid : {row' : List ℕ} {end : ℕ} (b : ℕ) → Laid row at (big_endian (w - 1) (n / 256)) row' end → b ≡ n % 256
        → Laid row at (big_endian w n) (set row' end b) (end + 1)
    more-laid {row'} {end} b f e =
        laid_as (big_endian (w - 1) (n / 256) ++ (n % 256 ∷ [])) (big_endian w n) (sym (parted w n h)) (laid_then f (laid_one row' end (n % 256) b e))
