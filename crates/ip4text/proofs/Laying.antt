-- A number and an address laid down as text.
-- Assumes nothing.
use mathlib.Core.Path.{◌≡◌, refl, ap, sym, ◌∙◌}
use mathlib.Core.List.{List, [], ◌∷◌, ◌++◌}
use Prim.Native.Nat.{ℕ, ◌+◌, ◌/◌, ◌%◌, ◌≤◌, ◌<◌}
use native.Mathlib.Omega.{arith}
use lib.ListN.{length, set, length-append, length-set}
use Rattle.address.specs.Text.{decimal}
use Rattle.varint.specs.Laid.{Laid, laid_one, laid_then, laid_as, Room, room-first, room_then}
use Rattle.ip4text.specs.Decimals.{decimal-one, decimal-more}

pub one-long : (n : ℕ) → n < 10 → length (decimal n) ≡ 1
one-long n h = ap (λ (l : List ℕ). length l) (decimal-one n h)

pub more-long : (n : ℕ) → 10 ≤ n → n < 100000 → length (decimal n) ≡ length (decimal (n / 10)) + 1
more-long n h k = ap (λ (l : List ℕ). length l) (decimal-more n h k) ∙ length-append (decimal (n / 10)) ((n % 10 + 48) ∷ [])

module _ (row : List ℕ) (at n : ℕ) where
  pub one-laid : (b : ℕ) → b ≡ n + 48 → n < 10 → Laid row at (decimal n) (set row at b) (at + 1)
  one-laid b e h = laid_as ((n + 48) ∷ []) (decimal n) (sym (decimal-one n h)) (laid_one row at (n + 48) b e)

  pub more-laid : {row' : List ℕ} {end : ℕ} (b : ℕ) → Laid row at (decimal (n / 10)) row' end → b ≡ n % 10 + 48
      → 10 ≤ n → n < 100000 → Laid row at (decimal n) (set row' end b) (end + 1)
  more-laid {row'} {end} b f e h k =
      laid_as (decimal (n / 10) ++ ((n % 10 + 48) ∷ [])) (decimal n) (sym (decimal-more n h k))
      (laid_then f (laid_one row' end (n % 10 + 48) b e))

-- room for a number is room for the digits before its last, and for its last
pub one_fits : {row : List ℕ} {at n : ℕ} → Room row at (decimal n) → n < 10 → at < length row
one_fits {row} {at} {n} r h = omega (arith, one-long n h, r.fits)

pub first-room : {row : List ℕ} {at n : ℕ} → Room row at (decimal n) → 10 ≤ n → n < 100000 → Room row at (decimal (n / 10))
first-room {row} {at} {n} r h k = record { fits = omega (arith, more-long n h k, r.fits) }

pub last_fits : {row row' : List ℕ} {at n end : ℕ} → Room row at (decimal n) → Laid row at (decimal (n / 10)) row' end → 10 ≤ n → n < 100000 → end < length row'
last_fits {row} {row'} {at} {n} {end} r f h k = omega (arith, more-long n h k, r.fits, f.ends, f.long)

-- a mark, and behind it a number
module _ {row : List ℕ} {at mark : ℕ} {digits : List ℕ} where
  pub mark_fits : Room row at (mark ∷ digits) → at < length row
  mark_fits h = omega (arith, h.fits)

  pub part_room : Room row at (mark ∷ digits) → Room (set row at mark) (at + 1) digits
  part_room h = record { fits = omega (arith, length-set row at mark, h.fits) }

  pub part-laid : {row' : List ℕ} {end : ℕ} → Laid (set row at mark) (at + 1) digits row' end → Laid row at (mark ∷ digits) row' end
  part-laid f = laid_then (laid_one row at mark mark refl) f

-- five pieces, one behind the other
module _ {row : List ℕ} {at : ℕ} (a b c d e : List ℕ) (h : Room row at (a ++ b ++ c ++ d ++ e)) where
  four : Room row at (a ++ b ++ c ++ d)
  four = room-first (a ++ b ++ c ++ d) e h

  three : Room row at (a ++ b ++ c)
  three = room-first (a ++ b ++ c) d four

  two : Room row at (a ++ b)
  two = room-first (a ++ b) c three

  pub room_1 : Room row at a
  room_1 = room-first a b two

  module _ {row₁ : List ℕ} {n₁ : ℕ} (f₁ : Laid row at a row₁ n₁) where
    pub room_2 : Room row₁ n₁ b
    room_2 = room_then a b f₁ two

    module _ {row₂ : List ℕ} {n₂ : ℕ} (f₂ : Laid row₁ n₁ b row₂ n₂) where
      pub room_3 : Room row₂ n₂ c
      room_3 = room_then (a ++ b) c (laid_then f₁ f₂) three

      module _ {row₃ : List ℕ} {n₃ : ℕ} (f₃ : Laid row₂ n₂ c row₃ n₃) where
        pub room_4 : Room row₃ n₃ d
        room_4 = room_then (a ++ b ++ c) d (laid_then (laid_then f₁ f₂) f₃) four

        module _ {row₄ : List ℕ} {n₄ : ℕ} (f₄ : Laid row₃ n₃ d row₄ n₄) where
          pub room_5 : Room row₄ n₄ e
          room_5 = room_then (a ++ b ++ c ++ d) e (laid_then (laid_then (laid_then f₁ f₂) f₃) f₄) h
