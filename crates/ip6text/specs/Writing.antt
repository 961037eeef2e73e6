-- The pieces of a text laid down one behind the other.
-- Assumes nothing.
use Rattle.std.specs.Prelude.{◌≡◌, refl, Bool, true, false, List, [], ◌∷◌, ◌++◌, ℕ, zero, suc, ◌+◌, ◌*◌, ◌-◌, ◌/◌, ◌%◌, ◌≤◌, ◌<◌, eqb, ltb, length, set, take, drop, get_or}
use Rattle.std.proofs.Common.{ap, sym, ◌∙◌, arith, mod-lt, length-append, length-set, length-drop, take_all, drop-cons, lt-ltb, le-ltb}
use Rattle.std.proofs.Math.Nat.{div-lt_self}
use Rattle.varint.specs.Laid.{Laid, laid_none, laid_one, laid_then, laid_as, laid-first, Room, room-first, room_then}
use Rattle.ip6.specs.Text6.{digit, numeral_in, decimal, hex, groups, longest, place, behind, joined, without, plain, mapped, dotted, mark, ip6, text6}
use Rattle.ip6.specs.Numerals.{one_in, numeral_more, small-part}
use Rattle.ip6.specs.Scanning.{scan}
use Rattle.ip6.specs.declared.Scan.{Scan}

pub digit_low : (d : ℕ) → d < 10 → d + 48 ≡ digit d
unfolding digit
digit_low d h = sym (ap (λ (u : Bool). elim u [ true ↦ d + 48 | false ↦ d + 87 ]) (lt-ltb d 10 h))

pub digit_high : (d : ℕ) → 10 ≤ d → d + 87 ≡ digit d
unfolding digit
digit_high d h = sym (ap (λ (u : Bool). elim u [ true ↦ d + 48 | false ↦ d + 87 ]) (le-ltb d 10 h))

pub last-digit : (b n : ℕ) → 10 ≤ b → n % b < b
last-digit b n h = mod-lt n {m = b} (omega arith)

pub smaller : (b n : ℕ) → 10 ≤ b → b ≤ n → n / b < n
smaller b n h k = div-lt_self {n = n} {k = b} (omega arith) (omega arith)

pub still_small : (b n : ℕ) → 10 ≤ b → n < 65536 → n / b < 65536
still_small b n h k = small-part b n 65536 h (omega arith)

-- a number
module _ (row : List ℕ) (at b n : ℕ) where
  pub one-laid : (x : ℕ) → x ≡ digit n → n < b → Laid row at (numeral_in b 4 n) (set row at x) (at + 1)
  one-laid x e h = laid_as (digit n ∷ []) (numeral_in b 4 n) (sym (one_in b 4 n h)) (laid_one row at (digit n) x e)

  pub more-laid : {row' : List ℕ} {end : ℕ} (x : ℕ) → Laid row at (numeral_in b 4 (n / b)) row' end → x ≡ digit (n % b)
      → 10 ≤ b → b ≤ n → n < 65536 → Laid row at (numeral_in b 4 n) (set row' end x) (end + 1)
  more-laid {row'} {end} x f e t h k =
      laid_as (numeral_in b 4 (n / b) ++ (digit (n % b) ∷ [])) (numeral_in b 4 n) (sym (numeral_more b n t h k))
      (laid_then f (laid_one row' end (digit (n % b)) x e))

one-long : (b n : ℕ) → n < b → length (numeral_in b 4 n) ≡ 1
one-long b n h = ap (λ (l : List ℕ). length l) (one_in b 4 n h)

more-long : (b n : ℕ) → 10 ≤ b → b ≤ n → n < 65536 → length (numeral_in b 4 n) ≡ length (numeral_in b 4 (n / b)) + 1
more-long b n t h k = ap (λ (l : List ℕ). length l) (numeral_more b n t h k) ∙ length-append (numeral_in b 4 (n / b)) (digit (n % b) ∷ [])

pub one_fits : {row : List ℕ} {at b n : ℕ} → Room row at (numeral_in b 4 n) → n < b → at < length row
one_fits {row} {at} {b} {n} r h = omega (arith, one-long b n h, r.fits)

pub first-room : {row : List ℕ} {at b n : ℕ} → Room row at (numeral_in b 4 n) → 10 ≤ b → b ≤ n → n < 65536 → Room row at (numeral_in b 4 (n / b))
first-room {row} {at} {b} {n} r t h k = record { fits = omega (arith, more-long b n t h k, r.fits) }

pub last_fits : {row row' : List ℕ} {at b n end : ℕ} → Room row at (numeral_in b 4 n) → Laid row at (numeral_in b 4 (n / b)) row' end → 10 ≤ b → b ≤ n → n < 65536 → end < length row'
last_fits {row} {row'} {at} {b} {n} {end} r f t h k = omega (arith, more-long b n t h k, r.fits, f.ends, f.long)

pub fits_one : {row : List ℕ} {at x : ℕ} → Room row at (x ∷ []) → at < length row
fits_one h = omega (arith, h.fits)

-- the groups from place i to place end
unfoldable pub part : ℕ → ℕ → List ℕ → List ℕ
part i end gs = take (end - i) (drop i gs)

part_none : (i end : ℕ) (gs : List ℕ) → end ≤ i → part i end gs ≡ []
unfolding part
part_none i end gs h = let e : end - i ≡ 0 = omega arith in ap (λ (k : ℕ). take k (drop i gs)) e

part-some : (i end : ℕ) (gs : List ℕ) → i < end → end ≤ length gs → part i end gs ≡ get_or gs i 0 ∷ part (i + 1) end gs
unfolding part
part-some i end gs h k =
    let e : end - i ≡ suc (end - (i + 1)) = omega arith in
    let f : suc i ≡ i + 1 = omega arith in
    ap (λ (n : ℕ). take n (drop i gs)) e ∙ ap (take (suc (end - (i + 1)))) (drop-cons gs i 0 (omega arith))
    ∙ ap (λ (n : ℕ). get_or gs i 0 ∷ take (end - (i + 1)) (drop n gs)) f

pub part-first : (p : ℕ) (gs : List ℕ) → part 0 p gs ≡ take p gs
unfolding part
part-first p gs = let e : p - 0 ≡ p = omega arith in ap (λ (n : ℕ). take n gs) e

pub part-last : (p : ℕ) (gs : List ℕ) → part p (length gs) gs ≡ drop p gs
unfolding part
part-last p gs = take_all (length gs - p) (drop p gs) (omega (arith, length-drop p gs))

pub behind-none : (i end : ℕ) (gs : List ℕ) → end ≤ i → behind (part i end gs) ≡ []
unfolding behind
behind-none i end gs h = ap (λ (l : List ℕ). behind l) (part_none i end gs h)

pub joined-none : (i end : ℕ) (gs : List ℕ) → end ≤ i → joined (part i end gs) ≡ []
unfolding joined
joined-none i end gs h = ap (λ (l : List ℕ). joined l) (part_none i end gs h)

pub behind-some : (i end : ℕ) (gs : List ℕ) → i < end → end ≤ length gs → behind (part i end gs) ≡ 58 ∷ (hex (get_or gs i 0) ++ behind (part (i + 1) end gs))
unfolding behind
behind-some i end gs h k = ap (λ (l : List ℕ). behind l) (part-some i end gs h k)

pub joined-some : (i end : ℕ) (gs : List ℕ) → i < end → end ≤ length gs → joined (part i end gs) ≡ hex (get_or gs i 0) ++ behind (part (i + 1) end gs)
unfolding joined
joined-some i end gs h k = ap (λ (l : List ℕ). joined l) (part-some i end gs h k)

-- room for the same bytes by another name
pub room_as : {row : List ℕ} {at : ℕ} (a b : List ℕ) → a ≡ b → Room row at a → Room row at b
room_as {row} {at} a b e h = record { fits = omega (arith, h.fits, ap (λ (l : List ℕ). length l) e) }

pub at_place : (gs : List ℕ) (i k : ℕ) → i ≡ k → get_or gs k 0 ≡ get_or gs i 0
at_place gs i k e = sym (ap (λ (n : ℕ). get_or gs n 0) e)

-- a colon, a group and the groups behind it
module _ (i end : ℕ) (gs : List ℕ) (s : i < end) (k : end ≤ length gs) {row : List ℕ} {at : ℕ} where
  open_behind : Room row at (behind (part i end gs)) → Room row at ((58 ∷ []) ++ (hex (get_or gs i 0) ++ behind (part (i + 1) end gs)))
  open_behind h = room_as (behind (part i end gs)) (58 ∷ (hex (get_or gs i 0) ++ behind (part (i + 1) end gs))) (behind-some i end gs s k) h

  pub behind_1 : Room row at (behind (part i end gs)) → Room row at (58 ∷ [])
  behind_1 h = room-first (58 ∷ []) (hex (get_or gs i 0) ++ behind (part (i + 1) end gs)) (open_behind h)

  module _ (g : ℕ) (e : g ≡ get_or gs i 0) {row₁ : List ℕ} {at₁ : ℕ} (h : Room row at (behind (part i end gs))) (f₁ : Laid row at (58 ∷ []) row₁ at₁) where
    both : Room row₁ at₁ (hex g ++ behind (part (i + 1) end gs))
    both =
        room_as (hex (get_or gs i 0) ++ behind (part (i + 1) end gs)) (hex g ++ behind (part (i + 1) end gs))
        (ap (λ (n : ℕ). hex n ++ behind (part (i + 1) end gs)) (sym e))
        (room_then (58 ∷ []) (hex (get_or gs i 0) ++ behind (part (i + 1) end gs)) f₁ (open_behind h))

    pub behind_2 : Room row₁ at₁ (hex g)
    behind_2 = room-first (hex g) (behind (part (i + 1) end gs)) both

    module _ {row₂ : List ℕ} {at₂ : ℕ} (f₂ : Laid row₁ at₁ (hex g) row₂ at₂) where
      pub behind_3 : Room row₂ at₂ (behind (part (i + 1) end gs))
      behind_3 = room_then (hex g) (behind (part (i + 1) end gs)) f₂ both

      pub behind-laid : {row₃ : List ℕ} {at₃ : ℕ} → Laid row₂ at₂ (behind (part (i + 1) end gs)) row₃ at₃ → Laid row at (behind (part i end gs)) row₃ at₃
      behind-laid f₃ =
          laid_as ((58 ∷ []) ++ (hex g ++ behind (part (i + 1) end gs))) (behind (part i end gs))
          (ap (λ (n : ℕ). 58 ∷ (hex n ++ behind (part (i + 1) end gs))) e ∙ sym (behind-some i end gs s k))
          (laid_then f₁ (laid_then f₂ f₃))

-- a group and the groups behind it
module _ (i end : ℕ) (gs : List ℕ) (s : i < end) (k : end ≤ length gs) (g : ℕ) (e : g ≡ get_or gs i 0) {row : List ℕ} {at : ℕ} (h : Room row at (joined (part i end gs))) where
  open_joined : Room row at (hex g ++ behind (part (i + 1) end gs))
  open_joined =
      room_as (joined (part i end gs)) (hex g ++ behind (part (i + 1) end gs))
      (joined-some i end gs s k ∙ ap (λ (n : ℕ). hex n ++ behind (part (i + 1) end gs)) (sym e)) h

  pub joined_1 : Room row at (hex g)
  joined_1 = room-first (hex g) (behind (part (i + 1) end gs)) open_joined

  module _ {row₁ : List ℕ} {at₁ : ℕ} (f₁ : Laid row at (hex g) row₁ at₁) where
    pub joined_2 : Room row₁ at₁ (behind (part (i + 1) end gs))
    joined_2 = room_then (hex g) (behind (part (i + 1) end gs)) f₁ open_joined

    pub joined-laid : {row₂ : List ℕ} {at₂ : ℕ} → Laid row₁ at₁ (behind (part (i + 1) end gs)) row₂ at₂ → Laid row at (joined (part i end gs)) row₂ at₂
    joined-laid f₂ =
        laid_as (hex g ++ behind (part (i + 1) end gs)) (joined (part i end gs))
        (ap (λ (n : ℕ). hex n ++ behind (part (i + 1) end gs)) e ∙ sym (joined-some i end gs s k))
        (laid_then f₁ f₂)

pub none-behind : (i end : ℕ) (gs : List ℕ) {row : List ℕ} {at : ℕ} → end ≤ i → Laid row at (behind (part i end gs)) row at
none-behind i end gs {row} {at} h = laid_as [] (behind (part i end gs)) (sym (behind-none i end gs h)) (laid_none row at)

pub none-joined : (i end : ℕ) (gs : List ℕ) {row : List ℕ} {at : ℕ} → end ≤ i → Laid row at (joined (part i end gs)) row at
none-joined i end gs {row} {at} h = laid_as [] (joined (part i end gs)) (sym (joined-none i end gs h)) (laid_none row at)

-- four pieces, one behind the other
module _ {row : List ℕ} {at : ℕ} (a b c d : List ℕ) (h : Room row at (a ++ (b ++ (c ++ d)))) where
  pub four_1 : Room row at a
  four_1 = room-first a (b ++ (c ++ d)) h

  module _ {row₁ : List ℕ} {n₁ : ℕ} (f₁ : Laid row at a row₁ n₁) where
    then_2 : Room row₁ n₁ (b ++ (c ++ d))
    then_2 = room_then a (b ++ (c ++ d)) f₁ h

    pub four_2 : Room row₁ n₁ b
    four_2 = room-first b (c ++ d) then_2

    module _ {row₂ : List ℕ} {n₂ : ℕ} (f₂ : Laid row₁ n₁ b row₂ n₂) where
      then_3 : Room row₂ n₂ (c ++ d)
      then_3 = room_then b (c ++ d) f₂ then_2

      pub four_3 : Room row₂ n₂ c
      four_3 = room-first c d then_3

      module _ {row₃ : List ℕ} {n₃ : ℕ} (f₃ : Laid row₂ n₂ c row₃ n₃) where
        pub four_4 : Room row₃ n₃ d
        four_4 = room_then c d f₃ then_3

        pub four-laid : {row₄ : List ℕ} {n₄ : ℕ} → Laid row₃ n₃ d row₄ n₄ → Laid row at (a ++ (b ++ (c ++ d))) row₄ n₄
        four-laid f₄ = laid_then f₁ (laid_then f₂ (laid_then f₃ f₄))

pub without_is : (gs : List ℕ) (p n : ℕ) → length gs ≡ 8
    → without gs p n ≡ joined (part 0 p gs) ++ ((58 ∷ []) ++ ((58 ∷ []) ++ joined (part (p + n) 8 gs)))
unfolding without
without_is gs p n l =
    ap (λ (x : List ℕ). joined x ++ (58 ∷ 58 ∷ joined (drop (p + n) gs))) (sym (part-first p gs))
    ∙ ap (λ (x : List ℕ). joined (part 0 p gs) ++ (58 ∷ 58 ∷ joined x)) (sym (ap (λ (k : ℕ). part (p + n) k gs) (sym l) ∙ part-last (p + n) gs))

shortly : (gs : List ℕ) → length gs ≡ 8 → (scan gs).longest < 2 → plain gs ≡ joined (part 0 8 gs)
unfolding scan plain
shortly gs l h =
    ap (λ (u : Bool). elim u [ true ↦ joined gs | false ↦ without gs (place gs) (longest gs) ]) (lt-ltb (longest gs) 2 h)
    ∙ ap (λ (x : List ℕ). joined x) (sym (ap (λ (k : ℕ). part 0 k gs) (sym l) ∙ part-last 0 gs))

leaving : (gs : List ℕ) → 2 ≤ (scan gs).longest → plain gs ≡ without gs (scan gs).place (scan gs).longest
unfolding scan plain
leaving gs h = ap (λ (u : Bool). elim u [ true ↦ joined gs | false ↦ without gs (place gs) (longest gs) ]) (le-ltb (longest gs) 2 h)

pub plain-whole : (gs : List ℕ) (s : Scan) → s ≡ scan gs → length gs ≡ 8 → s.longest < 2 → plain gs ≡ joined (part 0 8 gs)
plain-whole gs s e l h = shortly gs l (rw e at h)

pub plain-left : (gs : List ℕ) (s : Scan) → s ≡ scan gs → 2 ≤ s.longest → plain gs ≡ without gs s.place s.longest
plain-left gs s e h = rw e (leaving gs (rw e at h))

pub mark_is : mark ≡ (58 ∷ []) ++ ((58 ∷ []) ++ (hex 65535 ++ (58 ∷ [])))
unfolding numeral_in digit
mark_is = refl

pub mapped_is : (high low : ℕ) → mapped high low ≡ true → ip6 high low ≡ mark ++ dotted low
unfolding ip6
mapped_is high low h = ap (λ (u : Bool). elim u [ true ↦ mark ++ dotted low | false ↦ plain (groups high low) ]) h

pub other_is : (high low : ℕ) → mapped high low ≡ false → ip6 high low ≡ plain (groups high low)
unfolding ip6
other_is high low h = ap (λ (u : Bool). elim u [ true ↦ mark ++ dotted low | false ↦ plain (groups high low) ]) h

pub dotted_is : (low : ℕ) → dotted low
    ≡ decimal (low / 16777216 % 256) ++ ((46 ∷ decimal (low / 65536 % 256)) ++ ((46 ∷ decimal (low / 256 % 256)) ++ (46 ∷ decimal (low % 256))))
unfolding dotted
dotted_is low = refl

pub text_is : (high low port : ℕ) → text6 high low port ≡ (91 ∷ []) ++ (ip6 high low ++ ((93 ∷ []) ++ (58 ∷ decimal port)))
unfolding text6
text_is high low port = refl

-- what was written from the start of a row stands in its first part
pub laid-part : {row row' bytes : List ℕ} {next : ℕ} → Laid row 0 bytes row' next → length bytes ≤ length row → take (next - 0) (drop 0 row') ≡ bytes
laid-part {row} {row'} {bytes} {next} f h =
    let e : next - 0 ≡ length bytes = omega (arith, f.ends) in
    ap (λ (k : ℕ). take k row') e ∙ ap (take (length bytes)) (laid-first h f) ∙ front bytes (drop (length bytes) row)
  where
    front : (a b : List ℕ) → take (length a) (a ++ b) ≡ a
    front [] b = refl
    front (x ∷ a) b = ap (λ (l : List ℕ). x ∷ l) (front a b)
