-- The text of an address is ASCII, so it is UTF-8.
-- Assumes nothing.
use Rattle.std.specs.Prelude.{◌≡◌, refl, Bool, true, false, List, [], ◌∷◌, ◌++◌, ℕ, zero, suc, ◌+◌, ◌*◌, ◌/◌, ◌%◌, ◌^◌, ◌≤◌, ◌<◌, ltb, take, drop}
use Rattle.std.proofs.Common.{ap, sym, ◌∙◌, subst, arith, pow-suc, mod-lt, lit<, lit≤, ltb-true, ltb-false}
use Rattle.ip6.specs.Text6.{digit, numeral_in, decimal, hex, groups, longest, place, behind, joined, without, plain, mapped, mark, dotted, ip6, text6}
use Rattle.ip6.specs.Numerals.{small-part}
use Rattle.utf8.specs.Utf8.{utf8}
use Rattle.utf8.specs.Ascii.{Ascii, none, byte, ascii_append, ascii_utf8}

digit-small : (d : ℕ) → d < 16 → digit d < 128
unfolding digit
digit-small d h = elim (ltb d 10) as (λ u. elim u [ true ↦ d + 48 | false ↦ d + 87 ] < 128) [ true ↦ omega arith | false ↦ omega arith ]

-- a base is not 0
pos : (b : ℕ) → 10 ≤ b → 0 < b
pos b h = omega arith

numeral_ascii : (b f n : ℕ) → 10 ≤ b → b ≤ 16 → n < 10 ^ suc f → Ascii (numeral_in b f n)
unfolding numeral_in
numeral_ascii b zero n l m h = byte (digit-small n (omega arith)) none
numeral_ascii b (suc f) n l m h =
    (elim (ltb n b) as (λ u. ltb n b ≡ u → Ascii (elim u [ true ↦ digit n ∷ [] | false ↦ numeral_in b f (n / b) ++ (digit (n % b) ∷ []) ])) [
      | true ↦ λ e. byte (digit-small n (omega (arith, ltb-true n b e))) none
      | false ↦ λ e.
          ascii_append (numeral_ascii b f (n / b) l m (small-part b n (10 ^ suc f) l (rw pow-suc at h)))
          (byte (digit-small (n % b) (omega (arith, mod-lt n (pos b l)))) none)
    ]) refl

decimal_ascii : (n : ℕ) → n < 65536 → Ascii (decimal n)
decimal_ascii n h = numeral_ascii 10 4 n (lit≤ tt) (lit≤ tt) (omega arith)

-- all groups are of 16 bits
data Groups : List ℕ → Type 0 where
  end : Groups []
  more : {g : ℕ} {gs : List ℕ} → g < 65536 → Groups gs → Groups (g ∷ gs)

groups-take : (k : ℕ) {gs : List ℕ} → Groups gs → Groups (take k gs)
groups-take zero s = end
groups-take (suc k) end = end
groups-take (suc k) (more h s) = more h (groups-take k s)

groups-drop : (k : ℕ) {gs : List ℕ} → Groups gs → Groups (drop k gs)
groups-drop zero s = s
groups-drop (suc k) end = end
groups-drop (suc k) (more h s) = groups-drop k s

hex_ascii : (n : ℕ) → n < 65536 → Ascii (hex n)
hex_ascii n h = numeral_ascii 16 4 n (lit≤ tt) (lit≤ tt) (omega arith)

behind_ascii : {gs : List ℕ} → Groups gs → Ascii (behind gs)
unfolding behind
behind_ascii end = none
behind_ascii (more {g} h s) = byte (lit< tt) (ascii_append (hex_ascii g h) (behind_ascii s))

joined_ascii : {gs : List ℕ} → Groups gs → Ascii (joined gs)
unfolding joined
joined_ascii end = none
joined_ascii (more {g} h s) = ascii_append (hex_ascii g h) (behind_ascii s)

plain_ascii : (gs : List ℕ) → Groups gs → Ascii (plain gs)
unfolding plain without
plain_ascii gs s =
    elim (ltb (longest gs) 2) as (λ u. Ascii (elim u [ true ↦ joined gs | false ↦ joined (take (place gs) gs) ++ (58 ∷ 58 ∷ joined (drop (place gs + longest gs) gs)) ])) [
      | true ↦ joined_ascii s
      | false ↦ ascii_append (joined_ascii (groups-take (place gs) s)) (byte (lit< tt) (byte (lit< tt) (joined_ascii (groups-drop (place gs + longest gs) s))))
    ]

all_groups : (high low : ℕ) → Groups (groups high low)
all_groups high low =
    of (high / 281474976710656) (of (high / 4294967296) (of (high / 65536) (of high (of (low / 281474976710656) (of (low / 4294967296) (of (low / 65536) (of low end)))))))
  where
    of : (n : ℕ) {gs : List ℕ} → Groups gs → Groups (n % 65536 ∷ gs)
    of n s = more {g = n % 65536} (omega arith) s

dotted_ascii : (low : ℕ) → Ascii (dotted low)
unfolding dotted
dotted_ascii low =
    ascii_append (decimal_ascii (low / 16777216 % 256) (omega arith))
    (byte (lit< tt) (ascii_append (decimal_ascii (low / 65536 % 256) (omega arith))
    (byte (lit< tt) (ascii_append (decimal_ascii (low / 256 % 256) (omega arith))
    (byte (lit< tt) (decimal_ascii (low % 256) (omega arith)))))))

mark_ascii : Ascii mark
mark_ascii = byte (lit< tt) (byte (lit< tt) (byte (lit< tt) (byte (lit< tt) (byte (lit< tt) (byte (lit< tt) (byte (lit< tt) none))))))

ip_ascii : (high low : ℕ) → Ascii (ip6 high low)
unfolding ip6
ip_ascii high low =
    elim (mapped high low) as (λ u. Ascii (elim u [ true ↦ mark ++ dotted low | false ↦ plain (groups high low) ])) [
      | true ↦ ascii_append mark_ascii (dotted_ascii low)
      | false ↦ plain_ascii (groups high low) (all_groups high low)
    ]

pub text-utf8 : (high low port : ℕ) → port < 65536 → utf8 (text6 high low port) ≡ true
unfolding text6
text-utf8 high low port h =
    ascii_utf8 (byte (lit< tt) (ascii_append (ip_ascii high low) (byte (lit< tt) (byte (lit< tt) (decimal_ascii port h)))))
