-- A text has from 6 to 47 bytes.
-- Assumes nothing.
use Rattle.std.specs.Prelude.{◌≡◌, refl, Bool, true, false, List, [], ◌∷◌, ◌++◌, ℕ, zero, suc, ◌+◌, ◌-◌, ◌/◌, ◌%◌, ◌≤◌, ◌<◌, eqb, ltb, length}
use Rattle.std.proofs.Common.{ap, sym, ◌∙◌, arith, length-append, ltb-true, ltb-false}
use Rattle.ip6.specs.Text6.{digit, numeral_in, decimal, hex, groups, mapped, dotted, ip6, text6}
use Rattle.ip6.specs.Numerals.{hex_1, hex_2, hex_3, hex_4}
use Rattle.ip6.specs.Scanning.{digits, scan}
use Rattle.ip6.specs.Lengths.{one_if, length_of, left-least, scan_fits, dotted-long, text-long, mapped-long, other_long}
use Rattle.ip6.specs.declared.Scan.{Scan}

abbrev Among : ℕ → ℕ → ℕ → Type 0
Among least most k = (least ≤ k) × (k ≤ most)

numeral_few : (b f n : ℕ) → Among 1 (suc f) (length (numeral_in b f n))
unfolding numeral_in
numeral_few b zero n = (omega arith, omega arith)
numeral_few b (suc f) n =
    elim (ltb n b) as (λ u. Among 1 (suc (suc f)) (length {A = ℕ} (elim u [ true ↦ digit n ∷ [] | false ↦ numeral_in b f (n / b) ++ (digit (n % b) ∷ []) ]))) [
      | true ↦ (omega arith, omega arith)
      | false ↦
          let r = numeral_few b f (n / b) in
          let l = length-append (numeral_in b f (n / b)) (digit (n % b) ∷ []) in
          (omega (arith, r, l), omega (arith, r, l))
    ]

below : (n k : ℕ) (P : Type 0) → (n < k → P) → (k ≤ n → P) → P
below n k P f g = (elim (ltb n k) as (λ u. ltb n k ≡ u → P) [ true ↦ λ e. f (ltb-true n k e) | false ↦ λ e. g (ltb-false n k e) ]) refl

-- a group has four digits at most
hex_few : (n : ℕ) → n < 65536 → Among 1 4 (length (hex n))
hex_few n h =
    below n 16 (Among 1 4 (length (hex n))) (λ a. let e = hex_1 n a in (omega (arith, e), omega (arith, e)))
    (λ a. below n 256 (Among 1 4 (length (hex n))) (λ b. let e = hex_2 n a b in (omega (arith, e), omega (arith, e)))
    (λ b. below n 4096 (Among 1 4 (length (hex n))) (λ c. let e = hex_3 n b c in (omega (arith, e), omega (arith, e)))
    (λ c. let e = hex_4 n c h in (omega (arith, e), omega (arith, e)))))

group_few : (n : ℕ) → Among 1 4 (length (hex (n % 65536)))
group_few n = hex_few (n % 65536) (omega arith)

digits_few : (high low : ℕ) → digits (groups high low) ≤ 32
unfolding digits
digits_few high low = omega (
  arith,
  group_few (high / 281474976710656),
  group_few (high / 4294967296),
  group_few (high / 65536),
  group_few high,
  group_few (low / 281474976710656),
  group_few (low / 4294967296),
  group_few (low / 65536),
  group_few low,
)

one_few : (a b : ℕ) → one_if a b ≤ 1
unfolding one_if
one_few a b = elim (eqb a b) as (λ u. elim u [ true ↦ 1 | false ↦ 0 ] ≤ 1) [ true ↦ omega arith | false ↦ omega arith ]

left_few : (d n x y c : ℕ) → d ≤ 32 → 2 ≤ n → x ≤ 1 → y ≤ 1 → c ≡ 8 - n + x + y → 2 ≤ c → Among 2 39 (d - n + c)
left_few d n x y c h k a b e l = (omega arith, omega arith)

counted_few : (s : Scan) → s.digits ≤ 32 → s.place + s.longest ≤ 8 → Among 2 39 (length_of s)
unfolding length_of
counted_few s h k =
    (elim (ltb s.longest 2) as (λ u. ltb s.longest 2 ≡ u → Among 2 39 (elim u [
      | true ↦ s.digits + 7
      | false ↦ s.digits - s.longest + (8 - s.longest + one_if s.place 0 + one_if (s.place + s.longest) 8)
    ])) [
      | true ↦ λ e. (omega arith, omega arith)
      | false ↦ λ e.
          left_few s.digits s.longest (one_if s.place 0) (one_if (s.place + s.longest) 8)
          (8 - s.longest + one_if s.place 0 + one_if (s.place + s.longest) 8) h (ltb-false s.longest 2 e)
          (one_few s.place 0) (one_few (s.place + s.longest) 8) refl (left-least s k)
    ]) refl

scan-digits : (gs : List ℕ) → (scan gs).digits ≡ digits gs
unfolding scan
scan-digits gs = refl

ip_few : (high low : ℕ) → Among 2 39 (length (ip6 high low))
ip_few high low =
    (elim (mapped high low) as (λ u. mapped high low ≡ u → Among 2 39 (length (ip6 high low))) [
      | true ↦ λ e.
          let a = numeral_few 10 4 (low / 16777216 % 256) in
          let b = numeral_few 10 4 (low / 65536 % 256) in
          let c = numeral_few 10 4 (low / 256 % 256) in
          let d = numeral_few 10 4 (low % 256) in
          (omega (arith, mapped-long high low e, dotted-long low, a, b, c, d), omega (arith, mapped-long high low e, dotted-long low, a, b, c, d))
      | false ↦ λ e.
          let gs : List ℕ = groups high low in
          let w = counted_few (scan gs) (omega (arith, scan-digits gs, digits_few high low)) (scan_fits gs (scan gs) refl refl).end in
          (omega (arith, w, other_long high low e), omega (arith, w, other_long high low e))
    ]) refl

-- "6 to 47 for IPv6"
pub text6-length : (high low port : ℕ) → (6 ≤ length (text6 high low port)) × (length (text6 high low port) ≤ 47)
text6-length high low port =
    let a = ip_few high low in
    let b = numeral_few 10 4 port in
    (omega (arith, a, b, text-long high low port), omega (arith, a, b, text-long high low port))
