-- "An address is a family, 128 bits as two numbers, and a port": family 6, or family 4 with at most 32 bits.
-- Assumes nothing.
use mathlib.Core.Path.{◌≡◌, refl, ap, sym, ◌∙◌}
use Rattle.std.specs.Prelude.{Bool, true, false, ◌&&◌, List, ℕ, ◌+◌, ◌*◌, ◌/◌, ◌%◌, ◌^◌, ◌≤◌, ◌<◌, eqb, ltb, length}
use Rattle.std.proofs.Common.{arith, eqb-true, eq-eqb, ne_eqb, lt-ltb, ltb-true}
use Rattle.model.specs.Rows.{pick, Test}
use Rattle.model.specs.Words.{Address, Lawful}
use Rattle.ip6.specs.Text6.{text6}
use Rattle.ip6.specs.TextBounds.{text6-length}
use Rattle.address.specs.IPv4.{text_length}
use Rattle.address.specs.Text.{text}
use Rattle.address.specs.TextLaws.{text-length, text_is_long}
use Rattle.address.specs.declared.Address.{Address as Addr}

-- "Equality is family, address and port"
unfoldable pub same_address : Addr → Addr → Bool
same_address a b = (eqb a.family b.family && eqb a.high b.high) && (eqb a.low b.low && eqb a.port b.port)

-- the address of an unused place: all zeros, of no family
abbrev pub blank_address : Addr
blank_address = record { family = 0; port = 0; high = 0; low = 0 }

-- the numbers are of 64 bits, and the port of 16
abbrev pub wide_bits : Addr → Bool
wide_bits a = ltb a.high (2 ^ 64) && ltb a.low (2 ^ 64)

abbrev pub few_bits : Addr → Bool
few_bits a = eqb a.high 0 && ltb a.low (2 ^ 32)

unfoldable pub in_range : Addr → Bool
in_range a = ltb a.port 65536 && pick (eqb a.family 6) (wide_bits a) (eqb a.family 4 && few_bits a)

-- an address of IPv4 as one number, ip × 65536 + port
unfoldable pub number : Addr → ℕ
number a = a.low % 4294967296 * 65536 + a.port

-- and a number as an address
unfoldable pub numbered : ℕ → Addr
numbered n = record { family = 4; port = n % 65536; high = 0; low = n / 65536 }

unfoldable pub text_of : Addr → List ℕ
text_of a = pick (eqb a.family 6) (text6 a.high a.low a.port) (text (number a))

unfoldable pub chars_of : Addr → ℕ
chars_of a = pick (eqb a.family 6) (length (text6 a.high a.low a.port)) (text_length (number a))

-- one of 1024 slots, by which an address is told from others; no rule reads it. Addresses of IPv4 that differ in one of the last three octets alone have different ones
unfoldable pub slot_of : Addr → ℕ
slot_of a = (a.high % 1024 * 61 + (a.low / 1024 % 1024 * 131 + a.low / 1048576 % 4096 * 37) + (a.low % 1024 + a.port % 1024)) % 1024

abbrev pub families : Address Addr
families = record { same = same_address; blank = blank_address; valid = in_range; chars = chars_of }

and_left : (a b : Bool) → (a && b) ≡ true → a ≡ true
and_left true b e = refl
and_left false b e = e

and_right : (a b : Bool) → (a && b) ≡ true → b ≡ true
and_right true b e = e
and_right false b e = let z : ◌≡◌ {A = ℕ} 0 1 = cc in absurd (omega arith)

abbrev pub made : ℕ → ℕ → ℕ → ℕ → Addr
made f h l p = record { family = f; port = p; high = h; low = l }

families_test : Test same_address
unfolding same_address
families_test = record {
  same_refl = λ a. simp (eq-eqb a.family a.family refl, eq-eqb a.high a.high refl, eq-eqb a.low a.low refl, eq-eqb a.port a.port refl);
  same_eq = λ a b e.
      let x : (eqb a.family b.family && eqb a.high b.high) ≡ true = and_left _ _ e in
      let y : (eqb a.low b.low && eqb a.port b.port) ≡ true = and_right (eqb a.family b.family && eqb a.high b.high) _ e in
      let f = eqb-true a.family b.family (and_left _ _ x) in
      let h = eqb-true a.high b.high (and_right (eqb a.family b.family) _ x) in
      let l = eqb-true a.low b.low (and_left _ _ y) in
      let p = eqb-true a.port b.port (and_right (eqb a.low b.low) _ y) in
      λ i. record { family = f i; port = p i; high = h i; low = l i };
}

pub families_lawful : Lawful families
families_lawful = record { test = families_test }

pub text_of-long : (a : Addr) → length (text_of a) ≡ chars_of a
unfolding text_of chars_of
text_of-long a =
    elim (eqb a.family 6) as (λ u. length {A = ℕ} (pick u (text6 a.high a.low a.port) (text (number a)))
    ≡ pick u (length (text6 a.high a.low a.port)) (text_length (number a))) [
      | true ↦ refl
      | false ↦ text_is_long (number a)
    ]

-- "6 to 47 for IPv6, 9 to 21 for IPv4"
pub chars_of_bounds : (a : Addr) → (6 ≤ chars_of a) × (chars_of a ≤ 47)
unfolding chars_of
chars_of_bounds a =
    elim (eqb a.family 6) as (λ u. (6 ≤ pick u (length (text6 a.high a.low a.port)) (text_length (number a)))
    × (pick u (length (text6 a.high a.low a.port)) (text_length (number a)) ≤ 47)) [
      | true ↦ text6-length a.high a.low a.port
      | false ↦ let t = text-length (number a) in (omega (arith, t), omega (arith, t))
    ]

-- the code's ways out
pub in_range-six : (a : Addr) → a.port < 65536 → a.high < 2 ^ 64 → a.low < 2 ^ 64 → a.family ≡ 6 → true ≡ in_range a
unfolding in_range
in_range-six a p x y h = sym (simp (lt-ltb a.port 65536 p, eq-eqb a.family 6 h, lt-ltb a.high (2 ^ 64) x, lt-ltb a.low (2 ^ 64) y))

pub in_range_other : (a : Addr) (x y : Bool) → a.port < 65536 → (a.family ≡ 6 → ⊥) → y ≡ few_bits a → x ≡ (eqb a.family 4 && y) → x ≡ in_range a
unfolding in_range
in_range_other a x y p h e f =
    f ∙ ap (λ (u : Bool). eqb a.family 4 && u) e
    ∙ sym (ap (λ (u : Bool). u && pick (eqb a.family 6) (wide_bits a) (eqb a.family 4 && few_bits a)) (lt-ltb a.port 65536 p)
    ∙ ap (λ (u : Bool). pick u (wide_bits a) (eqb a.family 4 && few_bits a)) (ne_eqb a.family 6 h))

pub chars_six : (a : Addr) (n p : ℕ) → a.family ≡ 6 → p ≡ a.port → n ≡ length (text6 a.high a.low p) → n ≡ chars_of a
unfolding chars_of
chars_six a n p h e f =
    f ∙ ap (λ (x : ℕ). length (text6 a.high a.low x)) e
    ∙ sym (ap (λ (u : Bool). pick u (length (text6 a.high a.low a.port)) (text_length (number a))) (eq-eqb a.family 6 h))

pub chars_other : (a : Addr) (n m : ℕ) → (a.family ≡ 6 → ⊥) → m ≡ number a → n ≡ text_length m → n ≡ chars_of a
unfolding chars_of
chars_other a n m h e f =
    f ∙ ap text_length e
    ∙ sym (ap (λ (u : Bool). pick u (length (text6 a.high a.low a.port)) (text_length (number a))) (ne_eqb a.family 6 h))

-- what a range says
pub record Six (a : Addr) : Type 0 where
  pub family : a.family ≡ 6
  pub port : a.port < 65536
  pub high : a.high < 2 ^ 64
  pub low : a.low < 2 ^ 64

pub record Four (a : Addr) : Type 0 where
  pub family : a.family ≡ 4
  pub port : a.port < 65536
  pub high : a.high ≡ 0
  pub low : a.low < 2 ^ 32

pub in_range_is : (a : Addr) (P : Type 0) → in_range a ≡ true → (Six a → P) → (Four a → P) → P
unfolding in_range
in_range_is a P e six four =
    let p = ltb-true a.port 65536 (and_left _ _ e) in
    (elim (eqb a.family 6) as (λ u. eqb a.family 6 ≡ u → pick u (wide_bits a) (eqb a.family 4 && few_bits a) ≡ true → P) [
      | true ↦ λ q r. six (record {
        family = eqb-true a.family 6 q;
        port = p;
        high = ltb-true a.high (2 ^ 64) (and_left _ _ r);
        low = ltb-true a.low (2 ^ 64) (and_right (ltb a.high (2 ^ 64)) _ r);
      })
      | false ↦ λ q r. four (record {
        family = eqb-true a.family 4 (and_left _ _ r);
        port = p;
        high = eqb-true a.high 0 (and_left _ _ (and_right (eqb a.family 4) (few_bits a) r));
        low = ltb-true a.low (2 ^ 32) (and_right (eqb a.high 0) _ (and_right (eqb a.family 4) (few_bits a) r));
      })
    ]) refl (and_right (ltb a.port 65536) _ e)

-- the text of each family
pub text_of-six : (a : Addr) → a.family ≡ 6 → text_of a ≡ text6 a.high a.low a.port
unfolding text_of
text_of-six a h = ap (λ (u : Bool). pick u (text6 a.high a.low a.port) (text (number a))) (eq-eqb a.family 6 h)

pub text_of_other : (a : Addr) → (a.family ≡ 6 → ⊥) → text_of a ≡ text (number a)
unfolding text_of
text_of_other a h = ap (λ (u : Bool). pick u (text6 a.high a.low a.port) (text (number a))) (ne_eqb a.family 6 h)

-- an address of IPv4 is its number's
pub number_below : (a : Addr) → Four a → number a < 281474976710656
unfolding number
number_below a f = omega (arith, f.port)

pub numbered-back : (a : Addr) → Four a → numbered (number a) ≡ a
unfolding numbered number
numbered-back a f =
    let k : a.low % 4294967296 ≡ a.low = omega (arith, f.low) in
    let p : (a.low % 4294967296 * 65536 + a.port) % 65536 ≡ a.port = omega (arith, f.port) in
    let l : (a.low % 4294967296 * 65536 + a.port) / 65536 ≡ a.low = omega (arith, f.port, k) in
    λ i. record { family = mathlib.Core.Path.sym f.family i; port = p i; high = mathlib.Core.Path.sym f.high i; low = l i }
