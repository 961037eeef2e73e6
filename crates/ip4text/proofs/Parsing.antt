-- The loops that read a number and an address: what is passed and what is left come to the whole.
-- Assumes nothing.
use mathlib.Core.Path.{◌≡◌, refl, ap, sym, ◌∙◌}
use mathlib.Core.Bool.{true, false}
use mathlib.Core.List.{List, [], ◌∷◌}
use Prim.Native.Nat.{ℕ, zero, suc, ◌+◌, ◌*◌, ◌-◌, ◌^◌, ◌≤◌, ◌<◌}
use native.Mathlib.Omega.{arith}
use native.Mathlib.Numerals.{add-one}
use native.Mathlib.Nat.{pow-suc, pow-le-pow_right, lt_of_lt_of_le}
use lib.Dec.{eqb, leb, lit<}
use lib.ListN.{length, get_or, drop, take, drop_of_length-le, length-drop, get_or-eq_default}
use lib.Seq.{drop-cons, drop-drop}
use borrow.Author.Tests.{eq-eqb, ne_eqb, leb-true, eqb-true}
use Rattle.model.specs.Rows.{pick}
use Rattle.varint.specs.declared.Number.{Number}
use Rattle.varint.specs.declared.Number.TheVariants.{Stopped, Found}
use Rattle.varint.specs.Parts.{rest_of}
use Rattle.ip4text.specs.declared.Text.TheVariants.{Empty, Malformed, Given}
use Rattle.ip4text.specs.Reading.{is_digit, ended, digits_from, decimal_at, mark, marked, part_at, closed, parts_from, text_of}
use Rattle.ip4text.specs.Decimals.{digits_more, digits-over, digits_low, digits_high, digits_end, starts, zero_alone, nothing-there}

-- the start of a number
pub none-at : (limit : ℕ) (bytes : List ℕ) → length bytes ≡ 0 → Stopped ≡ decimal_at limit bytes
none-at limit [] h = sym (nothing-there limit)
none-at limit (b ∷ bytes) h = absurd (omega arith)

pub zero_at : (limit : ℕ) (bytes : List ℕ) → (length bytes ≡ 0 → ⊥) → get_or bytes 0 0 ≡ 48 → Found 0 1 ≡ decimal_at limit bytes
zero_at limit [] h e = absurd (h refl)
zero_at limit (b ∷ bytes) h e = sym (zero_alone limit b bytes e)

pub record Going (limit : ℕ) (bytes : List ℕ) (value i : ℕ) : Type 0 where
  pub within : i ≤ length bytes
  pub small : value ≤ limit
  pub says : decimal_at limit bytes ≡ digits_from limit value i (drop i bytes)

pub going_none : (limit : ℕ) (bytes : List ℕ) → (length bytes ≡ 0 → ⊥) → (get_or bytes 0 0 ≡ 48 → ⊥) → Going limit bytes 0 0
going_none limit [] h e = absurd (h refl)
going_none limit (b ∷ bytes) h e = record { within = omega arith; small = omega arith; says = starts limit b bytes e }

module _ (limit : ℕ) (bytes : List ℕ) (value i : ℕ) (g : Going limit bytes value i) where
  pub going_end : length bytes ≤ i → ended value i ≡ decimal_at limit bytes
  going_end h = sym (g.says ∙ ap (digits_from limit value i) (drop_of_length-le bytes h) ∙ digits_end limit value i)

  module _ (b : ℕ) (h : i < length bytes) (e : b ≡ get_or bytes i 0) where
    at_byte : decimal_at limit bytes ≡ digits_from limit value i (b ∷ drop (suc i) bytes)
    at_byte = g.says ∙ ap (digits_from limit value i) (drop-cons bytes i 0 h) ∙ ap (λ (x : ℕ). digits_from limit value i (x ∷ drop (suc i) bytes)) (sym e)

    pub going_low : b < 48 → ended value i ≡ decimal_at limit bytes
    going_low l = sym (at_byte ∙ digits_low limit value i b (drop (suc i) bytes) l)

    pub going_high : 57 < b → ended value i ≡ decimal_at limit bytes
    going_high l = sym (at_byte ∙ digits_high limit value i b (drop (suc i) bytes) l)

    pub going_over : 48 ≤ b → b ≤ 57 → limit < value * 10 + (b - 48) → Stopped ≡ decimal_at limit bytes
    going_over l k s = sym (at_byte ∙ digits-over limit value i b (drop (suc i) bytes) l k s)

    pub going_more : 48 ≤ b → b ≤ 57 → value * 10 + (b - 48) ≤ limit → Going limit bytes (value * 10 + (b - 48)) (i + 1)
    going_more l k s = record {
      within = omega arith;
      small = s;
      says =
          at_byte
          ∙ digits_more limit value i b (drop (suc i) bytes) l k s
          ∙ ap (λ (n : ℕ). digits_from limit (value * 10 + (b - 48)) n (drop n bytes)) (sym (add-one i));
    }

-- a number that is there stays within the limit and the bytes
unfoldable pub Within : ℕ → ℕ → Number → Type 0
Within limit n Stopped = Unit
Within limit n (Found v k) = (v ≤ limit) × (k ≤ n)

ended_within : (limit value i n : ℕ) → value ≤ limit → i ≤ n → Within limit n (ended value i)
unfolding Within ended
ended_within limit value i n h k =
    elim (eqb i 0) as (λ u. Within limit n (pick u Stopped (Found value i))) [ true ↦ tt | false ↦ (h, k) ]

digits_within : (limit value i n : ℕ) (bytes : List ℕ) → value ≤ limit → i + length bytes ≤ n → Within limit n (digits_from limit value i bytes)
unfolding Within digits_from
digits_within limit value i n [] h k = ended_within limit value i n h (omega arith)
digits_within limit value i n (b ∷ bytes) h k =
    elim (is_digit b) as (λ u. Within limit n (elim u [
      | true ↦ elim (leb (value * 10 + (b - 48)) limit) [ true ↦ digits_from limit (value * 10 + (b - 48)) (suc i) bytes | false ↦ Stopped ]
      | false ↦ ended value i
    ])) [
      | true ↦
          (elim (leb (value * 10 + (b - 48)) limit) as (λ u. leb (value * 10 + (b - 48)) limit ≡ u
          → Within limit n (elim u [ true ↦ digits_from limit (value * 10 + (b - 48)) (suc i) bytes | false ↦ Stopped ])) [
            | true ↦ λ e. digits_within limit (value * 10 + (b - 48)) (suc i) n bytes (leb-true (value * 10 + (b - 48)) limit e) (omega arith)
            | false ↦ λ e. tt
          ]) refl
      | false ↦ ended_within limit value i n h (omega arith)
    ]

decimal_within : (limit : ℕ) (bytes : List ℕ) → Within limit (length bytes) (decimal_at limit bytes)
unfolding Within decimal_at
decimal_within limit [] = tt
decimal_within limit (b ∷ bytes) =
    elim (eqb b 48) as (λ u. Within limit (suc (length bytes)) (pick u (Found 0 1) (digits_from limit 0 0 (b ∷ bytes)))) [
      | true ↦ (omega arith, omega arith)
      | false ↦ digits_within limit 0 0 (suc (length bytes)) (b ∷ bytes) (omega arith) (omega arith)
    ]

within : (limit n v k : ℕ) (r : Number) → Within limit n r → r ≡ Found v k → (v ≤ limit) × (k ≤ n)
unfolding Within
within limit n v k Stopped w e = let z : ◌≡◌ {A = ℕ} 0 1 = cc in absurd (omega arith)
within limit n v k (Found v' k') w e = let a : v' ≡ v = cc in let b : k' ≡ k = cc in omega arith

pub decimal_bounds : (limit : ℕ) (bytes : List ℕ) (v k : ℕ) → decimal_at limit bytes ≡ Found v k → (v ≤ limit) × (k ≤ length bytes)
decimal_bounds limit bytes v k e = within limit (length bytes) v k (decimal_at limit bytes) (decimal_within limit bytes) e

-- a number with its mark
pub part_none : (m : ℕ) (bytes : List ℕ) → decimal_at 255 bytes ≡ Stopped → Stopped ≡ part_at m bytes
unfolding part_at marked
part_none m bytes e = sym (ap (marked m bytes) e)

module _ (m : ℕ) (bytes : List ℕ) (v k : ℕ) (e : decimal_at 255 bytes ≡ Found v k) where
  pub part-short : 0 < m → length bytes ≤ k → Stopped ≡ part_at m bytes
  unfolding part_at marked
  part-short p h =
      let z : get_or bytes k 0 ≡ 0 = get_or-eq_default bytes 0 h in
      sym (ap (marked m bytes) e ∙ simp (ne_eqb (get_or bytes k 0) m (λ q. omega arith)))

  pub part_other : (get_or bytes k 0 ≡ m → ⊥) → Stopped ≡ part_at m bytes
  unfolding part_at marked
  part_other h = sym (ap (marked m bytes) e ∙ simp (ne_eqb (get_or bytes k 0) m h))

  pub part_found : get_or bytes k 0 ≡ m → Found v (k + 1) ≡ part_at m bytes
  unfolding part_at marked
  part_found h = ap (Found v) (add-one k) ∙ sym (ap (marked m bytes) e ∙ simp (eq-eqb (get_or bytes k 0) m h))

part_within : (m : ℕ) (bytes : List ℕ) → 0 < m → (r : Number) → Within 255 (length bytes) r → Within 255 (length bytes) (marked m bytes r)
unfolding Within marked
part_within m bytes p Stopped w = tt
part_within m bytes p (Found v k) w =
    (elim (eqb (get_or bytes k 0) m) as (λ u. eqb (get_or bytes k 0) m ≡ u → Within 255 (length bytes) (pick u (Found v (suc k)) Stopped)) [
      | true ↦ λ e. (w.0, inside bytes k m p (eqb-true (get_or bytes k 0) m e))
      | false ↦ λ e. tt
    ]) refl
  where
    inside : (l : List ℕ) (k m : ℕ) → 0 < m → get_or l k 0 ≡ m → suc k ≤ length l
    inside [] k m p e = absurd (omega arith)
    inside (x ∷ l) zero m p e = omega arith
    inside (x ∷ l) (suc k) m p e = let h = inside l k m p e in omega arith

pub part_bounds : (m : ℕ) (bytes : List ℕ) (v k : ℕ) → 0 < m → part_at m bytes ≡ Found v k → (v ≤ 255) × (k ≤ length bytes)
unfolding part_at
part_bounds m bytes v k p e = within 255 (length bytes) v k (part_at m bytes) (part_within m bytes p (decimal_at 255 bytes) (decimal_within 255 bytes)) e

pub part-rest_bounds : (m : ℕ) (bytes : List ℕ) (at v k : ℕ) → 0 < m → part_at m (take (length bytes - at) (drop at bytes)) ≡ Found v k
    → (v ≤ 255) × (k ≤ length bytes - at)
part-rest_bounds m bytes at v k p e =
    let w = part_bounds m (drop at bytes) v k p (ap (part_at m) (sym (rest_of bytes at)) ∙ e) in
    omega (arith, length-drop at bytes)

-- the address
pub empty_text : (bytes : List ℕ) → length bytes ≡ 0 → Empty ≡ text_of bytes
unfolding text_of
empty_text [] h = refl
empty_text (b ∷ bytes) h = absurd (omega arith)

pub record Reading (bytes : List ℕ) (ip at left : ℕ) : Type 0 where
  pub within : at ≤ length bytes
  pub few : left ≤ 4
  pub small : ip < 256 ^ (4 - left)
  pub says : text_of bytes ≡ parts_from left ip (drop at bytes)

pub reading_none : (bytes : List ℕ) → (length bytes ≡ 0 → ⊥) → Reading bytes 0 0 4
unfolding text_of
reading_none [] h = absurd (h refl)
reading_none (b ∷ bytes) h = record { within = omega arith; few = omega arith; small = lit< tt; says = refl }

power : (left : ℕ) → left ≤ 4 → 256 ^ (4 - left) ≤ 2 ^ 32
power left h = let h' : 4 - left ≤ 4 = omega arith in pow-le-pow_right (lit< tt) h'

module _ (bytes : List ℕ) (ip at left : ℕ) (g : Reading bytes ip at left) where
  pub ip_small : ip < 2 ^ 32
  ip_small = lt_of_lt_of_le g.small (power left g.few)

  pub ip_smaller : 0 < left → ip < 2 ^ 24
  ip_smaller h =
      let e : 4 - left ≤ 3 = omega (arith, g.few) in
      let p : 256 ^ (4 - left) ≤ 256 ^ 3 = pow-le-pow_right (lit< tt) e in
      lt_of_lt_of_le g.small p

  module _ (k : ℕ) (e : left ≡ suc k) where
    at_part : text_of bytes ≡ parts_from (suc k) ip (drop at bytes)
    at_part = g.says ∙ ap (λ (n : ℕ). parts_from n ip (drop at bytes)) e

    stop_part : part_at (mark left) (drop at bytes) ≡ Stopped → Malformed ≡ text_of bytes
    unfolding parts_from
    stop_part q =
        sym (at_part
        ∙ ap (λ (x : Number). elim x [ Stopped ↦ Malformed | Found v n ↦ parts_from k (ip * 256 + v) (drop n (drop at bytes)) ])
        (ap (λ (n : ℕ). part_at (mark n) (drop at bytes)) (sym e) ∙ q))

    more-part : (v n : ℕ) → part_at (mark left) (drop at bytes) ≡ Found v n → text_of bytes ≡ parts_from k (ip * 256 + v) (drop (at + n) bytes)
    unfolding parts_from
    more-part v n q =
        at_part
        ∙ ap (λ (x : Number). elim x [ Stopped ↦ Malformed | Found v n ↦ parts_from k (ip * 256 + v) (drop n (drop at bytes)) ])
        (ap (λ (n : ℕ). part_at (mark n) (drop at bytes)) (sym e) ∙ q)
        ∙ ap (parts_from k (ip * 256 + v)) (drop-drop n at bytes)

  pub reading_stop : (m : ℕ) (rest : List ℕ) → m ≡ mark left → rest ≡ drop at bytes → 0 < left → Stopped ≡ part_at m rest → Malformed ≡ text_of bytes
  reading_stop m rest a b h q =
      let s : left ≡ suc (left - 1) = omega arith in
      stop_part (left - 1) s (ap (λ (n : ℕ). part_at n (drop at bytes)) (sym a) ∙ ap (part_at m) (sym b) ∙ sym q)

  pub reading_more : (m : ℕ) (rest : List ℕ) (v n : ℕ) → m ≡ mark left → rest ≡ drop at bytes → 0 < left → 0 < m → Found v n ≡ part_at m rest
      → Reading bytes (ip * 256 + v) (at + n) (left - 1)
  reading_more m rest v n a b h p q =
      let s : left ≡ suc (left - 1) = omega arith in
      let w = part_bounds m rest v n p (sym q) in
      let t : 4 - (left - 1) ≡ suc (4 - left) = omega (arith, g.few) in
      let l : length rest ≡ length bytes - at = ap (λ (l : List ℕ). length l) b ∙ length-drop at bytes in
      record {
        within = omega (arith, g.within);
        few = omega (arith, g.few);
        small = rw (t, pow-suc) (omega (arith, g.small));
        says = more-part (left - 1) s v n (ap (λ (n : ℕ). part_at n (drop at bytes)) (sym a) ∙ ap (part_at m) (sym b) ∙ sym q);
      }

  module _ (rest : List ℕ) (b : rest ≡ drop at bytes) (z : left ≡ 0) where
    at-port : text_of bytes ≡ closed ip rest (decimal_at 65535 rest)
    unfolding parts_from
    at-port =
        g.says ∙ ap (λ (n : ℕ). parts_from n ip (drop at bytes)) z
        ∙ ap (λ (l : List ℕ). closed ip l (decimal_at 65535 l)) (sym b)

    pub port_stop : Stopped ≡ decimal_at 65535 rest → Malformed ≡ text_of bytes
    unfolding closed
    port_stop q = sym (at-port ∙ ap (closed ip rest) (sym q))

    rest-long : length rest ≡ length bytes - at
    rest-long = ap (λ (l : List ℕ). length l) b ∙ length-drop at bytes

    pub port_early : (v n : ℕ) → Found v n ≡ decimal_at 65535 rest → (n ≡ length bytes - at → ⊥) → Malformed ≡ text_of bytes
    unfolding closed
    port_early v n q h =
        let l = rest-long in
        sym (at-port ∙ ap (closed ip rest) (sym q) ∙ simp (ne_eqb n (length rest) (λ e. h (e ∙ l))))

    pub port_found : (v n : ℕ) → Found v n ≡ decimal_at 65535 rest → n ≡ length bytes - at → Given (ip * 65536 + v) ≡ text_of bytes
    unfolding closed
    port_found v n q h =
        let l = rest-long in
        sym (at-port ∙ ap (closed ip rest) (sym q) ∙ simp (eq-eqb n (length rest) (h ∙ sym l)))
