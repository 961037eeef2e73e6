-- Each way out of the functions that read a field.
-- Assumes nothing.
use mathlib.Core.Path.{◌≡◌, ap, sym, ◌∙◌}
use mathlib.Core.List.{List}
use Prim.Native.Nat.{ℕ, ◌+◌, ◌-◌, ◌/◌, ◌%◌, ◌^◌, ◌≤◌, ◌<◌}
use native.Mathlib.Omega.{arith}
use lib.ListN.{length, drop, length-drop, drop_of_length-le}
use borrow.Author.Tests.{eq-eqb, ne_eqb, le-leb, lt-leb, lt-ltb, le-ltb}
use Rattle.varint.specs.declared.Number.TheVariants as number
use Rattle.varint.specs.Varint.{number_at}
use Rattle.varint.specs.VarintLaws.{number_bounds, number-none}
use Rattle.fields.specs.declared.Next.TheVariants.{Stopped, Found}
use Rattle.fields.specs.Field.{as_number, numbered, as_count, counted, fixed, by_wire, keyed, after_key, next_in}

-- a varint, or a count, behind the key
module _ (bytes : List ℕ) (head n : ℕ) where
  none_left : length bytes < head → number_at (drop head bytes) ≡ number.Stopped
  none_left h = let k : length bytes ≤ head = omega arith in ap number_at (drop_of_length-le bytes k) ∙ number-none

  pub number_short : length bytes < head → Stopped ≡ numbered bytes head n
  unfolding numbered as_number
  number_short h = sym (ap (as_number head n) (none_left h))

  pub count-short : length bytes < head → Stopped ≡ counted bytes head n
  unfolding counted as_count
  count-short h = sym (ap (as_count bytes head n) (none_left h))

  module _ (rest : List ℕ) (e : rest ≡ drop head bytes) where
    pub number_stop : number.Stopped ≡ number_at rest → Stopped ≡ numbered bytes head n
    unfolding numbered as_number
    number_stop q = sym (ap (λ (l : List ℕ). as_number head n (number_at l)) (sym e) ∙ ap (as_number head n) (sym q))

    pub count_stop : number.Stopped ≡ number_at rest → Stopped ≡ counted bytes head n
    unfolding counted as_count
    count_stop q = sym (ap (λ (l : List ℕ). as_count bytes head n (number_at l)) (sym e) ∙ ap (as_count bytes head n) (sym q))

    module _ (value size : ℕ) (q : number.Found value size ≡ number_at rest) where
      pub inside : (head ≤ length bytes) → (head + size ≤ length bytes) × (value < 2 ^ 64)
      inside h =
          let b = number_bounds rest value size (sym q) in
          let l : length rest ≡ length bytes - head = ap (λ (l : List ℕ). length l) e ∙ length-drop head bytes in
          (omega (arith, b.whole), b.small)

      pub number_found : Found (record { number = n; wire = 0; value = value; head = head; size = head + size }) ≡ numbered bytes head n
      unfolding numbered as_number
      number_found = sym (ap (λ (l : List ℕ). as_number head n (number_at l)) (sym e) ∙ ap (as_number head n) (sym q))

      counts : counted bytes head n ≡ as_count bytes head n (number.Found value size)
      unfolding counted
      counts = ap (λ (l : List ℕ). as_count bytes head n (number_at l)) (sym e) ∙ ap (as_count bytes head n) (sym q)

      pub count-over : length bytes < head + size + value → Stopped ≡ counted bytes head n
      unfolding as_count
      count-over h = sym (counts ∙ simp (lt-leb (head + size + value) (length bytes) h))

      pub count_found : head + size + value ≤ length bytes
          → Found (record { number = n; wire = 2; value = value; head = head + size; size = head + size + value }) ≡ counted bytes head n
      unfolding as_count
      count_found h = sym (counts ∙ simp (le-leb (head + size + value) (length bytes) h))

-- four or eight bytes
module _ (bytes : List ℕ) (head n wire width : ℕ) where
  pub fixed-over : length bytes < head + width → Stopped ≡ fixed bytes head n wire width
  unfolding fixed
  fixed-over h = simp (lt-leb (head + width) (length bytes) h)

  pub fixed_found : head + width ≤ length bytes → Found (record { number = n; wire = wire; value = 0; head = head; size = head + width }) ≡ fixed bytes head n wire width
  unfolding fixed
  fixed_found h = simp (le-leb (head + width) (length bytes) h)

-- by the key
module _ (bytes : List ℕ) (key head : ℕ) where
  pub key_over : 2 ^ 32 ≤ key → Stopped ≡ keyed bytes key head
  unfolding keyed
  key_over h = simp (le-ltb key (2 ^ 32) h)

  pub key_none : key < 2 ^ 32 → key / 8 ≡ 0 → Stopped ≡ keyed bytes key head
  unfolding keyed
  key_none h e = simp (lt-ltb key (2 ^ 32) h, eq-eqb (key / 8) 0 e)

  module _ (h : key < 2 ^ 32) (e : key / 8 ≡ 0 → ⊥) where
    by-wire : keyed bytes key head ≡ by_wire bytes head (key / 8) (key % 8)
    unfolding keyed
    by-wire = simp (lt-ltb key (2 ^ 32) h, ne_eqb (key / 8) 0 e)

    pub key_number : key % 8 ≡ 0 → numbered bytes head (key / 8) ≡ keyed bytes key head
    unfolding by_wire
    key_number w = sym (by-wire ∙ simp (eq-eqb (key % 8) 0 w))

    pub key_eight : key % 8 ≡ 1 → fixed bytes head (key / 8) 1 8 ≡ keyed bytes key head
    unfolding by_wire
    key_eight w = sym (by-wire ∙ simp (ne_eqb (key % 8) 0 (λ q. omega arith), eq-eqb (key % 8) 1 w))

    pub key_count : key % 8 ≡ 2 → counted bytes head (key / 8) ≡ keyed bytes key head
    unfolding by_wire
    key_count w = sym (by-wire ∙ simp (ne_eqb (key % 8) 0 (λ q. omega arith), ne_eqb (key % 8) 1 (λ q. omega arith), eq-eqb (key % 8) 2 w))

    pub key_four : key % 8 ≡ 5 → fixed bytes head (key / 8) 5 4 ≡ keyed bytes key head
    unfolding by_wire
    key_four w =
        sym (by-wire
        ∙ simp (ne_eqb (key % 8) 0 (λ q. omega arith), ne_eqb (key % 8) 1 (λ q. omega arith), ne_eqb (key % 8) 2 (λ q. omega arith), eq-eqb (key % 8) 5 w))

    pub key_other : (key % 8 ≡ 0 → ⊥) → (key % 8 ≡ 1 → ⊥) → (key % 8 ≡ 2 → ⊥) → (key % 8 ≡ 5 → ⊥) → Stopped ≡ keyed bytes key head
    unfolding by_wire
    key_other a b c d = sym (by-wire ∙ simp (ne_eqb (key % 8) 0 a, ne_eqb (key % 8) 1 b, ne_eqb (key % 8) 2 c, ne_eqb (key % 8) 5 d))

pub next_stop : (bytes : List ℕ) → number.Stopped ≡ number_at bytes → Stopped ≡ next_in bytes
unfolding next_in after_key
next_stop bytes e = sym (ap (after_key bytes) (sym e))

pub next_key : (bytes : List ℕ) (key head : ℕ) → number.Found key head ≡ number_at bytes → keyed bytes key head ≡ next_in bytes
unfolding next_in after_key
next_key bytes key head e = sym (ap (after_key bytes) (sym e))
