-- A field lies within the bytes; and what is written as a field is read as that field.
-- Assumes nothing.
use Rattle.std.specs.Prelude.{◌≡◌, Bool, List, ◌++◌, ℕ, ◌+◌, ◌-◌, ◌*◌, ◌/◌, ◌%◌, ◌^◌, ◌≤◌, ◌<◌, eqb, ltb, length, drop, take}
use Rattle.std.proofs.Math.Path.{refl}
use Rattle.std.proofs.Common.{ap, sym, ◌∙◌, subst, append_assoc, length-append, drop_at, take_at}
use Rattle.std.proofs.Math.Bool.{true, false}
use native.Mathlib.Omega.{arith}
use Rattle.std.proofs.Math.Dec.{leb}
use Rattle.std.proofs.Math.ListN.{length-drop}
use borrow.Author.Tests.{ne_eqb, le-leb, lt-ltb, leb-true}
use Rattle.model.specs.Rows.{pick}
use Rattle.types.specs.Wire.{varint, tag, delimited}
use Rattle.varint.specs.declared.Number.{Number}
use Rattle.varint.specs.declared.Number.TheVariants as number
use Rattle.varint.specs.Varint.{number_at}
use Rattle.varint.specs.VarintLaws.{number_bounds, number-back}
use Rattle.fields.specs.declared.Field.{Field}
use Rattle.fields.specs.declared.Next.{Next}
use Rattle.fields.specs.declared.Next.TheVariants.{Stopped, Found}
use Rattle.fields.specs.Field.{as_number, numbered, as_count, counted, fixed, by_wire, keyed, after_key, next_in}

-- where a field lies among n bytes, with a key of some bytes
pub record Lies (n : ℕ) (f : Field) : Type 0 where
  pub some : 1 ≤ f.head
  pub begins : f.head ≤ f.size
  pub ends : f.size ≤ n
  pub small : f.value < 2 ^ 64

unfoldable Within : ℕ → Next → Type 0
Within n Stopped = Unit
Within n (Found f) = Lies n f

module _ (bytes : List ℕ) (head n : ℕ) (h : 1 ≤ head) (k : head ≤ length bytes) where
  number_within : (r : Number) → number_at (drop head bytes) ≡ r → Within (length bytes) (as_number head n r)
  unfolding Within as_number
  number_within number.Stopped e = tt
  number_within (number.Found value size) e =
      let b = number_bounds (drop head bytes) value size e in
      let l = length-drop head bytes in
      record { some = h; begins = omega arith; ends = omega (arith, b.whole); small = b.small }

  count_within : (r : Number) → number_at (drop head bytes) ≡ r → Within (length bytes) (as_count bytes head n r)
  unfolding Within as_count
  count_within number.Stopped e = tt
  count_within (number.Found value size) e =
      let b = number_bounds (drop head bytes) value size e in
      (elim (leb (head + size + value) (length bytes)) as (λ u. leb (head + size + value) (length bytes) ≡ u → Within (length bytes) (pick u (Found (record { number = n; wire = 2; value = value; head = head + size; size = head + size + value })) Stopped)) [
        | true ↦ λ t. record { some = omega arith; begins = omega arith; ends = leb-true (head + size + value) (length bytes) t; small = b.small }
        | false ↦ λ t. tt
      ]) refl

  fixed_within : (wire width : ℕ) → Within (length bytes) (fixed bytes head n wire width)
  unfolding Within fixed
  fixed_within wire width =
      (elim (leb (head + width) (length bytes)) as (λ u. leb (head + width) (length bytes) ≡ u → Within (length bytes) (pick u (Found (record { number = n; wire = wire; value = 0; head = head; size = head + width })) Stopped)) [
        | true ↦ λ t. record { some = h; begins = omega arith; ends = leb-true (head + width) (length bytes) t; small = omega arith }
        | false ↦ λ t. tt
      ]) refl

  wire_within : (wire : ℕ) → Within (length bytes) (by_wire bytes head n wire)
  unfolding Within by_wire numbered counted
  wire_within wire =
      by (Within (length bytes)) (eqb wire 0) _ _ (number_within (number_at (drop head bytes)) refl)
      (by (Within (length bytes)) (eqb wire 1) _ _ (fixed_within 1 8)
      (by (Within (length bytes)) (eqb wire 2) _ _ (count_within (number_at (drop head bytes)) refl)
      (by (Within (length bytes)) (eqb wire 5) _ _ (fixed_within 5 4) tt)))
    where
      by : (P : Next → Type 0) (u : Bool) (x y : Next) → P x → P y → P (pick u x y)
      by P true x y p q = p
      by P false x y p q = q

keyed_within : (bytes : List ℕ) (key head : ℕ) → 1 ≤ head → head ≤ length bytes → Within (length bytes) (keyed bytes key head)
unfolding Within keyed
keyed_within bytes key head h k =
    by (Within (length bytes)) (ltb key (2 ^ 32)) _ _ (by (Within (length bytes)) (eqb (key / 8) 0) _ _ tt (wire_within bytes head (key / 8) h k (key % 8))) tt
  where
    by : (P : Next → Type 0) (u : Bool) (x y : Next) → P x → P y → P (pick u x y)
    by P true x y p q = p
    by P false x y p q = q

after_within : (bytes : List ℕ) (r : Number) → number_at bytes ≡ r → Within (length bytes) (after_key bytes r)
unfolding Within after_key
after_within bytes number.Stopped e = tt
after_within bytes (number.Found key head) e =
    let b = number_bounds bytes key head e in
    keyed_within bytes key head b.some b.whole

next_within : (bytes : List ℕ) → Within (length bytes) (next_in bytes)
unfolding next_in
next_within bytes = after_within bytes (number_at bytes) refl

lies : (n : ℕ) (r : Next) (f : Field) → Within n r → r ≡ Found f → Lies n f
unfolding Within
lies n Stopped f w e = let z : ◌≡◌ {A = ℕ} 0 1 = cc in absurd (omega arith)
lies n (Found g) f w e = let q : g ≡ f = cc in subst (Lies n) q w

pub next_lies : (bytes : List ℕ) (f : Field) → next_in bytes ≡ Found f → Lies (length bytes) f
next_lies bytes f e = lies (length bytes) (next_in bytes) f (next_within bytes) e

-- a key that is written
key_back : (n w : ℕ) (rest : List ℕ) → 1 ≤ n → n < 2 ^ 29 → w < 8 → next_in (tag n w ++ rest) ≡ by_wire (tag n w ++ rest) (length (tag n w)) n w
unfolding next_in after_key keyed
key_back n w rest h k l =
    let q : (n * 8 + w) / 8 ≡ n = omega arith in
    let m : (n * 8 + w) % 8 ≡ w = omega arith in
    let bytes : List ℕ = tag n w ++ rest in
    let head : ℕ = length (tag n w) in
    ap (after_key bytes) (number-back (n * 8 + w) rest (omega arith))
    ∙ ap (λ (u : Bool). pick u (pick (eqb ((n * 8 + w) / 8) 0) Stopped (by_wire bytes head ((n * 8 + w) / 8) ((n * 8 + w) % 8))) Stopped) (lt-ltb (n * 8 + w) (2 ^ 32) (omega arith))
    ∙ ap (λ (u : Bool). pick u Stopped (by_wire bytes head ((n * 8 + w) / 8) ((n * 8 + w) % 8))) (ne_eqb ((n * 8 + w) / 8) 0 (λ e. omega arith))
    ∙ ap (λ (x : ℕ). by_wire bytes head x ((n * 8 + w) % 8)) q
    ∙ ap (λ (x : ℕ). by_wire bytes head n x) m

-- a number that is written as a field
pub next-number : (n v : ℕ) (rest : List ℕ) → 1 ≤ n → n < 2 ^ 29 → v < 2 ^ 64
    → next_in (tag n 0 ++ varint v ++ rest)
    ≡ Found (record { number = n; wire = 0; value = v; head = length (tag n 0); size = length (tag n 0) + length (varint v) })
unfolding by_wire numbered as_number
next-number n v rest h k l =
    ap next_in (append_assoc (tag n 0) (varint v) rest)
    ∙ key_back n 0 (varint v ++ rest) h k (omega arith)
    ∙ ap (λ (r : List ℕ). as_number (length (tag n 0)) n (number_at r)) (drop_at (tag n 0) (varint v ++ rest) (length (tag n 0)) refl)
    ∙ ap (as_number (length (tag n 0)) n) (number-back v rest l)

-- bytes that are written as a field, with their count
abbrev pub head_of : ℕ → List ℕ → ℕ
head_of n bytes = length (tag n 2) + length (varint (length bytes))

pub delimited-long : (n : ℕ) (bytes : List ℕ) → length (delimited n bytes) ≡ head_of n bytes + length bytes
delimited-long n bytes = omega (arith, length-append (tag n 2) (varint (length bytes) ++ bytes), length-append (varint (length bytes)) bytes)

pub next-delimited : (n : ℕ) (bytes rest : List ℕ) → 1 ≤ n → n < 2 ^ 29 → length bytes < 2 ^ 64
    → next_in (delimited n bytes ++ rest)
    ≡ Found (record { number = n; wire = 2; value = length bytes; head = head_of n bytes; size = head_of n bytes + length bytes })
unfolding by_wire counted as_count
next-delimited n bytes rest h k l =
    let whole : List ℕ = tag n 2 ++ (varint (length bytes) ++ (bytes ++ rest)) in
    let e : delimited n bytes ++ rest ≡ whole =
    append_assoc (tag n 2) (varint (length bytes) ++ bytes) rest ∙ ap (λ (r : List ℕ). tag n 2 ++ r) (append_assoc (varint (length bytes)) bytes rest) in
    let z : length whole ≡ head_of n bytes + length bytes + length rest =
    omega (
      arith,
      length-append (tag n 2) (varint (length bytes) ++ (bytes ++ rest)),
      length-append (varint (length bytes)) (bytes ++ rest),
      length-append bytes rest,
    ) in
    ap next_in e
    ∙ key_back n 2 (varint (length bytes) ++ (bytes ++ rest)) h k (omega arith)
    ∙ ap (λ (r : List ℕ). as_count whole (length (tag n 2)) n (number_at r)) (drop_at (tag n 2) (varint (length bytes) ++ (bytes ++ rest)) (length (tag n 2)) refl)
    ∙ ap (as_count whole (length (tag n 2)) n) (number-back (length bytes) (bytes ++ rest) l)
    ∙ ap (λ (u : Bool). pick u (Found (record { number = n; wire = 2; value = length bytes; head = head_of n bytes; size = head_of n bytes + length bytes })) Stopped)
    (le-leb (head_of n bytes + length bytes) (length whole) (omega arith))

-- and they are its content
pub content-delimited : (n : ℕ) (bytes rest : List ℕ)
    → take (head_of n bytes + length bytes - head_of n bytes) (drop (head_of n bytes) (delimited n bytes ++ rest)) ≡ bytes
content-delimited n bytes rest =
    let s : head_of n bytes + length bytes - head_of n bytes ≡ length bytes = omega arith in
    let e : delimited n bytes ++ rest ≡ tag n 2 ++ varint (length bytes) ++ (bytes ++ rest) =
    append_assoc (tag n 2) (varint (length bytes) ++ bytes) rest ∙ ap (λ (r : List ℕ). tag n 2 ++ r) (append_assoc (varint (length bytes)) bytes rest)
    ∙ sym (append_assoc (tag n 2) (varint (length bytes)) (bytes ++ rest)) in
    let h : length (tag n 2 ++ varint (length bytes)) ≡ head_of n bytes = length-append (tag n 2) (varint (length bytes)) in
    ap (λ (k : ℕ). take k (drop (head_of n bytes) (delimited n bytes ++ rest))) s
    ∙ ap (λ (r : List ℕ). take (length bytes) (drop (head_of n bytes) r)) e
    ∙ ap (take (length bytes)) (drop_at (tag n 2 ++ varint (length bytes)) (bytes ++ rest) (head_of n bytes) h)
    ∙ take_at bytes rest (length bytes) refl
