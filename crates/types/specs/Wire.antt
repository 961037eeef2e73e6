-- The protobuf encoding of a gossip, and that its length is the size rule. Over any texts and any field numbers up to 15.
-- Assumes nothing.
use Rattle.std.specs.Prelude.{◌≡◌, refl, Bool, true, false, List, [], ◌∷◌, ◌++◌, ℕ, zero, suc, ◌+◌, ◌*◌, ◌/◌, ◌%◌, ◌^◌, ◌≤◌, ◌<◌, eqb, ltb, length}
use Rattle.std.proofs.Common.{ap, sym, ◌∙◌, arith, pow-suc, not-suc-le-zero, lt_of_lt_of_le, lit<, lit≤, length-append, lt-ltb, ltb-false, ltb-true}
use Rattle.std.proofs.Math.Nat.{pow-zero, one-le-pow}
use Rattle.model.specs.Rows.{pick}
use Rattle.model.specs.Size.{varint_from, varint_length, size_of_number, size_over}
use Rattle.types.specs.SizeLaws.{number_size}

-- a varint: seven bits a byte, the lowest first, and 128 more in each byte but the last; n steps are enough
unfoldable pub varint_in : ℕ → ℕ → List ℕ
varint_in zero n = n ∷ []
varint_in (suc f) n = elim (ltb n 128) [ true ↦ n ∷ [] | false ↦ (n % 128 + 128) ∷ varint_in f (n / 128) ]

unfoldable pub varint : ℕ → List ℕ
varint n = varint_in n n

-- a field begins with its number and its wire type: 0 a varint, 2 bytes with their count
abbrev pub tag : ℕ → ℕ → List ℕ
tag field wire = varint (field * 8 + wire)

-- a message, or bytes that are there
abbrev pub delimited : ℕ → List ℕ → List ℕ
delimited field bytes = tag field 2 ++ (varint (length bytes) ++ bytes)

-- the default is left out: of a string the empty one, of a number 0
abbrev pub string : ℕ → List ℕ → List ℕ
string field [] = []
string field (b ∷ bytes) = delimited field (b ∷ bytes)

abbrev pub number : ℕ → ℕ → List ℕ
number field n = pick (eqb n 0) [] (tag field 0 ++ varint n)

-- the field numbers of one kind of event: its own within a gossip, and those of its three fields
pub record Fields : Type 0 where
  pub event : ℕ
  pub from : ℕ
  pub subject : ℕ
  pub number : ℕ

pub record Small (k : Fields) : Type 0 where
  pub event : k.event ≤ 15
  pub from : k.from ≤ 15
  pub subject : k.subject ≤ 15
  pub number : k.number ≤ 15

-- the bytes of a gossip that holds an event
abbrev pub event_bytes : Fields → List ℕ → List ℕ → ℕ → List ℕ
event_bytes k from subject n = string k.from from ++ (string k.subject subject ++ number k.number n)

abbrev pub gossip_bytes : Fields → List ℕ → List ℕ → ℕ → List ℕ
gossip_bytes k from subject n = delimited k.event (event_bytes k from subject n)

-- what a varint's bytes stand for
unfoldable pub value_of : List ℕ → ℕ
value_of [] = 0
value_of (b ∷ bytes) = b % 128 + 128 * value_of bytes

-- any allowances that are enough give as many bytes
same_length : (f g n : ℕ) → n < 128 ^ suc f → n < 128 ^ suc g → length (varint_in f n) ≡ varint_from g n
unfolding varint_in varint_from
same_length zero zero n h k = refl
same_length zero (suc g) n h k = sym (ap (λ (u : Bool). elim u [ true ↦ 1 | false ↦ suc (varint_from g (n / 128)) ]) (lt-ltb n 128 h))
same_length (suc f) zero n h k = ap (λ (u : Bool). length {A = ℕ} (elim u [ true ↦ n ∷ [] | false ↦ (n % 128 + 128) ∷ varint_in f (n / 128) ])) (lt-ltb n 128 k)
same_length (suc f) (suc g) n h k =
    (elim (ltb n 128) as (λ u. ltb n 128 ≡ u →
    length {A = ℕ} (elim u [ true ↦ n ∷ [] | false ↦ (n % 128 + 128) ∷ varint_in f (n / 128) ])
    ≡ elim u [ true ↦ 1 | false ↦ suc (varint_from g (n / 128)) ]) [
      | true ↦ λ e. refl
      | false ↦ λ e. ap suc (same_length f g (n / 128) (seventh n (128 ^ suc f) (rw pow-suc at h)) (seventh n (128 ^ suc g) (rw pow-suc at k)))
    ]) refl
  where
    seventh : (n m : ℕ) → n < m * 128 → n / 128 < m
    seventh n m h = omega arith

under : (n : ℕ) → n < 128 ^ suc n
under zero = lit< tt
under (suc n) = rw pow-suc (omega (arith, under n))

pub varint-length : (n : ℕ) → n < 2 ^ 64 → length (varint n) ≡ varint_length n
unfolding varint varint_length
varint-length n h = same_length n 9 n (under n) (lt_of_lt_of_le h (lit≤ tt))

pub varint-one : (n : ℕ) → n < 128 → length (varint n) ≡ 1
unfolding varint varint_in
varint-one zero h = refl
varint-one (suc n) h =
    ap (λ (u : Bool). length {A = ℕ} (elim u [ true ↦ suc n ∷ [] | false ↦ (suc n % 128 + 128) ∷ varint_in n (suc n / 128) ])) (lt-ltb (suc n) 128 h)

-- the bytes stand for the number
value_in : (f n : ℕ) → n < 128 ^ suc f → value_of (varint_in f n) ≡ n
unfolding varint_in value_of
value_in zero n h = omega arith
value_in (suc f) n h =
    (elim (ltb n 128) as (λ u. ltb n 128 ≡ u → value_of (elim u [ true ↦ n ∷ [] | false ↦ (n % 128 + 128) ∷ varint_in f (n / 128) ]) ≡ n) [
      | true ↦ λ e. omega (arith, ltb-true n 128 e)
      | false ↦ λ e. omega (arith, value_in f (n / 128) (seventh n (128 ^ suc f) (rw pow-suc at h)))
    ]) refl
  where
    seventh : (n m : ℕ) → n < m * 128 → n / 128 < m
    seventh n m h = omega arith

pub varint-value : (n : ℕ) → value_of (varint n) ≡ n
unfolding varint
varint-value n = value_in n n (under n)

tag-length : (field wire : ℕ) → field ≤ 15 → wire < 8 → length (tag field wire) ≡ 1
tag-length field wire h k = varint-one (field * 8 + wire) (omega arith)

delimited-length : (field : ℕ) (bytes : List ℕ) → field ≤ 15 → length bytes < 128 → length (delimited field bytes) ≡ 2 + length bytes
delimited-length field bytes h k =
    omega (
      arith,
      length-append (tag field 2) (varint (length bytes) ++ bytes),
      length-append (varint (length bytes)) bytes,
      tag-length field 2 h (lit< tt),
      varint-one (length bytes) k,
    )

string-length : (field : ℕ) (bytes : List ℕ) → field ≤ 15 → 1 ≤ length bytes → length bytes < 128 → length (string field bytes) ≡ 2 + length bytes
string-length field [] h s k = absurd (not-suc-le-zero s)
string-length field (b ∷ bytes) h s k = delimited-length field (b ∷ bytes) h k

number-length : (field n : ℕ) → field ≤ 15 → n < 2 ^ 64 → length (number field n) ≡ size_of_number n
unfolding size_of_number
number-length field n h k =
    elim (eqb n 0) as (λ u. length (pick u [] (tag field 0 ++ varint n)) ≡ pick u 0 (1 + varint_length n)) [
      | true ↦ refl
      | false ↦ omega (arith, length-append (tag field 0) (varint n), tag-length field 0 h (lit< tt), varint-length n k)
    ]

-- the size rule is the length of the encoding: texts of 1 to 47 bytes keep the event's message below 128, and any number of 64 bits may be in it
pub wire_size :
    (k : Fields) (from subject : List ℕ) (n : ℕ) →
    Small k →
    1 ≤ length from →
    length from ≤ 47 →
    1 ≤ length subject →
    length subject ≤ 47 →
    n < 2 ^ 64 →
    length (gossip_bytes k from subject n) ≡ size_over (length from) (length subject) n
unfolding size_over
wire_size k from subject n small f₁ f₂ s₁ s₂ h =
    let a : length (string k.from from) ≡ 2 + length from = string-length k.from from small.from f₁ (omega arith) in
    let b : length (string k.subject subject) ≡ 2 + length subject =
    string-length k.subject subject small.subject s₁ (omega arith) in
    let c : length (number k.number n) ≡ size_of_number n = number-length k.number n small.number h in
    let w : length (event_bytes k from subject n) ≡ (2 + length from) + (2 + length subject) + size_of_number n =
    omega (
      arith,
      length-append (string k.from from) (string k.subject subject ++ number k.number n),
      length-append (string k.subject subject) (number k.number n),
    ) in
    omega (arith, delimited-length k.event (event_bytes k from subject n) small.event (omega (arith, number_size n)))
