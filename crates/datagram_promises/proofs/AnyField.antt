-- A FIELD OF ANY WIRE TYPE, IN ANY SPELLING: its key, its number or its count need not be the shortest. The reader finds it, with its number and its length, whatever stands behind it.
-- Assumes nothing.
use Rattle.std.specs.Prelude.{◌≡◌, refl, Bool, true, false, eqb, ltb, take, drop}
use Rattle.std.proofs.Math.Path.{ap}
use Rattle.std.proofs.Common.{sym, ◌∙◌, subst, pow-suc, lt_of_lt_of_le, lit≤, drop_at, take_at, ne_eqb, lt-ltb, le-leb, ltb-true, ltb-false}
use mathlib.Core.List.{List, ◌∷◌, ◌++◌, append_assoc}
use Prim.Native.Nat.{ℕ, zero, suc, ◌+◌, ◌*◌, ◌-◌, ◌/◌, ◌%◌, ◌^◌, ◌≤◌, ◌<◌}
use native.Mathlib.Omega.{arith}
use Rattle.std.proofs.Math.ListN.{length, length-append}
use Rattle.model.specs.Rows.{pick}
use Rattle.types.specs.Wire.{tag, varint, delimited}
use Rattle.varint.specs.declared.Number.TheVariants as number
use Rattle.varint.specs.Varint.{above, number_in, below64, number_at}
use Rattle.varint.specs.VarintLaws.{varint-last, varint-more, number-last, number_more}
use Rattle.fields.specs.declared.Field.{Field}
use Rattle.fields.specs.declared.Next.TheVariants.{Stopped, Found}
use Rattle.fields.specs.Field.{as_number, numbered, as_count, counted, fixed, by_wire, keyed, after_key, next_in, content}
use Rattle.fields.specs.Walk.{read, Step, walk}
use Rattle.fields.specs.Walks.{walk_field}
use Rattle.datagram_promises.specs.AnyField.{Spells, Holds, Numbers, OfAnyWire, number_field, bytes_field, spells_last, spells_more, wire_0, wire_1, wire_2, wire_5}

-- ---- a number that is spelled is read
spells_some : {f v : ℕ} {bytes : List ℕ} → Spells f v bytes → 1 ≤ length bytes
spells_some (spells_last f b h) = omega arith
spells_some (spells_more f b v bytes h s) = omega arith

spells_read : {f v : ℕ} {bytes : List ℕ} → Spells f v bytes → (rest : List ℕ) → number_in f (bytes ++ rest) ≡ number.Found v (length bytes)
unfolding above
spells_read (spells_last f b h) rest = number-last f b rest h
spells_read (spells_more f b v bytes h s) rest =
    let low : b + 128 - 128 ≡ b = omega arith in
    number_more f (b + 128) (bytes ++ rest) (omega arith)
    ∙ ap (above (b + 128 - 128)) (spells_read s rest)
    ∙ ap (λ (x : ℕ). number.Found (x + 128 * v) (suc (length bytes))) low

number_read : (v : ℕ) (bytes rest : List ℕ) → Spells 10 v bytes → v < 2 ^ 64 → number_at (bytes ++ rest) ≡ number.Found v (length bytes)
unfolding number_at below64
number_read v bytes rest s h =
    ap below64 (spells_read s rest) ∙ ap (λ (u : Bool). pick u (number.Found v (length bytes)) number.Stopped) (lt-ltb v (2 ^ 64) h)

-- the shortest spelling is one
shortest_in : (f n : ℕ) → n < 128 ^ suc f → Spells (suc f) n (varint n)
shortest_in zero n h = subst (λ (l : List ℕ). Spells 1 n l) (sym (varint-last n h)) (spells_last zero n h)
shortest_in (suc f) n h =
    (elim (ltb n 128) as (λ u. ltb n 128 ≡ u → Spells (suc (suc f)) n (varint n)) [
      | true ↦ λ e. let l : n < 128 = ltb-true n 128 e in subst (λ (x : List ℕ). Spells (suc (suc f)) n x) (sym (varint-last n l)) (spells_last (suc f) n l)
      | false ↦ λ e.
          let q : n < 128 ^ suc f * 128 = rw pow-suc at h in
          let whole : n % 128 + 128 * (n / 128) ≡ n = omega arith in
          let s : Spells (suc (suc f)) (n % 128 + 128 * (n / 128)) ((n % 128 + 128) ∷ varint (n / 128)) = spells_more (suc f) (n % 128) (n / 128) (varint (n / 128)) (omega arith) (shortest_in f (n / 128) (seventh n (128 ^ suc f) q)) in
          subst (λ (x : List ℕ). Spells (suc (suc f)) n x) (sym (varint-more n (ltb-false n 128 e))) (subst (λ (k : ℕ). Spells (suc (suc f)) k ((n % 128 + 128) ∷ varint (n / 128))) whole s)
    ]) refl
  where
    seventh : (n m : ℕ) → n < m * 128 → n / 128 < m
    seventh n m h = omega arith

pub shortest : (n : ℕ) → n < 2 ^ 64 → Spells 10 n (varint n)
shortest n h = shortest_in 9 n (lt_of_lt_of_le h (lit≤ tt))

pub shortest-number : (n v : ℕ) → n < 2 ^ 29 → v < 2 ^ 64 → Numbers n (tag n 0 ++ varint v) v
shortest-number n v k l =
    record { key = tag n 0; value = varint v; is = refl; key_says = shortest (n * 8 + 0) (omega arith); value-says = shortest v l; small = l }

pub shortest-bytes : (n : ℕ) (bytes : List ℕ) → n < 2 ^ 29 → length bytes < 2 ^ 64 → Holds n (delimited n bytes) bytes
shortest-bytes n bytes k l =
    record { key = tag n 2; count = varint (length bytes); is = refl; key_says = shortest (n * 8 + 2) (omega arith); count-says = shortest (length bytes) l; few = l }

-- ---- a field that is spelled is found
record Stands (n : ℕ) (a rest : List ℕ) : Type 0 where
  pub field : Field
  pub found : next_in (a ++ rest) ≡ Found field
  pub is_number : field.number ≡ n
  pub long : field.size ≡ length a
  pub some : 1 ≤ length a

module _ (n w : ℕ) (key rest : List ℕ) (some : 1 ≤ n) (below : n < 2 ^ 29) (few : w < 8) (s : Spells 10 (n * 8 + w) key) where
  key_read : next_in (key ++ rest) ≡ by_wire (key ++ rest) (length key) n w
  unfolding next_in after_key keyed
  key_read =
      let q : (n * 8 + w) / 8 ≡ n = omega arith in
      let m : (n * 8 + w) % 8 ≡ w = omega arith in
      let all : List ℕ = key ++ rest in
      let head : ℕ = length key in
      ap (after_key all) (number_read (n * 8 + w) key rest s (omega arith))
      ∙ ap (λ (u : Bool). pick u (pick (eqb ((n * 8 + w) / 8) 0) Stopped (by_wire all head ((n * 8 + w) / 8) ((n * 8 + w) % 8))) Stopped) (lt-ltb (n * 8 + w) (2 ^ 32) (omega arith))
      ∙ ap (λ (u : Bool). pick u Stopped (by_wire all head ((n * 8 + w) / 8) ((n * 8 + w) % 8))) (ne_eqb ((n * 8 + w) / 8) 0 (λ e. omega arith))
      ∙ ap (λ (x : ℕ). by_wire all head x ((n * 8 + w) % 8)) q
      ∙ ap (λ (x : ℕ). by_wire all head n x) m

  -- eight or four bytes that are there
  fixed_read : (width : ℕ) → length key + width ≤ length (key ++ rest) → fixed (key ++ rest) (length key) n w width ≡ Found (record { number = n; wire = w; value = 0; head = length key; size = length key + width })
  unfolding fixed
  fixed_read width h =
      ap (λ (u : Bool). pick u (Found (record { number = n; wire = w; value = 0; head = length key; size = length key + width })) Stopped) (le-leb (length key + width) (length (key ++ rest)) h)

module _ (n v : ℕ) (field : List ℕ) (h : Numbers n field v) where
  pub number-long : length h.key + length h.value ≡ length field
  number-long = sym (ap (λ (l : List ℕ). length l) h.is ∙ length-append h.key h.value)

  pub number-some : 1 ≤ length field
  number-some = omega (arith, number-long, spells_some h.key_says)

  pub number_found : (rest : List ℕ) → 1 ≤ n → n < 2 ^ 29 → next_in (field ++ rest) ≡ Found (number_field h)
  unfolding by_wire numbered as_number
  number_found rest some below =
      ap (λ (l : List ℕ). next_in (l ++ rest)) h.is
      ∙ ap next_in (append_assoc h.key h.value rest)
      ∙ key_read n 0 h.key (h.value ++ rest) some below (omega arith) h.key_says
      ∙ ap (λ (r : List ℕ). as_number (length h.key) n (number_at r)) (drop_at h.key (h.value ++ rest) (length h.key) refl)
      ∙ ap (as_number (length h.key) n) (number_read v h.value rest h.value-says h.small)

module _ (n : ℕ) (field bytes : List ℕ) (h : Holds n field bytes) where
  abbrev head_long : ℕ
  head_long = length h.key + length h.count

  pub bytes-long : head_long + length bytes ≡ length field
  bytes-long = omega (arith, ap (λ (l : List ℕ). length l) h.is, length-append h.key (h.count ++ bytes), length-append h.count bytes)

  pub bytes-some : 1 ≤ length field
  bytes-some = omega (arith, bytes-long, spells_some h.key_says)

  parted : (rest : List ℕ) → field ++ rest ≡ h.key ++ (h.count ++ (bytes ++ rest))
  parted rest =
      ap (λ (l : List ℕ). l ++ rest) h.is
      ∙ append_assoc h.key (h.count ++ bytes) rest
      ∙ ap (λ (r : List ℕ). h.key ++ r) (append_assoc h.count bytes rest)

  pub bytes_found : (rest : List ℕ) → 1 ≤ n → n < 2 ^ 29 → next_in (field ++ rest) ≡ Found (bytes_field h)
  unfolding by_wire counted as_count
  bytes_found rest some below =
      let all : List ℕ = h.key ++ (h.count ++ (bytes ++ rest)) in
      let z : length all ≡ head_long + length bytes + length rest = omega (arith, length-append h.key (h.count ++ (bytes ++ rest)), length-append h.count (bytes ++ rest), length-append bytes rest) in
      ap next_in (parted rest)
      ∙ key_read n 2 h.key (h.count ++ (bytes ++ rest)) some below (omega arith) h.key_says
      ∙ ap (λ (r : List ℕ). as_count all (length h.key) n (number_at r)) (drop_at h.key (h.count ++ (bytes ++ rest)) (length h.key) refl)
      ∙ ap (as_count all (length h.key) n) (number_read (length bytes) h.count (bytes ++ rest) h.count-says h.few)
      ∙ ap (λ (u : Bool). pick u (Found (bytes_field h)) Stopped) (le-leb (head_long + length bytes) (length all) (omega arith))

  -- and they are its content
  pub bytes-content : (rest : List ℕ) → content (field ++ rest) (bytes_field h) ≡ bytes
  bytes-content rest =
      let k : head_long + length bytes - head_long ≡ length bytes = omega arith in
      let e : field ++ rest ≡ (h.key ++ h.count) ++ (bytes ++ rest) = parted rest ∙ sym (append_assoc h.key h.count (bytes ++ rest)) in
      ap (λ (m : ℕ). take m (drop head_long (field ++ rest))) k
      ∙ ap (λ (r : List ℕ). take (length bytes) (drop head_long r)) e
      ∙ ap (take (length bytes)) (drop_at (h.key ++ h.count) (bytes ++ rest) head_long (length-append h.key h.count))
      ∙ take_at bytes rest (length bytes) refl

stands : (n : ℕ) (a rest : List ℕ) → OfAnyWire n a → 1 ≤ n → n < 2 ^ 29 → Stands n a rest
unfolding by_wire
stands n _ rest (wire_0 field v h) some below =
    record { field = number_field h; found = number_found n v field h rest some below; is_number = refl; long = number-long n v field h; some = number-some n v field h }
stands n _ rest (wire_1 key bytes k e) some below =
    let l : length key + 8 ≤ length (key ++ (bytes ++ rest)) = omega (arith, e, length-append key (bytes ++ rest), length-append bytes rest) in
    record {
      field = record { number = n; wire = 1; value = 0; head = length key; size = length key + 8 };
      found = ap next_in (append_assoc key bytes rest) ∙ key_read n 1 key (bytes ++ rest) some below (omega arith) k ∙ fixed_read n 1 key (bytes ++ rest) some below (omega arith) k 8 l;
      is_number = refl;
      long = omega (arith, e, length-append key bytes);
      some = omega (arith, spells_some k, length-append key bytes);
    }
stands n _ rest (wire_2 field bytes h) some below =
    record { field = bytes_field h; found = bytes_found n field bytes h rest some below; is_number = refl; long = bytes-long n field bytes h; some = bytes-some n field bytes h }
stands n _ rest (wire_5 key bytes k e) some below =
    let l : length key + 4 ≤ length (key ++ (bytes ++ rest)) = omega (arith, e, length-append key (bytes ++ rest), length-append bytes rest) in
    record {
      field = record { number = n; wire = 5; value = 0; head = length key; size = length key + 4 };
      found = ap next_in (append_assoc key bytes rest) ∙ key_read n 5 key (bytes ++ rest) some below (omega arith) k ∙ fixed_read n 5 key (bytes ++ rest) some below (omega arith) k 4 l;
      is_number = refl;
      long = omega (arith, e, length-append key bytes);
      some = omega (arith, spells_some k, length-append key bytes);
    }

-- a field at which a step changes nothing is passed over
pub passed_over : {S : Type 0} (step : Step S) (place n : ℕ) (a rest : List ℕ) (s : S) → OfAnyWire n a → 1 ≤ n → n < 2 ^ 29
    → ((f : Field) → f.number ≡ n → step s place (a ++ rest) f ≡ read s) → walk step place (a ++ rest) s ≡ walk step (place + length a) rest s
passed_over step place n a rest s w h b q =
    let x = stands n a rest w h b in
    walk_field step place a rest s s x.field x.some x.long x.found (q x.field x.is_number)
