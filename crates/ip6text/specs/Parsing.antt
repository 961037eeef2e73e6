-- How the reader guesses an address: byte by byte, never refusing. Of a canonical text it guesses right; the comparison with the text of the guess
-- refuses all others.
-- Assumes nothing.
use Rattle.std.specs.Prelude.{◌≡◌, refl, Bool, true, false, List, [], ◌∷◌, ◌++◌, ℕ, zero, suc, ◌+◌, ◌*◌, ◌-◌, ◌/◌, ◌%◌, ◌^◌, ◌≤◌, ◌<◌, eqb, ltb, leb, length, get_or, set, drop}
use Rattle.std.proofs.Math.Path.{ap, sym}
use Rattle.std.proofs.Common.{◌∙◌, arith, pow-suc, drop-cons, lt-ltb, le-ltb, ltb-true, ltb-false, eq-eqb, ne_eqb, le-leb}
use Rattle.std.proofs.lemmas.Bool.{lt-leb}
use Rattle.ip6.specs.Text6.{digit, numeral_in, decimal, hex}
use Rattle.ip6.specs.Numerals.{one_in, more_in}
use Rattle.ip6text.specs.declared.Seen.{Seen}

-- the first where the test passes, else the second
abbrev pub either : Bool → Seen → Seen → Seen
either u x y = elim u [ true ↦ x | false ↦ y ]

yes : {u : Bool} (x y : Seen) → u ≡ true → either u x y ≡ x
yes x y e = ap (λ (w : Bool). either w x y) e

no : {u : Bool} (x y : Seen) → u ≡ false → either u x y ≡ y
no x y e = ap (λ (w : Bool). either w x y) e

-- the value of a digit
unfoldable pub digit_value : ℕ → ℕ
digit_value b = elim (ltb b 97) [ true ↦ b % 16 | false ↦ (b + 9) % 16 ]

-- the same but for the number being read
unfoldable pub number : Seen → ℕ → ℕ → ℕ → Seen
number s v d o = record {
  values = s.values;
  count = s.count;
  gap = s.gap;
  value = v;
  decimal = d;
  started = o;
  dotted = s.dotted;
  dots = s.dots;
  high = s.high;
  low = s.low;
}

unfoldable pub with_digit : Seen → ℕ → Seen
with_digit s v = number s (s.value % 4096 * 16 + v) (s.decimal % 10000 * 10 + v) 1

unfoldable pub fresh : Seen → Seen
fresh s = number s 0 0 0

-- the number being read as the next group
unfoldable pub pushed : Seen → Seen
pushed s = elim (leb 8 s.count) [
  | true ↦ s
  | false ↦ record {
    values = set s.values s.count s.value;
    count = s.count + 1;
    gap = s.gap;
    value = s.value;
    decimal = s.decimal;
    started = s.started;
    dotted = s.dotted;
    dots = s.dots;
    high = s.high;
    low = s.low;
  }
]

unfoldable pub gapped : Seen → Seen
gapped s = record {
  values = s.values;
  count = s.count;
  gap = s.count;
  value = 0;
  decimal = 0;
  started = 0;
  dotted = s.dotted;
  dots = s.dots;
  high = s.high;
  low = s.low;
}

-- a colon ends a group, or makes two colons
unfoldable pub with_colon : Seen → Seen
with_colon s = elim (eqb s.started 1) [ true ↦ fresh (pushed s) | false ↦ gapped s ]

unfoldable pub with_dot : Seen → Seen
with_dot s = record {
  values = s.values;
  count = s.count;
  gap = s.gap;
  value = 0;
  decimal = 0;
  started = 0;
  dotted = s.dotted % 65536 * 256 + s.decimal % 256;
  dots = 1;
  high = s.high;
  low = s.low;
}

-- the group at a place, the groups behind two colons moved to the end
unfoldable pub spread : List ℕ → ℕ → ℕ → ℕ → ℕ
spread values count gap i =
    elim (ltb i gap) [
      | true ↦ get_or values i 0 % 65536
      | false ↦ elim (leb 8 count) [
        | true ↦ get_or values i 0 % 65536
        | false ↦ elim (ltb (i - gap) (8 - count)) [ true ↦ 0 | false ↦ get_or values (i - (8 - count)) 0 % 65536 ]
      ]
    ]

unfoldable pub word : ℕ → ℕ → ℕ → ℕ → ℕ
word a b c d = ((a * 65536 + b) * 65536 + c) * 65536 + d

unfoldable pub ended : Seen → ℕ → ℕ → Seen
ended s h l = record {
  values = s.values;
  count = s.count;
  gap = s.gap;
  value = 0;
  decimal = 0;
  started = 0;
  dotted = s.dotted;
  dots = s.dots;
  high = h;
  low = l;
}

unfoldable pub whole : Seen → Seen
whole s = ended s
    (word (spread s.values s.count s.gap 0) (spread s.values s.count s.gap 1) (spread s.values s.count s.gap 2) (spread s.values s.count s.gap 3))
    (word (spread s.values s.count s.gap 4) (spread s.values s.count s.gap 5) (spread s.values s.count s.gap 6) (spread s.values s.count s.gap 7))

-- the bracket ends the address
unfoldable pub with_end : Seen → Seen
with_end s =
    elim (eqb s.dots 1) [
      | true ↦ ended s 0 (281470681743360 + (s.dotted % 16777216 * 256 + s.decimal % 256))
      | false ↦ elim (eqb s.started 1) [ true ↦ whole (pushed s) | false ↦ whole s ]
    ]

unfoldable pub next : Seen → ℕ → Seen
next s b =
    elim (eqb b 58) [
      | true ↦ with_colon s
      | false ↦ elim (eqb b 46) [
        | true ↦ with_dot s
        | false ↦ elim (eqb b 93) [ true ↦ with_end s | false ↦ elim (eqb b 91) [ true ↦ s | false ↦ with_digit s (digit_value b) ] ]
      ]
    ]

unfoldable pub run : Seen → List ℕ → Seen
run s [] = s
run s (b ∷ bytes) = run (next s b) bytes

-- nothing is read yet
unfoldable pub none : Seen
none = record {
  values = 0 ∷ 0 ∷ 0 ∷ 0 ∷ 0 ∷ 0 ∷ 0 ∷ 0 ∷ [];
  count = 0;
  gap = 0;
  value = 0;
  decimal = 0;
  started = 0;
  dotted = 0;
  dots = 0;
  high = 0;
  low = 0;
}

pub run-append : (s : Seen) (a b : List ℕ) → run s (a ++ b) ≡ run (run s a) b
unfolding run
run-append s [] b = refl
run-append s (x ∷ a) b = run-append (next s x) a b

-- a digit
digit-back_low : (d : ℕ) → d < 10 → digit_value (d + 48) ≡ d
unfolding digit_value
digit-back_low d h = ap (λ (u : Bool). elim u [ true ↦ (d + 48) % 16 | false ↦ (d + 48 + 9) % 16 ]) (lt-ltb (d + 48) 97 (omega arith)) ∙ omega arith

digit-back_high : (d : ℕ) → 10 ≤ d → d < 16 → digit_value (d + 87) ≡ d
unfolding digit_value
digit-back_high d l h = ap (λ (u : Bool). elim u [ true ↦ (d + 87) % 16 | false ↦ (d + 87 + 9) % 16 ]) (le-ltb (d + 87) 97 (omega arith)) ∙ omega arith

module _ (s : Seen) (b : ℕ) where
  abbrev third : Seen
  third = either (eqb b 91) s (with_digit s (digit_value b))

  abbrev second : Seen
  second = either (eqb b 93) (with_end s) (either (eqb b 91) s (with_digit s (digit_value b)))

  abbrev first : Seen
  first = either (eqb b 46) (with_dot s) (either (eqb b 93) (with_end s) (either (eqb b 91) s (with_digit s (digit_value b))))

  pub next_colon : b ≡ 58 → next s b ≡ with_colon s
  unfolding next
  next_colon h = yes (with_colon s) first (eq-eqb b 58 h)

  to_first : (b ≡ 58 → ⊥) → next s b ≡ first
  unfolding next
  to_first h = no (with_colon s) first (ne_eqb b 58 h)

  pub next_dot : (b ≡ 58 → ⊥) → b ≡ 46 → next s b ≡ with_dot s
  next_dot h i = to_first h ∙ yes (with_dot s) second (eq-eqb b 46 i)

  to_second : (b ≡ 58 → ⊥) → (b ≡ 46 → ⊥) → next s b ≡ second
  to_second h i = to_first h ∙ no (with_dot s) second (ne_eqb b 46 i)

  pub next_end : (b ≡ 58 → ⊥) → (b ≡ 46 → ⊥) → b ≡ 93 → next s b ≡ with_end s
  next_end h i j = to_second h i ∙ yes (with_end s) third (eq-eqb b 93 j)

  to_third : (b ≡ 58 → ⊥) → (b ≡ 46 → ⊥) → (b ≡ 93 → ⊥) → next s b ≡ third
  to_third h i j = to_second h i ∙ no (with_end s) third (ne_eqb b 93 j)

  pub next_open : (b ≡ 58 → ⊥) → (b ≡ 46 → ⊥) → (b ≡ 93 → ⊥) → b ≡ 91 → next s b ≡ s
  next_open h i j k = to_third h i j ∙ yes s (with_digit s (digit_value b)) (eq-eqb b 91 k)

  pub next_other : (b ≡ 58 → ⊥) → (b ≡ 46 → ⊥) → (b ≡ 93 → ⊥) → (b ≡ 91 → ⊥) → next s b ≡ with_digit s (digit_value b)
  next_other h i j k = to_third h i j ∙ no s (with_digit s (digit_value b)) (ne_eqb b 91 k)

pub next-digit : (s : Seen) (d : ℕ) → d < 16 → next s (digit d) ≡ with_digit s d
unfolding digit
next-digit s d h =
    (elim (ltb d 10) as (λ u. ltb d 10 ≡ u → next s (elim u [ true ↦ d + 48 | false ↦ d + 87 ]) ≡ with_digit s d) [
      | true ↦ λ e.
          let l : d < 10 = ltb-true d 10 e in
          next_other s (d + 48) (λ q. omega arith) (λ q. omega arith) (λ q. omega arith) (λ q. omega arith) ∙ ap (with_digit s) (digit-back_low d l)
      | false ↦ λ e.
          let l : 10 ≤ d = ltb-false d 10 e in
          next_other s (d + 87) (λ q. omega arith) (λ q. omega arith) (λ q. omega arith) (λ q. omega arith) ∙ ap (with_digit s) (digit-back_high d l h)
    ]) refl

pub run-one : (s : Seen) (b : ℕ) → run s (b ∷ []) ≡ next s b
unfolding run
run-one s b = refl

digit-on : (s : Seen) (v d o x : ℕ) → with_digit (number s v d o) x ≡ number s (v % 4096 * 16 + x) (d % 10000 * 10 + x) 1
unfolding with_digit number
digit-on s v d o x = refl

-- a number in hexadecimal is its value, and in decimal the other
pub record Reads (s : Seen) (bytes : List ℕ) (v : ℕ) : Type 0 where
  pub other : ℕ
  pub says : run (fresh s) bytes ≡ number s v other 1

pub record Counts (s : Seen) (bytes : List ℕ) (d : ℕ) : Type 0 where
  pub other : ℕ
  pub says : run (fresh s) bytes ≡ number s other d 1

fresh_is : (s : Seen) → fresh s ≡ number s 0 0 0
unfolding fresh
fresh_is s = refl

first_on : (s : Seen) (n : ℕ) → with_digit (fresh s) n ≡ number s n n 1
first_on s n =
    let a : 0 % 4096 * 16 + n ≡ n = omega arith in
    let b : 0 % 10000 * 10 + n ≡ n = omega arith in
    ap (λ (t : Seen). with_digit t n) (fresh_is s) ∙ digit-on s 0 0 0 n ∙ ap (λ (x : ℕ). number s x (0 % 10000 * 10 + n) 1) a ∙ ap (λ (x : ℕ). number s n x 1) b

one-back : (b f n : ℕ) (s : Seen) → b ≤ 16 → n < b → run (fresh s) (numeral_in b f n) ≡ number s n n 1
one-back b f n s t h =
    ap (run (fresh s)) (one_in b f n h) ∙ run-one (fresh s) (digit n) ∙ next-digit (fresh s) n (omega arith) ∙ first_on s n

more-back : (b f n : ℕ) (s : Seen) (v d : ℕ) → b ≤ n → n % b < 16 → run (fresh s) (numeral_in b f (n / b)) ≡ number s v d 1
    → run (fresh s) (numeral_in b (suc f) n) ≡ number s (v % 4096 * 16 + n % b) (d % 10000 * 10 + n % b) 1
more-back b f n s v d h l e =
    ap (run (fresh s)) (more_in b f n h)
    ∙ run-append (fresh s) (numeral_in b f (n / b)) (digit (n % b) ∷ [])
    ∙ ap (λ (t : Seen). run t (digit (n % b) ∷ [])) e
    ∙ run-one (number s v d 1) (digit (n % b))
    ∙ next-digit (number s v d 1) (n % b) l
    ∙ digit-on s v d 1 (n % b)

pub hex-back : (f n : ℕ) (s : Seen) → n < 16 ^ suc f → n < 65536 → Reads s (numeral_in 16 f n) n
hex-back zero n s h k = record { other = n; says = one-back 16 zero n s (omega arith) h }
hex-back (suc f) n s h k =
    (elim (ltb n 16) as (λ u. ltb n 16 ≡ u → Reads s (numeral_in 16 (suc f) n) n) [
      | true ↦ λ e. record { other = n; says = one-back 16 (suc f) n s (omega arith) (ltb-true n 16 e) }
      | false ↦ λ e.
          let r = hex-back f (n / 16) s (part n (16 ^ suc f) (rw pow-suc at h)) (omega arith) in
          let v : n / 16 % 4096 * 16 + n % 16 ≡ n = omega arith in
          record {
            other = r.other % 10000 * 10 + n % 16;
            says = more-back 16 f n s (n / 16) r.other (ltb-false n 16 e) (omega arith) r.says
                ∙ ap (λ (x : ℕ). number s x (r.other % 10000 * 10 + n % 16) 1) v;
          }
    ]) refl
  where
    part : (n m : ℕ) → n < m * 16 → n / 16 < m
    part n m h = omega arith

pub decimal-back : (f n : ℕ) (s : Seen) → n < 10 ^ suc f → n < 100000 → Counts s (numeral_in 10 f n) n
decimal-back zero n s h k = record { other = n; says = one-back 10 zero n s (omega arith) h }
decimal-back (suc f) n s h k =
    (elim (ltb n 10) as (λ u. ltb n 10 ≡ u → Counts s (numeral_in 10 (suc f) n) n) [
      | true ↦ λ e. record { other = n; says = one-back 10 (suc f) n s (omega arith) (ltb-true n 10 e) }
      | false ↦ λ e.
          let r = decimal-back f (n / 10) s (part n (10 ^ suc f) (rw pow-suc at h)) (omega arith) in
          let v : n / 10 % 10000 * 10 + n % 10 ≡ n = omega arith in
          record {
            other = r.other % 4096 * 16 + n % 10;
            says = more-back 10 f n s r.other (n / 10) (ltb-false n 10 e) (omega arith) r.says
                ∙ ap (λ (x : ℕ). number s (r.other % 4096 * 16 + n % 10) x 1) v;
          }
    ]) refl
  where
    part : (n m : ℕ) → n < m * 10 → n / 10 < m
    part n m h = omega arith

-- the code's ways out
pub value_low : (b x : ℕ) → x ≡ b → x < 97 → x % 16 ≡ digit_value b
unfolding digit_value
value_low b x e h = ap (λ (y : ℕ). y % 16) e ∙ sym (ap (λ (u : Bool). elim u [ true ↦ b % 16 | false ↦ (b + 9) % 16 ]) (lt-ltb b 97 (omega arith)))

pub value_high : (b x : ℕ) → x ≡ b → 97 ≤ x → (x + 9) % 16 ≡ digit_value b
unfolding digit_value
value_high b x e h = ap (λ (y : ℕ). (y + 9) % 16) e ∙ sym (ap (λ (u : Bool). elim u [ true ↦ b % 16 | false ↦ (b + 9) % 16 ]) (le-ltb b 97 (omega arith)))

-- the loop: the bytes passed and the bytes left come to the whole
pub record Going (bytes : List ℕ) (s : Seen) (i : ℕ) : Type 0 where
  pub within : i ≤ length bytes
  pub says : run s (drop i bytes) ≡ run none bytes

pub going_none : (bytes : List ℕ) → Going bytes (record {
  values = 0 ∷ 0 ∷ 0 ∷ 0 ∷ 0 ∷ 0 ∷ 0 ∷ 0 ∷ [];
  count = 0;
  gap = 0;
  value = 0;
  decimal = 0;
  started = 0;
  dotted = 0;
  dots = 0;
  high = 0;
  low = 0;
}) 0
unfolding none
going_none bytes = record { within = omega arith; says = refl }

run_more : (s : Seen) (b : ℕ) (l : List ℕ) → run s (b ∷ l) ≡ run (next s b) l
unfolding run
run_more s b l = refl

run_end : (s : Seen) → run s [] ≡ s
unfolding run
run_end s = refl

pub going_more : (bytes : List ℕ) (s t : Seen) (i : ℕ) → Going bytes s i → i < length bytes → t ≡ next s (get_or bytes i 0) → Going bytes t (i + 1)
going_more bytes s t i g h e =
    let f : i + 1 ≡ suc i = omega arith in
    record {
      within = omega arith;
      says =
          ap (λ (k : ℕ). run t (drop k bytes)) f ∙ ap (λ (x : Seen). run x (drop (suc i) bytes)) e
          ∙ sym (ap (run s) (drop-cons bytes i 0 h) ∙ run_more s (get_or bytes i 0) (drop (suc i) bytes)) ∙ g.says;
    }

pub going_end : (bytes : List ℕ) (s : Seen) (i : ℕ) → Going bytes s i → length bytes ≤ i → s ≡ run none bytes
going_end bytes s i g h = sym (run_end s) ∙ ap (run s) (sym (gone bytes i h)) ∙ g.says
  where
    gone : (l : List ℕ) (i : ℕ) → length l ≤ i → drop i l ≡ []
    gone [] zero h = refl
    gone [] (suc i) h = refl
    gone (x ∷ l) zero h = absurd (omega arith)
    gone (x ∷ l) (suc i) h = gone l i (omega arith)

pub pushed-full : (s : Seen) → 8 ≤ s.count → s ≡ pushed s
unfolding pushed
pushed-full s h = sym (yes s (record {
  values = set s.values s.count s.value;
  count = s.count + 1;
  gap = s.gap;
  value = s.value;
  decimal = s.decimal;
  started = s.started;
  dotted = s.dotted;
  dots = s.dots;
  high = s.high;
  low = s.low;
}) (le-leb 8 s.count h))

pub pushed-on : (s : Seen) → s.count < 8 → ◌≡◌ {A = Seen} (record {
  values = set s.values s.count s.value;
  count = s.count + 1;
  gap = s.gap;
  value = s.value;
  decimal = s.decimal;
  started = s.started;
  dotted = s.dotted;
  dots = s.dots;
  high = s.high;
  low = s.low;
}) (pushed s)
unfolding pushed
pushed-on s h = sym (no s (record {
  values = set s.values s.count s.value;
  count = s.count + 1;
  gap = s.gap;
  value = s.value;
  decimal = s.decimal;
  started = s.started;
  dotted = s.dotted;
  dots = s.dots;
  high = s.high;
  low = s.low;
}) (lt-leb 8 s.count h))

pub colon_group : (s : Seen) → s.started ≡ 1 → with_colon s ≡ fresh (pushed s)
unfolding with_colon
colon_group s h = yes (fresh (pushed s)) (gapped s) (eq-eqb s.started 1 h)

pub colon_gap : (s : Seen) → (s.started ≡ 1 → ⊥) → with_colon s ≡ gapped s
unfolding with_colon
colon_gap s h = no (fresh (pushed s)) (gapped s) (ne_eqb s.started 1 h)

module _ (s : Seen) where
  abbrev inner : Seen
  inner = either (eqb s.started 1) (whole (pushed s)) (whole s)

  pub end_dotted : s.dots ≡ 1 → with_end s ≡ ended s 0 (281470681743360 + (s.dotted % 16777216 * 256 + s.decimal % 256))
  unfolding with_end
  end_dotted h = yes (ended s 0 (281470681743360 + (s.dotted % 16777216 * 256 + s.decimal % 256))) inner (eq-eqb s.dots 1 h)

  to_inner : (s.dots ≡ 1 → ⊥) → with_end s ≡ inner
  unfolding with_end
  to_inner h = no (ended s 0 (281470681743360 + (s.dotted % 16777216 * 256 + s.decimal % 256))) inner (ne_eqb s.dots 1 h)

  pub end_group : (s.dots ≡ 1 → ⊥) → s.started ≡ 1 → with_end s ≡ whole (pushed s)
  end_group h i = to_inner h ∙ yes (whole (pushed s)) (whole s) (eq-eqb s.started 1 i)

  pub end_gap : (s.dots ≡ 1 → ⊥) → (s.started ≡ 1 → ⊥) → with_end s ≡ whole s
  end_gap h i = to_inner h ∙ no (whole (pushed s)) (whole s) (ne_eqb s.started 1 i)

-- the same for numbers
abbrev pub which : Bool → ℕ → ℕ → ℕ
which u x y = elim u [ true ↦ x | false ↦ y ]

module _ (values : List ℕ) (count gap i : ℕ) where
  abbrev moved : ℕ
  moved = get_or values (i - (8 - count)) 0 % 65536

  abbrev stays : ℕ
  stays = get_or values i 0 % 65536

  abbrev behind_gap : ℕ
  behind_gap = which (leb 8 count) stays (which (ltb (i - gap) (8 - count)) 0 moved)

  pub spread-before : i < gap → stays ≡ spread values count gap i
  unfolding spread
  spread-before h = sym (ap (λ (u : Bool). which u stays behind_gap) (lt-ltb i gap h))

  pub spread-full : gap ≤ i → 8 ≤ count → stays ≡ spread values count gap i
  unfolding spread
  spread-full h k =
      sym (ap (λ (u : Bool). which u stays behind_gap) (le-ltb i gap h)
      ∙ ap (λ (u : Bool). which u stays (which (ltb (i - gap) (8 - count)) 0 moved)) (le-leb 8 count k))

  pub spread_gap : gap ≤ i → count < 8 → i - gap < 8 - count → 0 ≡ spread values count gap i
  unfolding spread
  spread_gap h k l =
      sym (ap (λ (u : Bool). which u stays behind_gap) (le-ltb i gap h)
      ∙ ap (λ (u : Bool). which u stays (which (ltb (i - gap) (8 - count)) 0 moved)) (lt-leb 8 count k)
      ∙ ap (λ (u : Bool). which u 0 moved) (lt-ltb (i - gap) (8 - count) l))

  pub spread-behind : gap ≤ i → count < 8 → 8 - count ≤ i - gap → moved ≡ spread values count gap i
  unfolding spread
  spread-behind h k l =
      sym (ap (λ (u : Bool). which u stays behind_gap) (le-ltb i gap h)
      ∙ ap (λ (u : Bool). which u stays (which (ltb (i - gap) (8 - count)) 0 moved)) (lt-leb 8 count k)
      ∙ ap (λ (u : Bool). which u 0 moved) (le-ltb (i - gap) (8 - count) l))

pub whole_as : (s : Seen) (h l a b c d e f g i : ℕ)
    → a ≡ spread s.values s.count s.gap 0 → b ≡ spread s.values s.count s.gap 1 → c ≡ spread s.values s.count s.gap 2 → d ≡ spread s.values s.count s.gap 3
    → e ≡ spread s.values s.count s.gap 4 → f ≡ spread s.values s.count s.gap 5 → g ≡ spread s.values s.count s.gap 6 → i ≡ spread s.values s.count s.gap 7
    → h ≡ word a b c d → l ≡ word e f g i → ended s h l ≡ whole s
unfolding whole
whole_as s h l a b c d e f g i p0 p1 p2 p3 p4 p5 p6 p7 q r =
    let x : h ≡ word (spread s.values s.count s.gap 0) (spread s.values s.count s.gap 1) (spread s.values s.count s.gap 2) (spread s.values s.count s.gap 3) = cc in
    let y : l ≡ word (spread s.values s.count s.gap 4) (spread s.values s.count s.gap 5) (spread s.values s.count s.gap 6) (spread s.values s.count s.gap 7) = cc in
    ap (λ (z : ℕ). ended s z l) x
    ∙ ap (λ (z : ℕ). ended s (word (spread s.values s.count s.gap 0) (spread s.values s.count s.gap 1) (spread s.values s.count s.gap 2) (spread s.values s.count s.gap 3)) z) y
