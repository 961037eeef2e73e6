-- The length of a text, from what is counted of the groups.
-- Assumes nothing.
use Rattle.std.specs.Prelude.{◌≡◌, refl, Bool, true, false, List, [], ◌∷◌, ◌++◌, ℕ, zero, suc, ◌+◌, ◌*◌, ◌-◌, ◌/◌, ◌%◌, ◌^◌, ◌≤◌, ◌<◌, eqb, ltb, leb, length, take, drop}
use Rattle.std.proofs.Common.{ap, sym, ◌∙◌, arith, lit<, length-append, length-take, length-drop, length-take-le, lt-ltb, le-ltb, ltb-true, ltb-false, eqb-true, leb-true, leb-false, eq-eqb, ne_eqb}
use Rattle.std.proofs.lemmas.Bool.{eqb-false}
use Rattle.ip6.specs.Text6.{digit, numeral_in, decimal, hex, groups, leading, longest, place, behind, joined, without, plain, mapped, dotted, mark, ip6, text6}
use Rattle.ip6.specs.Numerals.{hex_1}
use Rattle.ip6.specs.Scanning.{digits, scan}
use Rattle.ip6.specs.declared.Scan.{Scan}

-- 1 if two numbers are the same, else 0
unfoldable pub one_if : ℕ → ℕ → ℕ
one_if a b = elim (eqb a b) [ true ↦ 1 | false ↦ 0 ]

-- of eight groups: seven colons between them; where a run is left out, a colon for each group that is left, and one more at an end of the text
unfoldable pub length_of : Scan → ℕ
length_of s =
    elim (ltb s.longest 2) [
      | true ↦ s.digits + 7
      | false ↦ s.digits - s.longest + (8 - s.longest + one_if s.place 0 + one_if (s.place + s.longest) 8)
    ]

behind-long : (gs : List ℕ) → length (behind gs) ≡ digits gs + length gs
unfolding behind digits
behind-long [] = refl
behind-long (g ∷ gs) = omega (arith, length-append (hex g) (behind gs), behind-long gs)

joined-long : (gs : List ℕ) → length (joined gs) ≡ digits gs + (length gs - 1)
unfolding joined digits
joined-long [] = refl
joined-long (g ∷ gs) = omega (arith, length-append (hex g) (behind gs), behind-long gs)

-- the digits of a run of zeros are as many as its groups
record Led (gs : List ℕ) : Type 0 where
  long : leading gs ≤ length gs
  counts : leading gs + digits (drop (leading gs) gs) ≡ digits gs

led : (gs : List ℕ) → Led gs
unfolding leading digits
led [] = record { long = omega arith; counts = refl }
led (g ∷ gs) =
    (elim (eqb g 0) as (λ u. eqb g 0 ≡ u → Led (g ∷ gs)) [
      | true ↦ λ e.
          let z : leading (g ∷ gs) ≡ suc (leading gs) = ap (λ (u : Bool). elim u [ true ↦ suc (leading gs) | false ↦ 0 ]) e in
          let n : g ≡ 0 = eqb-true g 0 e in
          let r = led gs in
          record {
            long = omega (arith, r.long);
            counts = ap (λ (k : ℕ). k + digits (drop k (g ∷ gs))) z ∙ omega (arith, r.counts, hex_1 g (omega arith));
          }
      | false ↦ λ e.
          let z : leading (g ∷ gs) ≡ 0 = ap (λ (u : Bool). elim u [ true ↦ suc (leading gs) | false ↦ 0 ]) e in
          record { long = omega arith; counts = ap (λ (k : ℕ). k + digits (drop k (g ∷ gs))) z ∙ omega arith }
    ]) refl

pub record Run (gs : List ℕ) (p n : ℕ) : Type 0 where
  pub long : p + n ≤ length gs
  pub counts : digits (take p gs) + (n + digits (drop (p + n) gs)) ≡ digits gs

run : (gs : List ℕ) → Run gs (place gs) (longest gs)
unfolding longest place digits
run [] = record { long = omega arith; counts = refl }
run (g ∷ gs) =
    elim (leb (longest gs) (leading (g ∷ gs))) as (λ u. Run (g ∷ gs) (elim u [ true ↦ 0 | false ↦ suc (place gs) ]) (elim u [ true ↦ leading (g ∷ gs) | false ↦ longest gs ])) [
      | true ↦
          let e : 0 + leading (g ∷ gs) ≡ leading (g ∷ gs) = omega arith in
          record {
            long = omega (arith, (led (g ∷ gs)).long);
            counts = ap (λ (k : ℕ). digits (take 0 (g ∷ gs)) + (leading (g ∷ gs) + digits (drop k (g ∷ gs)))) e ∙ omega (arith, (led (g ∷ gs)).counts);
          }
      | false ↦
          let r = run gs in
          let e : suc (place gs) + longest gs ≡ suc (place gs + longest gs) = omega arith in
          record {
            long = omega (arith, r.long);
            counts = ap (λ (k : ℕ). digits (take (suc (place gs)) (g ∷ gs)) + (longest gs + digits (drop k (g ∷ gs)))) e ∙ omega (arith, r.counts);
          }
    ]

pub run_fits : (gs : List ℕ) → place gs + longest gs ≤ length gs
run_fits gs = (run gs).long

pub record Fits (s : Scan) : Type 0 where
  pub low : s.longest ≤ s.digits
  pub end : s.place + s.longest ≤ 8

fits : (gs : List ℕ) → length gs ≡ 8 → Fits (scan gs)
unfolding scan
fits gs l = let r = run gs in record { low = omega (arith, r.counts); end = omega (arith, r.long) }

pub scan_fits : (gs : List ℕ) (s : Scan) → s ≡ scan gs → length gs ≡ 8 → Fits s
scan_fits gs s e l = rw e (fits gs l)

-- the code's ways out
pub plain-short : (s : Scan) → s.longest < 2 → s.digits + 7 ≡ length_of s
unfolding length_of
plain-short s h = sym (ap (λ (u : Bool). elim u [
  | true ↦ s.digits + 7
  | false ↦ s.digits - s.longest + (8 - s.longest + one_if s.place 0 + one_if (s.place + s.longest) 8)
]) (lt-ltb s.longest 2 h))

pub plain-left : (s : Scan) → 2 ≤ s.longest → s.digits - s.longest + (8 - s.longest + one_if s.place 0 + one_if (s.place + s.longest) 8) ≡ length_of s
unfolding length_of
plain-left s h = sym (ap (λ (u : Bool). elim u [
  | true ↦ s.digits + 7
  | false ↦ s.digits - s.longest + (8 - s.longest + one_if s.place 0 + one_if (s.place + s.longest) 8)
]) (le-ltb s.longest 2 h))

one_same : (a b : ℕ) → a ≡ b → one_if a b ≡ 1
unfolding one_if
one_same a b h = ap (λ (u : Bool). elim u [ true ↦ 1 | false ↦ 0 ]) (eq-eqb a b h)

one_other : (a b : ℕ) → (a ≡ b → ⊥) → one_if a b ≡ 0
unfolding one_if
one_other a b h = ap (λ (u : Bool). elim u [ true ↦ 1 | false ↦ 0 ]) (ne_eqb a b h)

-- what one_if is, by cases
data One (a b : ℕ) : ℕ → Type 0 where
  same : a ≡ b → One a b 1
  other : (a ≡ b → ⊥) → One a b 0

one : (a b : ℕ) → One a b (one_if a b)
unfolding one_if
one a b =
    (elim (eqb a b) as (λ u. eqb a b ≡ u → One a b (elim u [ true ↦ 1 | false ↦ 0 ])) [
      | true ↦ λ e. same (eqb-true a b e)
      | false ↦ λ e. other (λ q. eqb-false a b e q)
    ]) refl

-- p groups before the run of n and r behind it
colons : (p n r x y : ℕ) → p + n + r ≡ 8 → One p 0 x → One (p + n) 8 y → (p - 1) + (2 + (r - 1)) ≡ 8 - n + x + y
colons p n r x y h (same a) (same b) = omega arith
colons p n r x y h (same a) (other b) = omega arith
colons p n r x y h (other a) (same b) = omega arith
colons p n r x y h (other a) (other b) = omega arith

left-sum : (d n c a b before after j k : ℕ) → before + (n + after) ≡ d → a + (2 + b) ≡ c → j ≡ before + a → k ≡ after + b → j + suc (suc k) ≡ d - n + c
left-sum d n c a b before after j k e f g h = omega arith

left-long : (gs : List ℕ) (p n : ℕ) → length gs ≡ 8 → Run gs p n → length (without gs p n) ≡ digits gs - n + (8 - n + one_if p 0 + one_if (p + n) 8)
unfolding without
left-long gs p n l r =
    let h : p ≤ length gs = omega (arith, r.long) in
    let q : p + n + (8 - (p + n)) ≡ 8 = omega (arith, r.long) in
    let z : length (drop (p + n) gs) ≡ 8 - (p + n) = length-drop (p + n) gs ∙ ap (λ (x : ℕ). x - (p + n)) l in
    length-append (joined (take p gs)) (58 ∷ 58 ∷ joined (drop (p + n) gs))
    ∙ left-sum (digits gs) n (8 - n + one_if p 0 + one_if (p + n) 8) (p - 1) (8 - (p + n) - 1) (digits (take p gs)) (digits (drop (p + n) gs))
    (length (joined (take p gs))) (length (joined (drop (p + n) gs))) r.counts (colons p n (8 - (p + n)) (one_if p 0) (one_if (p + n) 8) q (one p 0) (one (p + n) 8))
    (joined-long (take p gs) ∙ ap (λ (x : ℕ). digits (take p gs) + (x - 1)) (length-take-le p gs h))
    (joined-long (drop (p + n) gs) ∙ ap (λ (x : ℕ). digits (drop (p + n) gs) + (x - 1)) z)

pub plain-long : (gs : List ℕ) → length gs ≡ 8 → length (plain gs) ≡ length_of (scan gs)
unfolding plain scan length_of
plain-long gs l =
    elim (ltb (longest gs) 2) as (λ u. length {A = ℕ} (elim u [ true ↦ joined gs | false ↦ without gs (place gs) (longest gs) ])
    ≡ elim u [
      | true ↦ digits gs + 7
      | false ↦ digits gs - longest gs + (8 - longest gs + one_if (place gs) 0 + one_if (place gs + longest gs) 8)
    ]) [
      | true ↦ joined-long gs ∙ ap (λ (x : ℕ). digits gs + (x - 1)) l
      | false ↦ left-long gs (place gs) (longest gs) l (run gs)
    ]

-- bounds
plain-least : (p n x y : ℕ) → p + n ≤ 8 → One p 0 x → One (p + n) 8 y → 2 ≤ 8 - n + x + y
plain-least p n x y h (same a) (same b) = omega arith
plain-least p n x y h (same a) (other b) = omega arith
plain-least p n x y h (other a) (same b) = omega arith
plain-least p n x y h (other a) (other b) = omega (arith, seven p n h a b)
  where
    seven : (p n : ℕ) → p + n ≤ 8 → (p ≡ 0 → ⊥) → (p + n ≡ 8 → ⊥) → n ≤ 6
    seven p n h a b = omega arith

pub left-least : (s : Scan) → s.place + s.longest ≤ 8 → 2 ≤ 8 - s.longest + one_if s.place 0 + one_if (s.place + s.longest) 8
left-least s h = plain-least s.place s.longest (one_if s.place 0) (one_if (s.place + s.longest) 8) h (one s.place 0) (one (s.place + s.longest) 8)

pub one_yes : (a b : ℕ) → a ≡ b → 1 ≡ one_if a b
one_yes a b h = sym (one_same a b h)

pub one_no : (a b : ℕ) → (a ≡ b → ⊥) → 0 ≡ one_if a b
one_no a b h = sym (one_other a b h)

-- the whole text
pub dotted-long : (low : ℕ) → length (dotted low)
    ≡ length (decimal (low / 16777216 % 256)) + length (decimal (low / 65536 % 256)) + length (decimal (low / 256 % 256)) + length (decimal (low % 256)) + 3
unfolding dotted
dotted-long low =
    let a : List ℕ = decimal (low / 16777216 % 256) in
    let b : List ℕ = decimal (low / 65536 % 256) in
    let c : List ℕ = decimal (low / 256 % 256) in
    let d : List ℕ = decimal (low % 256) in
    omega (arith, length-append a (46 ∷ (b ++ (46 ∷ (c ++ (46 ∷ d))))), length-append b (46 ∷ (c ++ (46 ∷ d))), length-append c (46 ∷ d))

pub text-long : (high low port : ℕ) → length (text6 high low port) ≡ length (ip6 high low) + length (decimal port) + 3
unfolding text6
text-long high low port = omega (arith, length-append (ip6 high low) (93 ∷ 58 ∷ decimal port))

pub mapped-long : (high low : ℕ) → mapped high low ≡ true → length (ip6 high low) ≡ length (dotted low) + 7
unfolding ip6
mapped-long high low h = ap (λ (u : Bool). length {A = ℕ} (elim u [ true ↦ mark ++ dotted low | false ↦ plain (groups high low) ])) h ∙ omega arith

pub other_long : (high low : ℕ) → mapped high low ≡ false → length (ip6 high low) ≡ length_of (scan (groups high low))
unfolding ip6
other_long high low h =
    ap (λ (u : Bool). length {A = ℕ} (elim u [ true ↦ mark ++ dotted low | false ↦ plain (groups high low) ])) h ∙ plain-long (groups high low) refl

-- the code's ways out
pub mapped_yes : (high low : ℕ) → high ≡ 0 → eqb (low / 4294967296) 65535 ≡ mapped high low
unfolding mapped
mapped_yes high low h = sym (ap (λ (u : Bool). elim u [ true ↦ eqb (low / 4294967296) 65535 | false ↦ false ]) (eq-eqb high 0 h))

pub mapped_no : (high low : ℕ) → (high ≡ 0 → ⊥) → false ≡ mapped high low
unfolding mapped
mapped_no high low h = sym (ap (λ (u : Bool). elim u [ true ↦ eqb (low / 4294967296) 65535 | false ↦ false ]) (ne_eqb high 0 h))

pub length-mapped : (high low port d p : ℕ) → true ≡ mapped high low → d ≡ length (dotted low) → p ≡ length (decimal port) → d + 7 + (p + 3) ≡ length (text6 high low port)
length-mapped high low port d p h e f = omega (arith, text-long high low port, mapped-long high low (sym h))

pub length_other : (high low port n p : ℕ) (s : Scan) → false ≡ mapped high low → s ≡ scan (groups high low) → n ≡ length_of s → p ≡ length (decimal port)
    → n + (p + 3) ≡ length (text6 high low port)
length_other high low port n p s h e f g =
    omega (arith, text-long high low port, other_long high low (sym h), f ∙ ap length_of e)
