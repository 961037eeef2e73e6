-- The text of an address reads back.
-- Assumes nothing.
use Rattle.std.specs.Prelude.{◌≡◌, refl, true, List, [], ◌∷◌, ◌++◌, ◌⊎◌, ℕ, suc, ◌+◌, ◌*◌, ◌/◌, ◌%◌, ◌^◌, ◌≤◌, ◌<◌, length, get_or, drop}
use Rattle.std.proofs.Common.{ap, sym, ◌∙◌, append_assoc, append-nil, inl, inr, arith, div-add-mod', lit<, length-append, eq-eqb, ltb-true}
use Rattle.std.proofs.Math.Nat.{div-div-eq-div-mul}
use Rattle.std.proofs.Math.Seq.{get_or-append_seam, drop-append-add}
use Rattle.address.specs.IPv4.{octet, port}
use Rattle.varint.specs.declared.Number.{Number}
use Rattle.varint.specs.declared.Number.TheVariants.{Stopped, Found}
use Rattle.address.specs.Text.{decimal, text}
use Rattle.ip4text.specs.declared.Text.TheVariants.{Malformed, Given}
use Rattle.ip4text.specs.Reading.{decimal_at, mark, marked, part_at, closed, parts_from, text_of}
use Rattle.ip4text.specs.Decimals.{NoDigit, decimal-back, decimal-some}

-- a part with its mark
unfoldable pub marks : ℕ → Type 0
marks m = m < 48 ⊎ 57 < m

part-back : (m n : ℕ) (rest : List ℕ) → marks m → n < 256 → part_at m (decimal n ++ (m ∷ rest)) ≡ Found n (suc (length (decimal n)))
unfolding part_at marked marks NoDigit
part-back m n rest d h =
    ap (marked m (decimal n ++ (m ∷ rest))) (decimal-back 255 n (m ∷ rest) (omega arith) (omega arith) d)
    ∙ simp (eq-eqb (get_or (decimal n ++ (m ∷ rest)) (length (decimal n)) 0) m (get_or-append_seam (decimal n) m rest 0))

past : (m n : ℕ) (rest : List ℕ) → drop (suc (length (decimal n))) (decimal n ++ (m ∷ rest)) ≡ rest
past m n rest =
    let e : suc (length (decimal n)) ≡ length (decimal n) + 1 = omega arith in
    ap (λ (k : ℕ). drop k (decimal n ++ (m ∷ rest))) e ∙ drop-append-add (decimal n) (m ∷ rest) 1

parts_back : (left ip n : ℕ) (rest : List ℕ) → marks (mark (suc left)) → n < 256
    → parts_from (suc left) ip (decimal n ++ (mark (suc left) ∷ rest)) ≡ parts_from left (ip * 256 + n) rest
unfolding parts_from
parts_back left ip n rest d h =
    ap (λ (x : Number). elim x [ Stopped ↦ Malformed | Found v k ↦ parts_from left (ip * 256 + v) (drop k (decimal n ++ (mark (suc left) ∷ rest))) ])
    (part-back (mark (suc left)) n rest d h)
    ∙ ap (parts_from left (ip * 256 + n)) (past (mark (suc left)) n rest)

port-back : (ip n : ℕ) → n < 65536 → parts_from 0 ip (decimal n) ≡ Given (ip * 65536 + n)
unfolding parts_from closed NoDigit
port-back ip n h =
    ap (closed ip (decimal n)) (ap (decimal_at 65535) (sym (append-nil (decimal n))) ∙ decimal-back 65535 n [] (omega arith) (omega arith) tt)
    ∙ simp (eq-eqb (length (decimal n)) (length (decimal n)) refl)

by_quotients : (a q0 q1 q2 q3 o0 o1 o2 p : ℕ) → a ≡ q0 * 65536 + p → q0 ≡ q1 * 256 + o0 → q1 ≡ q2 * 256 + o1 → q2 ≡ q3 * 256 + o2
    → ((((0 * 256 + q3) * 256 + o2) * 256 + o1) * 256 + o0) * 65536 + p ≡ a
by_quotients a q0 q1 q2 q3 o0 o1 o2 p ea e0 e1 e2 = omega arith

-- the five numbers say the address
numbers : (a : ℕ) → a < 2 ^ 48
    → ((((0 * 256 + octet a 3) * 256 + octet a 2) * 256 + octet a 1) * 256 + octet a 0) * 65536 + port a ≡ a
numbers a h =
    let d1 : a / 16777216 ≡ a / 65536 / 256 = sym (div-div-eq-div-mul a 65536 256) in
    let d2 : a / 4294967296 ≡ a / 16777216 / 256 = sym (div-div-eq-div-mul a 16777216 256) in
    let d3 : a / 1099511627776 ≡ a / 4294967296 / 256 = sym (div-div-eq-div-mul a 4294967296 256) in
    let s : a / 1099511627776 < 256 = omega arith in
    let t : octet a 3 ≡ a / 1099511627776 = small (a / 1099511627776) s in
    rw t
    (by_quotients a (a / 65536) (a / 16777216) (a / 4294967296) (a / 1099511627776) (octet a 0) (octet a 1) (octet a 2) (port a)
    (whole a 65536) (rw d1 (by256 (a / 65536))) (rw d2 (by256 (a / 16777216))) (rw d3 (by256 (a / 4294967296))))
  where
    small : (n : ℕ) → n < 256 → n % 256 ≡ n
    small n h = omega arith

    by256 : (n : ℕ) → n ≡ n / 256 * 256 + n % 256
    by256 n = omega arith

    whole : (n m : ℕ) → n ≡ n / m * m + n % m
    whole n m = sym (div-add-mod' n m)

pub regroup : (a b c d e : List ℕ) → a ++ b ++ c ++ d ++ e ≡ a ++ (b ++ (c ++ (d ++ e)))
regroup a b c d e = simp append_assoc

chain : (a b c d p : ℕ) → a < 256 → b < 256 → c < 256 → d < 256 → p < 65536
    → parts_from 4 0 (decimal a ++ (46 ∷ decimal b) ++ (46 ∷ decimal c) ++ (46 ∷ decimal d) ++ (58 ∷ decimal p))
    ≡ Given (((((0 * 256 + a) * 256 + b) * 256 + c) * 256 + d) * 65536 + p)
unfolding mark marks
chain a b c d p ha hb hc hd hp =
    ap (parts_from 4 0) (regroup (decimal a) (46 ∷ decimal b) (46 ∷ decimal c) (46 ∷ decimal d) (58 ∷ decimal p))
    ∙ parts_back 3 0 a _ (inl (lit< tt)) ha
    ∙ parts_back 2 (0 * 256 + a) b _ (inl (lit< tt)) hb
    ∙ parts_back 1 ((0 * 256 + a) * 256 + b) c _ (inl (lit< tt)) hc
    ∙ parts_back 0 (((0 * 256 + a) * 256 + b) * 256 + c) d _ (inr (lit< tt)) hd
    ∙ port-back ((((0 * 256 + a) * 256 + b) * 256 + c) * 256 + d) p hp

pub text-some : (t : List ℕ) → 1 ≤ length t → text_of t ≡ parts_from 4 0 t
unfolding text_of
text-some [] h = absurd (omega arith)
text-some (b ∷ t) h = refl

first_some : (a b : List ℕ) → 1 ≤ length a → 1 ≤ length (a ++ b)
first_some a b h = omega (arith, length-append a b)

pub text-long : (a : ℕ) → 1 ≤ length (text a)
text-long a =
    let a3 : List ℕ = decimal (octet a 3) in
    let a2 : List ℕ = 46 ∷ decimal (octet a 2) in
    let a1 : List ℕ = 46 ∷ decimal (octet a 1) in
    let a0 : List ℕ = 46 ∷ decimal (octet a 0) in
    first_some (a3 ++ a2 ++ a1 ++ a0) (58 ∷ decimal (port a)) (first_some (a3 ++ a2 ++ a1) a0 (first_some (a3 ++ a2) a1 (first_some a3 a2 (decimal-some (octet a 3)))))

pub text-back : (a : ℕ) → a < 2 ^ 48 → text_of (text a) ≡ Given a
text-back a h =
    text-some (text a) (text-long a)
    ∙ chain (octet a 3) (octet a 2) (octet a 1) (octet a 0) (port a) (omega arith) (omega arith) (omega arith) (omega arith) (omega arith)
    ∙ ap Given (numbers a h)
