-- What reads as an address is its text, to the letter: with `text-back`, exactly the canonical texts are read.
-- Assumes nothing.
use Rattle.std.specs.Prelude.{◌≡◌, refl, true, false, ◌&&◌, ℕ, ◌^◌, suc, ◌+◌, ◌*◌, ◌-◌, ◌/◌, ◌%◌, ◌≤◌, ◌<◌, eqb, leb, length, get_or, drop}
use Rattle.std.proofs.Math.Path.{ap, sym, subst}
use Rattle.std.proofs.Common.{◌∙◌, arith, lit<, lit≤, length-append, get_or-append-add, eqb-true, leb-true, lt-ltb}
use mathlib.Core.List.{List, [], ◌∷◌, ◌++◌, append-nil}
use Rattle.std.proofs.Math.Seq.{append_snoc, drop-append-add}
use Rattle.std.proofs.lemmas.Bool.{eqb-false}
use Rattle.model.specs.Rows.{pick}
use Rattle.varint.specs.declared.Number.{Number}
use Rattle.varint.specs.declared.Number.TheVariants.{Stopped, Found}
use Rattle.address.specs.Text.{decimal, text}
use Rattle.utf8.specs.Utf8.{utf8}
use Rattle.ip4text.specs.Letters.{text-utf8}
use Rattle.ip4text.specs.declared.Text.TheVariants.{Malformed, Given}
use Rattle.ip4text.specs.Reading.{ended, digits_from, decimal_at, mark, marked, part_at, closed, parts_from, text_of}
use Rattle.address.specs.IPv4.{octet, port}
use Rattle.ip4text.specs.Decimals.{decimal-one, decimal-more}
use Rattle.ip4text.specs.Texts.{regroup}

-- the bytes begin with the digits of v, which are k
pub record Begins (limit : ℕ) (bytes : List ℕ) (v k : ℕ) : Type 0 where
  pub small : v ≤ limit
  pub left : List ℕ
  pub says : bytes ≡ decimal v ++ left
  pub size : k ≡ length (decimal v)

-- and so if the digits of n stand before them
abbrev Goes : ℕ → ℕ → ℕ → List ℕ → Number → Type 0
Goes limit n k bytes r = (v m : ℕ) → r ≡ Found v m → k ≡ length (decimal n) → Begins limit (decimal n ++ bytes) v m

no_number : (v m : ℕ) → Stopped ≡ Found v m → ⊥
no_number v m e = let z : ◌≡◌ {A = ℕ} 0 1 = cc in omega arith

ended-goes : (limit n k : ℕ) (bytes : List ℕ) → n ≤ limit → Goes limit n k bytes (ended n k)
unfolding ended
ended-goes limit n k bytes h v m e l =
    (elim (eqb k 0) as (λ u. pick u Stopped (Found n k) ≡ Found v m → Begins limit (decimal n ++ bytes) v m) [
      | true ↦ λ q. absurd (no_number v m q)
      | false ↦ λ q.
          let a : n ≡ v = cc in
          let b : k ≡ m = cc in
          subst (λ (x : ℕ). Begins limit (decimal n ++ bytes) x m) a
          (record { small = h; left = bytes; says = refl; size = sym b ∙ l })
    ]) e

-- one more digit
next-digit : (n b : ℕ) → 1 ≤ n → 48 ≤ b → b ≤ 57 → n * 10 + (b - 48) < 100000 → decimal (n * 10 + (b - 48)) ≡ decimal n ++ (b ∷ [])
next-digit n b p l h s =
    let q : (n * 10 + (b - 48)) / 10 ≡ n = omega arith in
    let r : (n * 10 + (b - 48)) % 10 + 48 ≡ b = omega arith in
    decimal-more (n * 10 + (b - 48)) (omega arith) s
    ∙ ap (λ (x : ℕ). decimal x ++ (((n * 10 + (b - 48)) % 10 + 48) ∷ [])) q
    ∙ ap (λ (x : ℕ). decimal n ++ (x ∷ [])) r

digits-go : (limit n k : ℕ) (bytes : List ℕ) → limit < 100000 → 1 ≤ n → n ≤ limit → Goes limit n k bytes (digits_from limit n k bytes)
unfolding digits_from
digits-go limit n k [] t p h = ended-goes limit n k [] h
digits-go limit n k (b ∷ bytes) t p h =
    (elim (leb 48 b) as (λ u. leb 48 b ≡ u → Goes limit n k (b ∷ bytes) (elim (u && leb b 57) [
      | true ↦ elim (leb (n * 10 + (b - 48)) limit) [ true ↦ digits_from limit (n * 10 + (b - 48)) (suc k) bytes | false ↦ Stopped ]
      | false ↦ ended n k
    ])) [
      | false ↦ λ q. ended-goes limit n k (b ∷ bytes) h
      | true ↦ λ q.
          (elim (leb b 57) as (λ u. leb b 57 ≡ u → Goes limit n k (b ∷ bytes) (elim u [
            | true ↦ elim (leb (n * 10 + (b - 48)) limit) [ true ↦ digits_from limit (n * 10 + (b - 48)) (suc k) bytes | false ↦ Stopped ]
            | false ↦ ended n k
          ])) [
            | false ↦ λ r. ended-goes limit n k (b ∷ bytes) h
            | true ↦ λ r.
                (elim (leb (n * 10 + (b - 48)) limit) as (λ u. leb (n * 10 + (b - 48)) limit ≡ u → Goes limit n k (b ∷ bytes) (elim u [ true ↦ digits_from limit (n * 10 + (b - 48)) (suc k) bytes | false ↦ Stopped ])) [
                  | false ↦ λ s v m e l. absurd (no_number v m e)
                  | true ↦ λ s v m e l.
                      let s' : n * 10 + (b - 48) ≤ limit = leb-true (n * 10 + (b - 48)) limit s in
                      let d : decimal (n * 10 + (b - 48)) ≡ decimal n ++ (b ∷ []) = next-digit n b p (leb-true 48 b q) (leb-true b 57 r) (omega arith) in
                      let z : suc k ≡ length (decimal (n * 10 + (b - 48))) =
                      omega (arith, ap (λ (x : List ℕ). length x) d, length-append (decimal n) (b ∷ [])) in
                      subst (λ (x : List ℕ). Begins limit x v m) (ap (λ (x : List ℕ). x ++ bytes) d ∙ append_snoc (decimal n) b bytes)
                      (digits-go limit (n * 10 + (b - 48)) (suc k) bytes t (omega arith) s' v m e z)
                ]) refl
          ]) refl
    ]) refl

-- a number begins the bytes that it is read from
first-digit : (b : ℕ) → 48 < b → b ≤ 57 → decimal (0 * 10 + (b - 48)) ≡ b ∷ []
first-digit b l h =
    let e : 0 * 10 + (b - 48) + 48 ≡ b = omega arith in
    decimal-one (0 * 10 + (b - 48)) (omega arith) ∙ ap (λ (x : ℕ). x ∷ []) e

no_digits : (v m : ℕ) → ended 0 0 ≡ Found v m → ⊥
unfolding ended
no_digits v m e = no_number v m e

starts_so : (limit b : ℕ) (bytes : List ℕ) (v m : ℕ) → 9 ≤ limit → limit < 100000 → (b ≡ 48 → ⊥) → digits_from limit 0 0 (b ∷ bytes) ≡ Found v m → Begins limit (b ∷ bytes) v m
unfolding digits_from
starts_so limit b bytes v m n t z e =
    (elim (leb 48 b) as (λ u. leb 48 b ≡ u → (elim (u && leb b 57) [
      | true ↦ elim (leb (0 * 10 + (b - 48)) limit) [ true ↦ digits_from limit (0 * 10 + (b - 48)) 1 bytes | false ↦ Stopped ]
      | false ↦ ended 0 0
    ]) ≡ Found v m → Begins limit (b ∷ bytes) v m) [
      | false ↦ λ q r. absurd (no_digits v m r)
      | true ↦ λ q.
          (elim (leb b 57) as (λ u. leb b 57 ≡ u → (elim u [
            | true ↦ elim (leb (0 * 10 + (b - 48)) limit) [ true ↦ digits_from limit (0 * 10 + (b - 48)) 1 bytes | false ↦ Stopped ]
            | false ↦ ended 0 0
          ]) ≡ Found v m → Begins limit (b ∷ bytes) v m) [
            | false ↦ λ p r. absurd (no_digits v m r)
            | true ↦ λ p.
                (elim (leb (0 * 10 + (b - 48)) limit) as (λ u. leb (0 * 10 + (b - 48)) limit ≡ u
                → (elim u [ true ↦ digits_from limit (0 * 10 + (b - 48)) 1 bytes | false ↦ Stopped ]) ≡ Found v m → Begins limit (b ∷ bytes) v m) [
                  | false ↦ λ s r. absurd (no_number v m r)
                  | true ↦ λ s r.
                      let l : 48 ≤ b = leb-true 48 b q in
                      let h : b ≤ 57 = leb-true b 57 p in
                      let l' : 48 < b = strictly b z l in
                      let d = first-digit b l' h in
                      subst (λ (x : List ℕ). Begins limit (x ++ bytes) v m) d
                      (digits-go limit (0 * 10 + (b - 48)) 1 bytes t (omega arith) (leb-true (0 * 10 + (b - 48)) limit s) v m r (sym (ap (λ (x : List ℕ). length x) d)))
                ]) refl
          ]) refl
    ]) refl e
  where
    strictly : (b : ℕ) → (b ≡ 48 → ⊥) → 48 ≤ b → 48 < b
    strictly b z l = omega arith

begins : (limit : ℕ) (bytes : List ℕ) (v m : ℕ) → 9 ≤ limit → limit < 100000 → decimal_at limit bytes ≡ Found v m → Begins limit bytes v m
unfolding decimal_at
begins limit [] v m n t e = absurd (no_number v m e)
begins limit (b ∷ bytes) v m n t e =
    (elim (eqb b 48) as (λ u. eqb b 48 ≡ u → pick u (Found 0 1) (digits_from limit 0 0 (b ∷ bytes)) ≡ Found v m → Begins limit (b ∷ bytes) v m) [
      | true ↦ λ q r.
          let x : 0 ≡ v = cc in
          let y : 1 ≡ m = cc in
          let d = decimal-one 0 (lit< tt) in
          subst (λ (w : ℕ). Begins limit (b ∷ bytes) w m) x
          (record {
            small = omega arith;
            left = bytes;
            says = ap (λ (w : ℕ). w ∷ bytes) (eqb-true b 48 q) ∙ ap (λ (w : List ℕ). w ++ bytes) (sym d);
            size = sym y ∙ sym (ap (λ (w : List ℕ). length w) d);
          })
      | false ↦ λ q r. starts_so limit b bytes v m n t (λ z. eqb-false b 48 q z) r
    ]) refl e

-- a part, with its mark
record Part (m : ℕ) (bytes : List ℕ) (v k : ℕ) : Type 0 where
  small : v ≤ 255
  left : List ℕ
  says : bytes ≡ decimal v ++ (m ∷ left)
  rest : drop k bytes ≡ left

after-mark : (m v : ℕ) (left : List ℕ) → 0 < m → get_or (decimal v ++ left) (length (decimal v)) 0 ≡ m → (r : List ℕ) × (left ≡ m ∷ r)
after-mark m v left p e = go left (sym z ∙ e)
  where
    z : get_or (decimal v ++ left) (length (decimal v)) 0 ≡ get_or left 0 0
    z = let y : length (decimal v) ≡ length (decimal v) + 0 = omega arith in ap (λ (n : ℕ). get_or (decimal v ++ left) n 0) y ∙ get_or-append-add (decimal v) left 0 0

    go : (l : List ℕ) → get_or l 0 0 ≡ m → (r : List ℕ) × (l ≡ m ∷ r)
    go [] q = absurd (omega arith)
    go (x ∷ l) q = (l, ap (λ (w : ℕ). w ∷ l) q)

part_of : (m : ℕ) (bytes : List ℕ) (v k : ℕ) → 0 < m → part_at m bytes ≡ Found v k → Part m bytes v k
unfolding part_at marked
part_of m bytes v k p e = go (decimal_at 255 bytes) refl e
  where
    past : (v : ℕ) (r : List ℕ) → drop (suc (length (decimal v))) (decimal v ++ (m ∷ r)) ≡ r
    past v r = let y : suc (length (decimal v)) ≡ length (decimal v) + 1 = omega arith in ap (λ (n : ℕ). drop n (decimal v ++ (m ∷ r))) y ∙ drop-append-add (decimal v) (m ∷ r) 1

    made : (w j : ℕ) → Begins 255 bytes w j → get_or bytes j 0 ≡ m → Part m bytes w (suc j)
    made w j b q =
        let x = after-mark m w b.left p (ap (λ (n : ℕ). get_or (decimal w ++ b.left) n 0) (sym b.size) ∙ ap (λ (l : List ℕ). get_or l j 0) (sym b.says) ∙ q) in
        let s : bytes ≡ decimal w ++ (m ∷ x.0) = b.says ∙ ap (λ (l : List ℕ). decimal w ++ l) x.1 in
        record {
          small = b.small;
          left = x.0;
          says = s;
          rest = ap (drop (suc j)) s ∙ ap (λ (n : ℕ). drop (suc n) (decimal w ++ (m ∷ x.0))) b.size ∙ past w x.0;
        }

    go : (r : Number) → decimal_at 255 bytes ≡ r → marked m bytes r ≡ Found v k → Part m bytes v k
    go Stopped f q = absurd (no_number v k q)
    go (Found w j) f q =
        (elim (eqb (get_or bytes j 0) m) as (λ u. eqb (get_or bytes j 0) m ≡ u → pick u (Found w (suc j)) Stopped ≡ Found v k → Part m bytes v k) [
          | false ↦ λ t r. absurd (no_number v k r)
          | true ↦ λ t r.
              let a : w ≡ v = cc in
              let b : suc j ≡ k = cc in
              subst (λ (n : ℕ). Part m bytes v n) b
              (subst (λ (n : ℕ). Part m bytes n (suc j)) a (made w j (begins 255 bytes w j (lit≤ tt) (lit< tt) f) (eqb-true (get_or bytes j 0) m t)))
        ]) refl q

no_text : (a : ℕ) → Malformed ≡ Given a → ⊥
no_text a e = let z : ◌≡◌ {A = ℕ} 0 1 = cc in omega arith

-- the parts in turn
record Peeled (left ip : ℕ) (bytes : List ℕ) (a : ℕ) : Type 0 where
  v : ℕ
  small : v ≤ 255
  behind : List ℕ
  says : bytes ≡ decimal v ++ (mark (suc left) ∷ behind)
  goes : parts_from left (ip * 256 + v) behind ≡ Given a

peeled : (left ip : ℕ) (bytes : List ℕ) (a : ℕ) → 0 < mark (suc left) → parts_from (suc left) ip bytes ≡ Given a → Peeled left ip bytes a
unfolding parts_from
peeled left ip bytes a p e = go (part_at (mark (suc left)) bytes) refl e
  where
    go : (r : Number) → part_at (mark (suc left)) bytes ≡ r
        → (elim r [ Stopped ↦ Malformed | Found n k ↦ parts_from left (ip * 256 + n) (drop k bytes) ]) ≡ Given a → Peeled left ip bytes a
    go Stopped f q = absurd (no_text a q)
    go (Found n k) f q =
        let x = part_of (mark (suc left)) bytes n k p f in
        record { v = n; small = x.small; behind = x.left; says = x.says; goes = ap (parts_from left (ip * 256 + n)) (sym x.rest) ∙ q }

record Port (ip : ℕ) (bytes : List ℕ) (a : ℕ) : Type 0 where
  p : ℕ
  small : p ≤ 65535
  says : bytes ≡ decimal p
  whole : ip * 65536 + p ≡ a

no_more : (l : List ℕ) → length l ≡ 0 → l ≡ []
no_more [] e = refl
no_more (x ∷ l) e = absurd (omega arith)

port_of : (ip : ℕ) (bytes : List ℕ) (a : ℕ) → parts_from 0 ip bytes ≡ Given a → Port ip bytes a
unfolding parts_from closed
port_of ip bytes a e = go (decimal_at 65535 bytes) refl e
  where
    go : (r : Number) → decimal_at 65535 bytes ≡ r → closed ip bytes r ≡ Given a → Port ip bytes a
    go Stopped f q = absurd (no_text a q)
    go (Found n k) f q =
        let b = begins 65535 bytes n k (lit≤ tt) (lit< tt) f in
        (elim (eqb k (length bytes)) as (λ u. eqb k (length bytes) ≡ u → pick u (Given (ip * 65536 + n)) Malformed ≡ Given a → Port ip bytes a) [
          | false ↦ λ t r. absurd (no_text a r)
          | true ↦ λ t r.
              let z : length b.left ≡ 0 =
              omega (arith, eqb-true k (length bytes) t, b.size, ap (λ (l : List ℕ). length l) b.says, length-append (decimal n) b.left) in
              record {
                p = n;
                small = b.small;
                says = b.says ∙ ap (λ (l : List ℕ). decimal n ++ l) (no_more b.left z) ∙ append-nil (decimal n);
                whole = cc;
              }
        ]) refl q

-- the five numbers are those of the address
module _ (a b c d p : ℕ) (ha : a ≤ 255) (hb : b ≤ 255) (hc : c ≤ 255) (hd : d ≤ 255) (hp : p ≤ 65535) where
  abbrev value : ℕ
  value = ((((0 * 256 + a) * 256 + b) * 256 + c) * 256 + d) * 65536 + p

  value-small : value < 2 ^ 48
  value-small = omega arith

  octet_3 : octet value 3 ≡ a
  octet_3 = omega arith

  octet_2 : octet value 2 ≡ b
  octet_2 = omega arith

  octet_1 : octet value 1 ≡ c
  octet_1 = omega arith

  octet_0 : octet value 0 ≡ d
  octet_0 = omega arith

  port_is : port value ≡ p
  port_is = omega arith

  spelled : text value ≡ decimal a ++ (46 ∷ (decimal b ++ (46 ∷ (decimal c ++ (46 ∷ (decimal d ++ (58 ∷ decimal p)))))))
  spelled =
      ap (λ (x : ℕ). decimal x ++ (46 ∷ decimal (octet value 2)) ++ (46 ∷ decimal (octet value 1)) ++ (46 ∷ decimal (octet value 0)) ++ (58 ∷ decimal (port value))) octet_3
      ∙ ap (λ (x : ℕ). decimal a ++ (46 ∷ decimal x) ++ (46 ∷ decimal (octet value 1)) ++ (46 ∷ decimal (octet value 0)) ++ (58 ∷ decimal (port value))) octet_2
      ∙ ap (λ (x : ℕ). decimal a ++ (46 ∷ decimal b) ++ (46 ∷ decimal x) ++ (46 ∷ decimal (octet value 0)) ++ (58 ∷ decimal (port value))) octet_1
      ∙ ap (λ (x : ℕ). decimal a ++ (46 ∷ decimal b) ++ (46 ∷ decimal c) ++ (46 ∷ decimal x) ++ (58 ∷ decimal (port value))) octet_0
      ∙ ap (λ (x : ℕ). decimal a ++ (46 ∷ decimal b) ++ (46 ∷ decimal c) ++ (46 ∷ decimal d) ++ (58 ∷ decimal x)) port_is
      ∙ regroup (decimal a) (46 ∷ decimal b) (46 ∷ decimal c) (46 ∷ decimal d) (58 ∷ decimal p)

pub record Canonical (t : List ℕ) (a : ℕ) : Type 0 where
  pub small : a < 2 ^ 48
  pub says : t ≡ text a

module _ (t : List ℕ) (a : ℕ) where
  module _ (w : Peeled 3 0 t a) (x : Peeled 2 (0 * 256 + w.v) w.behind a) (y : Peeled 1 ((0 * 256 + w.v) * 256 + x.v) x.behind a) (z : Peeled 0 (((0 * 256 + w.v) * 256 + x.v) * 256 + y.v) y.behind a) where
    by_parts : Port ((((0 * 256 + w.v) * 256 + x.v) * 256 + y.v) * 256 + z.v) z.behind a → Canonical t a
    unfolding mark
    by_parts p =
        subst (Canonical t) p.whole
        (record {
          small = value-small w.v x.v y.v z.v p.p w.small x.small y.small z.small p.small;
          says =
              w.says
              ∙ ap (λ (l : List ℕ). decimal w.v ++ (46 ∷ l)) x.says
              ∙ ap (λ (l : List ℕ). decimal w.v ++ (46 ∷ (decimal x.v ++ (46 ∷ l)))) y.says
              ∙ ap (λ (l : List ℕ). decimal w.v ++ (46 ∷ (decimal x.v ++ (46 ∷ (decimal y.v ++ (46 ∷ l)))))) z.says
              ∙ ap (λ (l : List ℕ). decimal w.v ++ (46 ∷ (decimal x.v ++ (46 ∷ (decimal y.v ++ (46 ∷ (decimal z.v ++ (58 ∷ l)))))))) p.says
              ∙ sym (spelled w.v x.v y.v z.v p.p w.small x.small y.small z.small p.small);
        })

  canonical : parts_from 4 0 t ≡ Given a → Canonical t a
  unfolding mark
  canonical e = first (peeled 3 0 t a (lit< tt) e)
    where
      fourth : (w : Peeled 3 0 t a) (x : Peeled 2 (0 * 256 + w.v) w.behind a) (y : Peeled 1 ((0 * 256 + w.v) * 256 + x.v) x.behind a) (z : Peeled 0 (((0 * 256 + w.v) * 256 + x.v) * 256 + y.v) y.behind a) → Canonical t a
      fourth w x y z = by_parts w x y z (port_of ((((0 * 256 + w.v) * 256 + x.v) * 256 + y.v) * 256 + z.v) z.behind a z.goes)

      third : (w : Peeled 3 0 t a) (x : Peeled 2 (0 * 256 + w.v) w.behind a) (y : Peeled 1 ((0 * 256 + w.v) * 256 + x.v) x.behind a) → Canonical t a
      third w x y = fourth w x y (peeled 0 (((0 * 256 + w.v) * 256 + x.v) * 256 + y.v) y.behind a (lit< tt) y.goes)

      second : (w : Peeled 3 0 t a) (x : Peeled 2 (0 * 256 + w.v) w.behind a) → Canonical t a
      second w x = third w x (peeled 1 ((0 * 256 + w.v) * 256 + x.v) x.behind a (lit< tt) x.goes)

      first : Peeled 3 0 t a → Canonical t a
      first w = second w (peeled 2 (0 * 256 + w.v) w.behind a (lit< tt) w.goes)

-- WHAT IS READ AS AN ADDRESS IS ITS TEXT
pub text-only : (t : List ℕ) (a : ℕ) → text_of t ≡ Given a → Canonical t a
unfolding text_of
text-only [] a e = let z : ◌≡◌ {A = ℕ} 0 1 = cc in absurd (omega arith)
text-only (b ∷ t) a e = canonical (b ∷ t) a e

-- so it is UTF-8
pub given-utf8 : (t : List ℕ) (a : ℕ) → text_of t ≡ Given a → utf8 t ≡ true
given-utf8 t a e = ap utf8 (text-only t a e).says ∙ text-utf8 a
