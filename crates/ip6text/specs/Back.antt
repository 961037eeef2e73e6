-- The guess at a canonical text, piece by piece: towards reading back what was written.
-- Assumes nothing.
use Rattle.std.specs.Prelude.{◌≡◌, Bool, eqb, leb, set, get_or, take, drop}
use Rattle.std.proofs.Math.Path.{refl, ap}
use Rattle.std.proofs.Common.{sym, ◌∙◌, length-set, get_or-set_same, get_or-set_other, get_or-take, get_or-drop, div-add-mod'}
use mathlib.Core.List.{List, [], ◌∷◌, ◌++◌, append_assoc}
use Prim.Native.Nat.{ℕ, zero, suc, ◌+◌, ◌*◌, ◌-◌, ◌/◌, ◌%◌, ◌^◌, ◌≤◌, ◌<◌}
use native.Mathlib.Omega.{arith}
use Rattle.std.proofs.Math.Bool.{true, false}
use Rattle.std.proofs.Math.Dec.{ltb}
use Rattle.std.proofs.Math.ListN.{length, length-drop}
use Rattle.std.proofs.Math.Seq.{length-take-le}
use borrow.Author.Tests.{lt-ltb, le-ltb, ltb-true, ltb-false, eqb-true, eqb-false}
use Rattle.std.proofs.Math.Nat.{div-div-eq-div-mul}
use Rattle.ip6.specs.Text6.{numeral_in, decimal, hex, behind, joined, leading, longest, place, groups, without, plain, mapped, mark, dotted, ip6, text6}
use Rattle.ip6text.specs.Parsing.{number, fresh, pushed, gapped, with_colon, with_end, whole, ended, next, run, none, run-append, hex-back, decimal-back, next_colon, next_end, next_open, colon_group, colon_gap, with_digit, digit_value, with_dot, next_dot, end_dotted, end_group, end_gap, pushed-on, word, spread, spread-before, spread-full, spread_gap, spread-behind}
use Rattle.ip6.specs.Lengths.{Run, run_fits}
use Rattle.ip6text.specs.Writing.{other_is, mapped_is, dotted_is}
use Rattle.ip6text.specs.declared.Seen.{Seen}

-- n groups are read and no number is begun
unfoldable pub at : List ℕ → ℕ → ℕ → Seen
at vs n gap = record { values = vs; count = n; gap = gap; value = 0; decimal = 0; started = 0; dotted = 0; dots = 0; high = 0; low = 0 }

-- groups put into a row from a place on
unfoldable pub fill : List ℕ → ℕ → List ℕ → List ℕ
fill vs n [] = vs
fill vs n (g ∷ gs) = fill (set vs n g) (n + 1) gs

-- all are of 16 bits
pub data Small : List ℕ → Type 0 where
  none-small : Small []
  more-small : {g : ℕ} {gs : List ℕ} → g < 65536 → Small gs → Small (g ∷ gs)

run_more : (s : Seen) (b : ℕ) (l : List ℕ) → run s (b ∷ l) ≡ run (next s b) l
unfolding run
run_more s b l = refl

pushed_at : (vs : List ℕ) (n gap v d : ℕ) → n < 8 → fresh (pushed (number (at vs n gap) v d 1)) ≡ at (set vs n v) (n + 1) gap
unfolding fresh number at
pushed_at vs n gap v d h = ap (λ (s : Seen). number s 0 0 0) (sym (pushed-on (number (at vs n gap) v d 1) h))

begun : (s : Seen) (v d : ℕ) → (number s v d 1).started ≡ 1
unfolding number
begun s v d = refl

group_colon : (vs : List ℕ) (n gap v d : ℕ) → n < 8 → next (number (at vs n gap) v d 1) 58 ≡ at (set vs n v) (n + 1) gap
group_colon vs n gap v d h =
    next_colon (number (at vs n gap) v d 1) 58 refl ∙ colon_group (number (at vs n gap) v d 1) (begun (at vs n gap) v d) ∙ pushed_at vs n gap v d h

gap_colon : (vs : List ℕ) (n gap : ℕ) → next (at vs n gap) 58 ≡ at vs n n
unfolding at gapped
gap_colon vs n gap = next_colon (at vs n gap) 58 refl ∙ colon_gap (at vs n gap) (λ q. omega arith)

hex-run : (vs : List ℕ) (n gap g : ℕ) (rest : List ℕ) → g < 65536 → (d : ℕ) × (run (at vs n gap) (hex g ++ rest) ≡ run (number (at vs n gap) g d 1) rest)
unfolding at fresh number
hex-run vs n gap g rest h =
    let r = hex-back 4 g (at vs n gap) (omega arith) h in
    (r.other, run-append (at vs n gap) (hex g) rest ∙ ap (λ (s : Seen). run s rest) r.says)

-- groups up to a byte that ends them
module _ (t gap : ℕ) (E : List ℕ → ℕ → Seen) (close : (vs : List ℕ) (n v d : ℕ) → n < 8 → next (number (at vs n gap) v d 1) t ≡ E (set vs n v) (n + 1)) where
  behind-run : (gs vs : List ℕ) (n v d : ℕ) (rest : List ℕ) → Small gs → n + suc (length gs) ≤ 8
      → run (number (at vs n gap) v d 1) (behind gs ++ (t ∷ rest)) ≡ run (E (fill vs n (v ∷ gs)) (n + suc (length gs))) rest
  unfolding behind fill
  behind-run [] vs n v d rest none-small h =
      run_more (number (at vs n gap) v d 1) t rest ∙ ap (λ (s : Seen). run s rest) (close vs n v d (omega arith))
  behind-run (g ∷ gs) vs n v d rest (more-small k q) h =
      let e : n + 1 + suc (length gs) ≡ n + suc (suc (length gs)) = omega arith in
      let x = hex-run (set vs n v) (n + 1) gap g (behind gs ++ (t ∷ rest)) k in
      run_more (number (at vs n gap) v d 1) 58 ((hex g ++ behind gs) ++ (t ∷ rest))
      ∙ ap (λ (s : Seen). run s ((hex g ++ behind gs) ++ (t ∷ rest))) (group_colon vs n gap v d (omega arith))
      ∙ ap (run (at (set vs n v) (n + 1) gap)) (append_assoc (hex g) (behind gs) (t ∷ rest))
      ∙ x.1
      ∙ behind-run gs (set vs n v) (n + 1) g x.0 rest q (omega arith)
      ∙ ap (λ (k : ℕ). run (E (fill (set (set vs n v) (n + 1) g) (n + 1 + 1) gs) k) rest) e

  joined-run : (g : ℕ) (gs vs : List ℕ) (n : ℕ) (rest : List ℕ) → Small (g ∷ gs) → n + suc (length gs) ≤ 8
      → run (at vs n gap) (joined (g ∷ gs) ++ (t ∷ rest)) ≡ run (E (fill vs n (g ∷ gs)) (n + suc (length gs))) rest
  unfolding joined
  joined-run g gs vs n rest (more-small k q) h =
      let x = hex-run vs n gap g (behind gs ++ (t ∷ rest)) k in
      ap (run (at vs n gap)) (append_assoc (hex g) (behind gs) (t ∷ rest)) ∙ x.1 ∙ behind-run gs vs n g x.0 rest q h

-- up to two colons
pub to_gap : (gs vs : List ℕ) (rest : List ℕ) → Small gs → length gs ≤ 8
    → run (at vs 0 0) (joined gs ++ (58 ∷ 58 ∷ rest)) ≡ run (at (fill vs 0 gs) (length gs) (length gs)) rest
unfolding joined fill
to_gap [] vs rest q h =
    run_more (at vs 0 0) 58 (58 ∷ rest) ∙ ap (λ (s : Seen). run s (58 ∷ rest)) (gap_colon vs 0 0)
    ∙ run_more (at vs 0 0) 58 rest ∙ ap (λ (s : Seen). run s rest) (gap_colon vs 0 0)
to_gap (g ∷ gs) vs rest q h =
    let e : 0 + suc (length gs) ≡ suc (length gs) = omega arith in
    joined-run 58 0 (λ vs n. at vs n 0) (λ vs n v d k. group_colon vs n 0 v d k) g gs vs 0 (58 ∷ rest) q (omega arith)
    ∙ ap (λ (k : ℕ). run (at (fill (set vs 0 g) (0 + 1) gs) k 0) (58 ∷ rest)) e
    ∙ run_more (at (fill (set vs 0 g) (0 + 1) gs) (suc (length gs)) 0) 58 rest
    ∙ ap (λ (s : Seen). run s rest) (gap_colon (fill (set vs 0 g) (0 + 1) gs) (suc (length gs)) 0)

-- up to the bracket
end-at : (vs : List ℕ) (n gap v d : ℕ) → n < 8 → next (number (at vs n gap) v d 1) 93 ≡ whole (at (set vs n v) (n + 1) gap)
unfolding at number whole ended
end-at vs n gap v d h =
    next_end (number (at vs n gap) v d 1) 93 (λ q. omega arith) (λ q. omega arith) refl
    ∙ end_group (number (at vs n gap) v d 1) (λ q. omega arith) refl
    ∙ ap whole (sym (pushed-on (number (at vs n gap) v d 1) h))

end_none : (vs : List ℕ) (n gap : ℕ) → next (at vs n gap) 93 ≡ whole (at vs n gap)
unfolding at
end_none vs n gap = next_end (at vs n gap) 93 (λ q. omega arith) (λ q. omega arith) refl ∙ end_gap (at vs n gap) (λ q. omega arith) (λ q. omega arith)

pub to_end : (gs vs : List ℕ) (n gap : ℕ) (rest : List ℕ) → Small gs → n + length gs ≤ 8
    → run (at vs n gap) (joined gs ++ (93 ∷ rest)) ≡ run (whole (at (fill vs n gs) (n + length gs) gap)) rest
unfolding joined fill
to_end [] vs n gap rest q h =
    let e : n ≡ n + 0 = omega arith in
    run_more (at vs n gap) 93 rest ∙ ap (λ (s : Seen). run s rest) (end_none vs n gap) ∙ ap (λ (k : ℕ). run (whole (at vs k gap)) rest) e
to_end (g ∷ gs) vs n gap rest q h = joined-run 93 gap (λ vs n. whole (at vs n gap)) (λ vs n v d k. end-at vs n gap v d k) g gs vs n rest q h

-- behind the bracket: a colon and the port
record Port (s : Seen) (r : Seen) (port : ℕ) : Type 0 where
  high : r.high ≡ s.high
  low : r.low ≡ s.low
  decimal : r.decimal ≡ port

fresh-gapped : (s : Seen) → fresh (gapped s) ≡ gapped s
unfolding fresh gapped number
fresh-gapped s = refl

number-port : (s : Seen) (v d : ℕ) → Port s (number (gapped s) v d 1) d
unfolding number gapped
number-port s v d = record { high = refl; low = refl; decimal = refl }

port-run : (s : Seen) (port : ℕ) → (s.started ≡ 1 → ⊥) → port < 65536 → Port s (run s (58 ∷ decimal port)) port
port-run s port h k =
    let r = decimal-back 4 port (gapped s) (omega arith) (omega arith) in
    let e : run s (58 ∷ decimal port) ≡ number (gapped s) r.other port 1 =
    run_more s 58 (decimal port) ∙ ap (λ (t : Seen). run t (decimal port)) (next_colon s 58 refl ∙ colon_gap s h)
    ∙ ap (λ (t : Seen). run t (decimal port)) (sym (fresh-gapped s)) ∙ r.says in
    rw e (number-port s r.other port)

-- four groups of 16 bits say the word
pub word_back : (w : ℕ) → w < 2 ^ 64 → word (w / 281474976710656 % 65536) (w / 4294967296 % 65536) (w / 65536 % 65536) (w % 65536) ≡ w
unfolding word
word_back w h =
    let d1 : w / 4294967296 ≡ w / 65536 / 65536 = sym (div-div-eq-div-mul w 65536 65536) in
    let d2 : w / 281474976710656 ≡ w / 4294967296 / 65536 = sym (div-div-eq-div-mul w 4294967296 65536) in
    let s : w / 281474976710656 < 65536 = omega arith in
    let t : w / 281474976710656 % 65536 ≡ w / 281474976710656 = small (w / 281474976710656) s in
    by_quotients w (w / 65536) (w / 4294967296) (w / 281474976710656) (w % 65536) (w / 65536 % 65536) (w / 4294967296 % 65536) (w / 281474976710656 % 65536)
    (sym (div-add-mod' w 65536)) (rw d1 (sym (div-add-mod' (w / 65536) 65536))) (rw d2 (sym (div-add-mod' (w / 4294967296) 65536))) t
  where
    small : (n : ℕ) → n < 65536 → n % 65536 ≡ n
    small n h = omega arith

    by_quotients : (w q1 q2 q3 r0 r1 r2 r3 : ℕ) → w ≡ q1 * 65536 + r0 → q1 ≡ q2 * 65536 + r1 → q2 ≡ q3 * 65536 + r2 → r3 ≡ q3
        → ((r3 * 65536 + r2) * 65536 + r1) * 65536 + r0 ≡ w
    by_quotients w q1 q2 q3 r0 r1 r2 r3 a b c d = omega arith

-- what stands in a row that was filled
pub fill-before : (vs : List ℕ) (n : ℕ) (gs : List ℕ) (i : ℕ) → i < n → get_or (fill vs n gs) i 0 ≡ get_or vs i 0
unfolding fill
fill-before vs n [] i h = refl
fill-before vs n (g ∷ gs) i h = fill-before (set vs n g) (n + 1) gs i (omega arith) ∙ get_or-set_other vs n i g 0 (λ q. omega arith)

pub fill-at : (vs : List ℕ) (n : ℕ) (gs : List ℕ) (j : ℕ) → j < length gs → n + length gs ≤ length vs → get_or (fill vs n gs) (n + j) 0 ≡ get_or gs j 0
unfolding fill
fill-at vs n [] j h k = absurd (omega arith)
fill-at vs n (g ∷ gs) zero h k =
    let e : n + 0 ≡ n = omega arith in
    ap (λ (i : ℕ). get_or (fill (set vs n g) (n + 1) gs) i 0) e ∙ fill-before (set vs n g) (n + 1) gs n (omega arith) ∙ get_or-set_same vs n g 0 (omega arith)
fill-at vs n (g ∷ gs) (suc j) h k =
    let e : n + suc j ≡ n + 1 + j = omega arith in
    ap (λ (i : ℕ). get_or (fill (set vs n g) (n + 1) gs) i 0) e ∙ fill-at (set vs n g) (n + 1) gs j (omega arith) (omega (arith, length-set vs n g))

pub fill-long : (vs : List ℕ) (n : ℕ) (gs : List ℕ) → length (fill vs n gs) ≡ length vs
unfolding fill
fill-long vs n [] = refl
fill-long vs n (g ∷ gs) = fill-long (set vs n g) (n + 1) gs ∙ length-set vs n g

-- the run that is left out is of zeros
leading_zero : (gs : List ℕ) (j : ℕ) → j < leading gs → get_or gs j 0 ≡ 0
unfolding leading
leading_zero [] j h = refl
leading_zero (g ∷ gs) zero h =
    (elim (eqb g 0) as (λ u. eqb g 0 ≡ u → 0 < elim u [ true ↦ suc (leading gs) | false ↦ 0 ] → g ≡ 0) [
      | true ↦ λ e k. eqb-true g 0 e
      | false ↦ λ e k. absurd (omega arith)
    ]) refl h
leading_zero (g ∷ gs) (suc j) h =
    (elim (eqb g 0) as (λ u. eqb g 0 ≡ u → suc j < elim u [ true ↦ suc (leading gs) | false ↦ 0 ] → get_or gs j 0 ≡ 0) [
      | true ↦ λ e k. leading_zero gs j (omega arith)
      | false ↦ λ e k. absurd (omega arith)
    ]) refl h

pub run_zero : (gs : List ℕ) (j : ℕ) → j < longest gs → get_or gs (place gs + j) 0 ≡ 0
unfolding longest place
run_zero [] j h = refl
run_zero (g ∷ gs) j h =
    (elim (leb (longest gs) (leading (g ∷ gs))) as (λ u. j < elim u [ true ↦ leading (g ∷ gs) | false ↦ longest gs ] → get_or (g ∷ gs) (elim u [ true ↦ 0 | false ↦ suc (place gs) ] + j) 0 ≡ 0) [
      | true ↦ λ k. let e : 0 + j ≡ j = omega arith in ap (λ (i : ℕ). get_or (g ∷ gs) i 0) e ∙ leading_zero (g ∷ gs) j k
      | false ↦ λ k. let e : suc (place gs) + j ≡ suc (place gs + j) = omega arith in ap (λ (i : ℕ). get_or (g ∷ gs) i 0) e ∙ run_zero gs j k
    ]) h

-- a group at its place again
small_at : (gs : List ℕ) (i : ℕ) → Small gs → get_or gs i 0 % 65536 ≡ get_or gs i 0
small_at [] i q = refl
small_at (g ∷ gs) zero (more-small h q) = omega arith
small_at (g ∷ gs) (suc i) (more-small h q) = small_at gs i q

module _ (gs zs : List ℕ) (p n : ℕ) (l : length gs ≡ 8) (z : length zs ≡ 8) (q : Small gs) (fits : p + n ≤ 8) (some : 1 ≤ n) (zeros : (j : ℕ) → j < n → get_or gs (p + j) 0 ≡ 0) where
  abbrev before : List ℕ
  before = take p gs

  abbrev after : List ℕ
  after = drop (p + n) gs

  abbrev row : List ℕ
  row = fill (fill zs 0 before) p after

  before-long : length before ≡ p
  before-long = length-take-le p gs (omega arith)

  after-long : length after ≡ 8 - (p + n)
  after-long = length-drop (p + n) gs ∙ ap (λ (x : ℕ). x - (p + n)) l

  pub spread-back : (i : ℕ) → i < 8 → spread row (p + length after) p i ≡ get_or gs i 0
  spread-back i h =
      (elim (ltb i p) as (λ u. ltb i p ≡ u → spread row (p + length after) p i ≡ get_or gs i 0) [
        | true ↦ λ e.
            let k : i < p = ltb-true i p e in
            let a : 0 + i ≡ i = omega arith in
            let b : get_or row i 0 ≡ get_or gs i 0 =
            fill-before (fill zs 0 before) p after i k
            ∙ ap (λ (x : ℕ). get_or (fill zs 0 before) x 0) (sym a)
            ∙ fill-at zs 0 before i (omega (arith, before-long)) (omega (arith, before-long))
            ∙ get_or-take p gs i 0 k in
            sym (spread-before row (p + length after) p i k) ∙ ap (λ (x : ℕ). x % 65536) b ∙ small_at gs i q
        | false ↦ λ e.
            let k : p ≤ i = ltb-false i p e in
            (elim (ltb (i - p) n) as (λ u. ltb (i - p) n ≡ u → spread row (p + length after) p i ≡ get_or gs i 0) [
              | true ↦ λ f.
                  let m : i - p < n = ltb-true (i - p) n f in
                  let a : p + (i - p) ≡ i = omega arith in
                  sym (spread_gap row (p + length after) p i k (omega (arith, after-long)) (omega (arith, after-long)))
                  ∙ sym (zeros (i - p) m) ∙ ap (λ (x : ℕ). get_or gs x 0) a
              | false ↦ λ f.
                  let m : n ≤ i - p = ltb-false (i - p) n f in
                  let w : 8 - (p + length after) ≡ n = omega (arith, after-long) in
                  let a : i - (8 - (p + length after)) ≡ p + (i - (p + n)) = omega (arith, after-long) in
                  let b : p + n + (i - (p + n)) ≡ i = omega arith in
                  let c : get_or row (i - (8 - (p + length after))) 0 ≡ get_or gs i 0 =
                  ap (λ (x : ℕ). get_or row x 0) a
                  ∙ fill-at (fill zs 0 before) p after (i - (p + n)) (omega (arith, after-long)) (omega (arith, after-long, fill-long zs 0 before))
                  ∙ get_or-drop (p + n) gs (i - (p + n)) 0 ∙ ap (λ (x : ℕ). get_or gs x 0) b in
                  sym (spread-behind row (p + length after) p i k (omega (arith, after-long)) (omega (arith, after-long)))
                  ∙ ap (λ (x : ℕ). x % 65536) c ∙ small_at gs i q
            ]) refl
      ]) refl

-- the state past the bracket: the groups stand at their places
record Landed (gs : List ℕ) (s : Seen) : Type 0 where
  high : s.high ≡ word (get_or gs 0 0) (get_or gs 1 0) (get_or gs 2 0) (get_or gs 3 0)
  low : s.low ≡ word (get_or gs 4 0) (get_or gs 5 0) (get_or gs 6 0) (get_or gs 7 0)
  rests : s.started ≡ 0

landed : (gs vs : List ℕ) (n gap : ℕ) → ((i : ℕ) → i < 8 → spread vs n gap i ≡ get_or gs i 0) → Landed gs (whole (at vs n gap))
unfolding whole ended at
landed gs vs n gap h =
    let a = h 0 (omega arith) in let b = h 1 (omega arith) in let c = h 2 (omega arith) in let d = h 3 (omega arith) in
    let e = h 4 (omega arith) in let f = h 5 (omega arith) in let g = h 6 (omega arith) in let i = h 7 (omega arith) in
    record { high = cc; low = cc; rests = refl }

take-small : (p : ℕ) (gs : List ℕ) → Small gs → Small (take p gs)
take-small zero gs q = none-small
take-small (suc p) [] q = none-small
take-small (suc p) (g ∷ gs) (more-small h q) = more-small h (take-small p gs q)

drop-small : (p : ℕ) (gs : List ℕ) → Small gs → Small (drop p gs)
drop-small zero gs q = q
drop-small (suc p) [] q = none-small
drop-small (suc p) (g ∷ gs) (more-small h q) = drop-small p gs q

abbrev zeros8 : List ℕ
zeros8 = 0 ∷ 0 ∷ 0 ∷ 0 ∷ 0 ∷ 0 ∷ 0 ∷ 0 ∷ []

-- past the bracket, whichever way the groups were written
record Past (gs rest : List ℕ) (t : List ℕ) : Type 0 where
  state : Seen
  lands : Landed gs state
  says : run (at zeros8 0 0) (t ++ (93 ∷ rest)) ≡ run state rest

module _ (gs rest : List ℕ) (l : length gs ≡ 8) (q : Small gs) where
  full-past : Past gs rest (joined gs)
  full-past = record {
    state = whole (at (fill zeros8 0 gs) (0 + length gs) 0);
    lands = landed gs (fill zeros8 0 gs) (0 + length gs) 0 (λ i h.
        let a : 0 + i ≡ i = omega arith in
        sym (spread-full (fill zeros8 0 gs) (0 + length gs) 0 i (omega arith) (omega arith))
        ∙ ap (λ (x : ℕ). get_or (fill zeros8 0 gs) x 0 % 65536) (sym a)
        ∙ ap (λ (x : ℕ). x % 65536) (fill-at zeros8 0 gs i (omega arith) (omega arith)) ∙ small_at gs i q);
    says = to_end gs zeros8 0 0 rest q (omega arith);
  }

  gap_past : (p n : ℕ) → p + n ≤ 8 → 1 ≤ n → ((j : ℕ) → j < n → get_or gs (p + j) 0 ≡ 0) → Past gs rest (without gs p n)
  unfolding without
  gap_past p n f s z =
      let e : length (take p gs) ≡ p = length-take-le p gs (omega arith) in
      let d : length (drop (p + n) gs) ≡ 8 - (p + n) = length-drop (p + n) gs ∙ ap (λ (x : ℕ). x - (p + n)) l in
      record {
        state = whole (at (fill (fill zeros8 0 (take p gs)) p (drop (p + n) gs)) (p + length (drop (p + n) gs)) p);
        lands = landed gs (fill (fill zeros8 0 (take p gs)) p (drop (p + n) gs)) (p + length (drop (p + n) gs)) p (spread-back gs zeros8 p n l refl q f s z);
        says =
            ap (run (at zeros8 0 0)) (append_assoc (joined (take p gs)) (58 ∷ 58 ∷ joined (drop (p + n) gs)) (93 ∷ rest))
            ∙ to_gap (take p gs) zeros8 (joined (drop (p + n) gs) ++ (93 ∷ rest)) (take-small p gs q) (omega arith)
            ∙ ap (λ (x : ℕ). run (at (fill zeros8 0 (take p gs)) x x) (joined (drop (p + n) gs) ++ (93 ∷ rest))) e
            ∙ to_end (drop (p + n) gs) (fill zeros8 0 (take p gs)) p p rest (drop-small (p + n) gs q) (omega arith);
      }

  plain-past : Past gs rest (plain gs)
  unfolding plain
  plain-past =
      (elim (ltb (longest gs) 2) as (λ u. ltb (longest gs) 2 ≡ u → Past gs rest (elim u [ true ↦ joined gs | false ↦ without gs (place gs) (longest gs) ])) [
        | true ↦ λ e. full-past
        | false ↦ λ e.
            let h : 2 ≤ longest gs = ltb-false (longest gs) 2 e in
            gap_past (place gs) (longest gs) (omega (arith, run_fits gs)) (omega arith) (λ j k. run_zero gs j k)
      ]) refl

groups-small : (high low : ℕ) → Small (groups high low)
groups-small high low =
    more-small (low16 (high / 281474976710656)) (more-small (low16 (high / 4294967296)) (more-small (low16 (high / 65536)) (more-small (low16 high)
    (more-small (low16 (low / 281474976710656)) (more-small (low16 (low / 4294967296)) (more-small (low16 (low / 65536)) (more-small (low16 low) none-small)))))))
  where
    low16 : (n : ℕ) → n % 65536 < 65536
    low16 n = omega arith

-- the text of an address that is not mapped is guessed right
pub record Guessed (high low port : ℕ) (s : Seen) : Type 0 where
  pub high_is : s.high ≡ high
  pub low_is : s.low ≡ low
  pub port_is : s.decimal ≡ port

start : (rest : List ℕ) → run none (91 ∷ rest) ≡ run (at zeros8 0 0) rest
unfolding none at
start rest = run_more none 91 rest ∙ ap (λ (s : Seen). run s rest) (next_open none 91 (λ q. omega arith) (λ q. omega arith) (λ q. omega arith) refl)

pub plain_back : (high low port : ℕ) → high < 2 ^ 64 → low < 2 ^ 64 → port < 65536 → mapped high low ≡ false → Guessed high low port (run none (text6 high low port))
unfolding text6
plain_back high low port h l p m =
    let gs : List ℕ = groups high low in
    let r = plain-past (groups high low) (58 ∷ decimal port) refl (groups-small high low) in
    let n : r.state.started ≡ 0 = r.lands.rests in
    let w = port-run r.state port (λ q. omega arith) p in
    let e : run none (text6 high low port) ≡ run r.state (58 ∷ decimal port) =
    start (ip6 high low ++ (93 ∷ 58 ∷ decimal port)) ∙ ap (λ (x : List ℕ). run (at zeros8 0 0) (x ++ (93 ∷ 58 ∷ decimal port))) (other_is high low m) ∙ r.says in
    rw e (record { high_is = w.high ∙ r.lands.high ∙ word_back high h; low_is = w.low ∙ r.lands.low ∙ word_back low l; port_is = w.decimal })

-- a mapped address: past the mark, the numbers before dots
abbrev dots_at : ℕ → ℕ → Seen
dots_at x k = record { values = 65535 ∷ 0 ∷ 0 ∷ 0 ∷ 0 ∷ 0 ∷ 0 ∷ 0 ∷ []; count = 1; gap = 0; value = 0; decimal = 0; started = 0; dotted = x; dots = k; high = 0; low = 0 }

mark-run : run (at zeros8 0 0) mark ≡ dots_at 0 0
unfolding run next with_colon gapped pushed fresh number with_digit digit_value at
mark-run = refl

dot_run : (x k a : ℕ) (rest : List ℕ) → a < 256 → run (dots_at x k) (decimal a ++ (46 ∷ rest)) ≡ run (dots_at (x % 65536 * 256 + a) 1) rest
unfolding fresh number with_dot
dot_run x k a rest h =
    let r = decimal-back 4 a (dots_at x k) (omega arith) (omega arith) in
    let m : a % 256 ≡ a = omega arith in
    run-append (dots_at x k) (decimal a) (46 ∷ rest)
    ∙ ap (λ (s : Seen). run s (46 ∷ rest)) r.says
    ∙ run_more (number (dots_at x k) r.other a 1) 46 rest
    ∙ ap (λ (s : Seen). run s rest) (next_dot (number (dots_at x k) r.other a 1) 46 (λ q. omega arith) refl)
    ∙ ap (λ (y : ℕ). run (dots_at (x % 65536 * 256 + y) 1) rest) m

last-run : (x a : ℕ) (rest : List ℕ) → a < 256
    → run (dots_at x 1) (decimal a ++ (93 ∷ rest)) ≡ run (ended (dots_at x 1) 0 (281470681743360 + (x % 16777216 * 256 + a))) rest
unfolding fresh number ended
last-run x a rest h =
    let r = decimal-back 4 a (dots_at x 1) (omega arith) (omega arith) in
    let m : a % 256 ≡ a = omega arith in
    run-append (dots_at x 1) (decimal a) (93 ∷ rest)
    ∙ ap (λ (s : Seen). run s (93 ∷ rest)) r.says
    ∙ run_more (number (dots_at x 1) r.other a 1) 93 rest
    ∙ ap (λ (s : Seen). run s rest)
    (next_end (number (dots_at x 1) r.other a 1) 93 (λ q. omega arith) (λ q. omega arith) refl ∙ end_dotted (number (dots_at x 1) r.other a 1) refl)
    ∙ ap (λ (y : ℕ). run (ended (dots_at x 1) 0 (281470681743360 + (x % 16777216 * 256 + y))) rest) m

four-run : (a b c d : ℕ) (rest : List ℕ) → a < 256 → b < 256 → c < 256 → d < 256
    → run (dots_at 0 0) ((decimal a ++ (46 ∷ (decimal b ++ (46 ∷ (decimal c ++ (46 ∷ decimal d)))))) ++ (93 ∷ rest))
    ≡ run (ended (dots_at (((0 % 65536 * 256 + a) % 65536 * 256 + b) % 65536 * 256 + c) 1) 0
    (281470681743360 + ((((0 % 65536 * 256 + a) % 65536 * 256 + b) % 65536 * 256 + c) % 16777216 * 256 + d))) rest
four-run a b c d rest ha hb hc hd =
    let t2 : List ℕ = decimal c ++ (46 ∷ decimal d) in
    let t1 : List ℕ = decimal b ++ (46 ∷ t2) in
    ap (run (dots_at 0 0)) (append_assoc (decimal a) (46 ∷ t1) (93 ∷ rest))
    ∙ dot_run 0 0 a (t1 ++ (93 ∷ rest)) ha
    ∙ ap (run (dots_at (0 % 65536 * 256 + a) 1)) (append_assoc (decimal b) (46 ∷ t2) (93 ∷ rest))
    ∙ dot_run (0 % 65536 * 256 + a) 1 b (t2 ++ (93 ∷ rest)) hb
    ∙ ap (run (dots_at ((0 % 65536 * 256 + a) % 65536 * 256 + b) 1)) (append_assoc (decimal c) (46 ∷ decimal d) (93 ∷ rest))
    ∙ dot_run ((0 % 65536 * 256 + a) % 65536 * 256 + b) 1 c (decimal d ++ (93 ∷ rest)) hc
    ∙ last-run (((0 % 65536 * 256 + a) % 65536 * 256 + b) % 65536 * 256 + c) d rest hd

four-word : (a b c d : ℕ) → a < 256 → b < 256 → c < 256 → d < 256
    → 281470681743360 + ((((0 % 65536 * 256 + a) % 65536 * 256 + b) % 65536 * 256 + c) % 16777216 * 256 + d) ≡ (((65535 * 256 + a) * 256 + b) * 256 + c) * 256 + d
four-word a b c d ha hb hc hd =
    let x : 0 % 65536 * 256 + a ≡ a = omega arith in
    let y : a % 65536 * 256 + b ≡ a * 256 + b = omega arith in
    let z : (a * 256 + b) % 65536 * 256 + c ≡ (a * 256 + b) * 256 + c = omega arith in
    let w : ((a * 256 + b) * 256 + c) % 16777216 ≡ (a * 256 + b) * 256 + c = omega arith in
    rw (x, y, z, w) (omega arith)

mapped_low : (low : ℕ) → low / 4294967296 ≡ 65535
    → (((65535 * 256 + low / 16777216 % 256) * 256 + low / 65536 % 256) * 256 + low / 256 % 256) * 256 + low % 256 ≡ low
mapped_low low h =
    let d1 : low / 65536 ≡ low / 256 / 256 = sym (div-div-eq-div-mul low 256 256) in
    let d2 : low / 16777216 ≡ low / 65536 / 256 = sym (div-div-eq-div-mul low 65536 256) in
    let d3 : low / 4294967296 ≡ low / 16777216 / 256 = sym (div-div-eq-div-mul low 16777216 256) in
    sums low (low / 256) (low / 65536) (low / 16777216) (low % 256) (low / 256 % 256) (low / 65536 % 256) (low / 16777216 % 256)
    (by256 low) (rw d1 (by256 (low / 256))) (rw d2 (by256 (low / 65536))) (top (low / 16777216) (sym d3 ∙ h))
  where
    by256 : (n : ℕ) → n ≡ n / 256 * 256 + n % 256
    by256 n = omega arith

    top : (n : ℕ) → n / 256 ≡ 65535 → n ≡ 65535 * 256 + n % 256
    top n h = omega arith

    sums : (w q1 q2 q3 r0 r1 r2 r3 : ℕ) → w ≡ q1 * 256 + r0 → q1 ≡ q2 * 256 + r1 → q2 ≡ q3 * 256 + r2 → q3 ≡ 65535 * 256 + r3
        → (((65535 * 256 + r3) * 256 + r2) * 256 + r1) * 256 + r0 ≡ w
    sums w q1 q2 q3 r0 r1 r2 r3 a b c d = omega arith

is_mapped : (high low : ℕ) → mapped high low ≡ true → (high ≡ 0) × (low / 4294967296 ≡ 65535)
unfolding mapped
is_mapped high low h =
    (elim (eqb high 0) as (λ u. eqb high 0 ≡ u → elim u [ true ↦ eqb (low / 4294967296) 65535 | false ↦ false ] ≡ true → (high ≡ 0) × (low / 4294967296 ≡ 65535)) [
      | true ↦ λ e q. (eqb-true high 0 e, eqb-true (low / 4294967296) 65535 q)
      | false ↦ λ e q. let z : ◌≡◌ {A = ℕ} 0 1 = cc in absurd (omega arith)
    ]) refl h

ended_parts : (s : Seen) (h l : ℕ) → ((ended s h l).high ≡ h) × ((ended s h l).low ≡ l) × ((ended s h l).started ≡ 0)
unfolding ended
ended_parts s h l = (refl, refl, refl)

pub mapped-back : (high low port : ℕ) → port < 65536 → mapped high low ≡ true → Guessed high low port (run none (text6 high low port))
unfolding text6 dotted
mapped-back high low port p m =
    let f = is_mapped high low m in
    let a : ℕ = low / 16777216 % 256 in
    let b : ℕ = low / 65536 % 256 in
    let c : ℕ = low / 256 % 256 in
    let d : ℕ = low % 256 in
    let x : ℕ = ((0 % 65536 * 256 + low / 16777216 % 256) % 65536 * 256 + low / 65536 % 256) % 65536 * 256 + low / 256 % 256 in
    let s : Seen = ended (dots_at x 1) 0 (281470681743360 + (x % 16777216 * 256 + low % 256)) in
    let q = ended_parts (dots_at x 1) 0 (281470681743360 + (x % 16777216 * 256 + low % 256)) in
    let n : s.started ≡ 0 = q.2 in
    let w = port-run s port (λ k. omega arith) p in
    let e : run none (text6 high low port) ≡ run s (58 ∷ decimal port) =
    start (ip6 high low ++ (93 ∷ 58 ∷ decimal port))
    ∙ ap (λ (y : List ℕ). run (at zeros8 0 0) (y ++ (93 ∷ 58 ∷ decimal port))) (mapped_is high low m)
    ∙ run-append (at zeros8 0 0) mark (dotted low ++ (93 ∷ 58 ∷ decimal port))
    ∙ ap (λ (t : Seen). run t (dotted low ++ (93 ∷ 58 ∷ decimal port))) mark-run
    ∙ four-run (low / 16777216 % 256) (low / 65536 % 256) (low / 256 % 256) (low % 256) (58 ∷ decimal port) (omega arith) (omega arith) (omega arith) (omega arith) in
    rw e (record {
      high_is = w.high ∙ q.0 ∙ sym f.0;
      low_is = w.low ∙ q.1 ∙ four-word (low / 16777216 % 256) (low / 65536 % 256) (low / 256 % 256) (low % 256) (omega arith) (omega arith) (omega arith) (omega arith) ∙ mapped_low low f.1;
      port_is = w.decimal;
    })
