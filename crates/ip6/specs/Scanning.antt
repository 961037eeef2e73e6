-- The groups counted from the last to the first: digits, the run that starts here, the longest run and its place. And the length that follows.
-- Assumes nothing.
use Rattle.std.specs.Prelude.{◌≡◌, refl, Bool, List, [], ◌∷◌, ◌++◌, eqb, ltb, leb, length, take, drop}
use Rattle.std.proofs.Math.Path.{ap, sym}
use Rattle.std.proofs.Common.{◌∙◌, length-append, lt-ltb, le-ltb, ltb-true, ltb-false, eqb-true, leb-true, leb-false, eq-eqb, ne_eqb, le-leb}
use Rattle.std.proofs.Math.Bool.{true, false}
use Prim.Native.Nat.{ℕ, zero, suc, ◌+◌, ◌*◌, ◌-◌, ◌/◌, ◌%◌, ◌^◌, ◌≤◌, ◌<◌}
use native.Mathlib.Omega.{arith}
use Rattle.std.proofs.lemmas.Bool.{eqb-false, lt-leb}
use Rattle.ip6.specs.Text6.{digit, numeral_in, decimal, hex, groups, leading, longest, place, behind, joined, without, plain, mapped, dotted, mark, ip6, text6}
use Rattle.ip6.specs.Numerals.{hex_1}
use Rattle.ip6.specs.declared.Scan.{Scan}

-- the digits of all groups
unfoldable pub digits : List ℕ → ℕ
digits [] = 0
digits (g ∷ gs) = length (hex g) + digits gs

unfoldable pub scan : List ℕ → Scan
scan gs = record { digits = digits gs; run = leading gs; longest = longest gs; place = place gs }

-- the run that starts at a group
unfoldable pub longer : ℕ → ℕ → ℕ
longer g run = elim (eqb g 0) [ true ↦ suc run | false ↦ 0 ]

-- a run that is no shorter than the longest behind it is the longest
unfoldable pub chosen : ℕ → ℕ → Scan → Scan
chosen d run s =
    elim (leb s.longest run) [
      | true ↦ record { digits = d + s.digits; run = run; longest = run; place = 0 }
      | false ↦ record { digits = d + s.digits; run = run; longest = s.longest; place = suc s.place }
    ]

-- one group more in front
unfoldable pub stepped : ℕ → Scan → Scan
stepped g s = chosen (length (hex g)) (longer g s.run) s

both : (d run l p : ℕ) (u : Bool)
    → ◌≡◌ {A = Scan} (record { digits = d; run = run; longest = elim u [ true ↦ run | false ↦ l ]; place = elim u [ true ↦ 0 | false ↦ suc p ] })
    (elim u [
      | true ↦ record { digits = d; run = run; longest = run; place = 0 }
      | false ↦ record { digits = d; run = run; longest = l; place = suc p }
    ])
both d run l p true = refl
both d run l p false = refl

pub scan_step : (g : ℕ) (gs : List ℕ) → scan (g ∷ gs) ≡ stepped g (scan gs)
unfolding scan stepped chosen longer digits leading longest place
scan_step g gs = both (length (hex g) + digits gs) (leading (g ∷ gs)) (longest gs) (place gs) (leb (longest gs) (leading (g ∷ gs)))

pub scan-none : scan [] ≡ record { digits = 0; run = 0; longest = 0; place = 0 }
unfolding scan digits leading longest place
scan-none = refl

-- from the last group to the first
pub scan-four : (a b c d : ℕ) (gs : List ℕ) → scan (a ∷ b ∷ c ∷ d ∷ gs) ≡ stepped a (stepped b (stepped c (stepped d (scan gs))))
scan-four a b c d gs =
    scan_step a (b ∷ c ∷ d ∷ gs) ∙ ap (stepped a) (scan_step b (c ∷ d ∷ gs) ∙ ap (stepped b) (scan_step c (d ∷ gs) ∙ ap (stepped c) (scan_step d gs)))

-- the ways out of the code
pub longer_zero : (g run : ℕ) → g ≡ 0 → run + 1 ≡ longer g run
unfolding longer
longer_zero g run h = let e : run + 1 ≡ suc run = omega arith in e ∙ sym (ap (λ (u : Bool). elim u [ true ↦ suc run | false ↦ 0 ]) (eq-eqb g 0 h))

pub longer_other : (g run : ℕ) → (g ≡ 0 → ⊥) → 0 ≡ longer g run
unfolding longer
longer_other g run h = sym (ap (λ (u : Bool). elim u [ true ↦ suc run | false ↦ 0 ]) (ne_eqb g 0 h))

module _ (g : ℕ) (s : Scan) (d run : ℕ) (e : d ≡ length (hex g)) (q : run ≡ longer g s.run) where
  pub step-here : s.longest ≤ run → ◌≡◌ {A = Scan} (record { digits = d + s.digits; run = run; longest = run; place = 0 }) (stepped g s)
  unfolding stepped chosen
  step-here h =
      sym (ap (λ (u : Bool). elim u [
        | true ↦ record { digits = d + s.digits; run = run; longest = run; place = 0 }
        | false ↦ record { digits = d + s.digits; run = run; longest = s.longest; place = suc s.place }
      ]) (le-leb s.longest run h))
      ∙ ap (λ (x : ℕ). chosen x run s) e ∙ ap (λ (x : ℕ). chosen (length (hex g)) x s) q

  pub step-on : run < s.longest → ◌≡◌ {A = Scan} (record { digits = d + s.digits; run = run; longest = s.longest; place = s.place + 1 }) (stepped g s)
  unfolding stepped chosen
  step-on h =
      let k : s.place + 1 ≡ suc s.place = omega arith in
      ap (λ (x : ℕ). record { digits = d + s.digits; run = run; longest = s.longest; place = x }) k
      ∙ sym (ap (λ (u : Bool). elim u [
        | true ↦ record { digits = d + s.digits; run = run; longest = run; place = 0 }
        | false ↦ record { digits = d + s.digits; run = run; longest = s.longest; place = suc s.place }
      ]) (lt-leb s.longest run h))
      ∙ ap (λ (x : ℕ). chosen x run s) e ∙ ap (λ (x : ℕ). chosen (length (hex g)) x s) q

pub scan-eight : (high low : ℕ) (back r : Scan)
    → back ≡ stepped (low / 281474976710656 % 65536) (stepped (low / 4294967296 % 65536) (stepped (low / 65536 % 65536) (stepped (low % 65536) (record { digits = 0; run = 0; longest = 0; place = 0 }))))
    → r ≡ stepped (high / 281474976710656 % 65536) (stepped (high / 4294967296 % 65536) (stepped (high / 65536 % 65536) (stepped (high % 65536) back)))
    → r ≡ scan (groups high low)
scan-eight high low back r e f =
    let four : List ℕ = (low / 281474976710656 % 65536) ∷ (low / 4294967296 % 65536) ∷ (low / 65536 % 65536) ∷ (low % 65536) ∷ [] in
    let z : ℕ → ℕ → ℕ → ℕ → Scan → Scan = λ a b c d s. stepped a (stepped b (stepped c (stepped d s))) in
    let g : scan four ≡ back =
    scan-four (low / 281474976710656 % 65536) (low / 4294967296 % 65536) (low / 65536 % 65536) (low % 65536) []
    ∙ ap (z (low / 281474976710656 % 65536) (low / 4294967296 % 65536) (low / 65536 % 65536) (low % 65536)) scan-none ∙ sym e in
    f
    ∙ sym (ap (z (high / 281474976710656 % 65536) (high / 4294967296 % 65536) (high / 65536 % 65536) (high % 65536)) g)
    ∙ sym (scan-four (high / 281474976710656 % 65536) (high / 4294967296 % 65536) (high / 65536 % 65536) (high % 65536) four)
