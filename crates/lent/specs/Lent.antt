-- A lent row as a call reads it.
-- Assumes nothing.
use Rattle.std.specs.Prelude.{◌≡◌, refl, Bool, true, false, List, ◌++◌, ℕ, zero, suc, ◌-◌, ◌≤◌, length, take, drop, replicate, ltb}
use Rattle.std.proofs.Common.{sym, ◌∙◌, ap, arith, take_all, length-take-le, ltb-true, ltb-false}
use Rattle.std.proofs.Math.Numerals.{unary_clauses}
use Rattle.std.proofs.Math.Seq.{take-length}
use Rattle.model.specs.Rows.{pick, pad_to}

abbrev pub at_most64 : ℕ → ℕ
at_most64 n = pick (ltb 64 n) 64 n

module _ {A : Type 0} (blank : A) where
  drop-replicate : (k m : ℕ) → drop k (replicate m blank) ≡ replicate (m - k) blank
  drop-replicate zero m = simp unary_clauses refl
  drop-replicate (suc k) zero = let e : ◌≡◌ {A = ℕ} 0 (0 - suc k) = omega arith in ap (λ (n : ℕ). replicate n blank) e
  drop-replicate (suc k) (suc m) = simp unary_clauses (drop-replicate k m)

  -- what stands over a row of blanks is padded with them
  laid_padded : (k m : ℕ) (ys : List A) → k ≤ length ys → take k ys ≡ take m ys → take k ys ++ drop k (replicate m blank) ≡ pad_to m blank (take m ys)
  laid_padded k m ys few e =
      ap (λ (l : List A). take k ys ++ l) (drop-replicate k m ∙ ap (λ (n : ℕ). replicate (m - n) blank) (sym (length-take-le k ys few)))
      ∙ ap (pad_to m blank) e

  -- the first 64 records of a row, and blanks behind them
  pub first_padded : (ys : List A) (t : Bool) → ltb 64 (length ys) ≡ t
      → take (pick t 64 (length ys)) ys ++ drop (pick t 64 (length ys)) (replicate 64 blank) ≡ pad_to 64 blank (take 64 ys)
  first_padded ys true e = laid_padded 64 64 ys (let h = ltb-true 64 (length ys) e in omega (arith, h)) refl
  first_padded ys false e = laid_padded (length ys) 64 ys (omega arith) (take-length ys ∙ sym (take_all 64 ys (let h = ltb-false 64 (length ys) e in omega (arith, h))))
