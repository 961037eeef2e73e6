-- Bytes laid into a row from a place on: what every writer promises, and how one follows another.
-- Assumes nothing.
use Rattle.std.specs.Prelude.{◌≡◌, refl, List, [], ◌∷◌, ◌++◌, ℕ, suc, ◌+◌, ◌≤◌, length, set, drop}
use Rattle.std.proofs.Common.{ap, ◌∙◌, arith, length-append, length-set}
use Rattle.std.proofs.lemmas.List.Edits.{sets, sets-eq}

-- the bytes stand in the row from place `at` on, the row is else as it was, and `next` is the place behind them
pub record Laid (row : List ℕ) (at : ℕ) (bytes : List ℕ) (row' : List ℕ) (next : ℕ) : Type 0 where
  pub ends : next ≡ at + length bytes
  pub long : length row' ≡ length row
  pub says : row' ≡ sets row at bytes

-- there is room for them
pub record Room (row : List ℕ) (at : ℕ) (bytes : List ℕ) : Type 0 where
  pub fits : at + length bytes ≤ length row

sets_append : (row : List ℕ) (at : ℕ) (a b : List ℕ) → sets (sets row at a) (at + length a) b ≡ sets row at (a ++ b)
sets_append row at [] b = let e : at + 0 ≡ at = omega arith in ap (λ (k : ℕ). sets row k b) e
sets_append row at (x ∷ a) b =
    let e : at + suc (length a) ≡ suc at + length a = omega arith in
    ap (λ (k : ℕ). sets (sets (set row at x) (suc at) a) k b) e ∙ sets_append (set row at x) (suc at) a b

pub laid_none : (row : List ℕ) (at : ℕ) → Laid row at [] row at
laid_none row at = record { ends = omega arith; long = refl; says = refl }

pub laid_one : (row : List ℕ) (at x b : ℕ) → b ≡ x → Laid row at (x ∷ []) (set row at b) (at + 1)
laid_one row at x b e = record { ends = omega arith; long = length-set row at b; says = ap (set row at) e }

pub laid_then : {row row' row'' a b : List ℕ} {at next last : ℕ} → Laid row at a row' next → Laid row' next b row'' last → Laid row at (a ++ b) row'' last
laid_then {row} {row'} {row''} {a} {b} {at} {next} {last} f g = record {
  ends = omega (arith, f.ends, g.ends, length-append a b);
  long = g.long ∙ f.long;
  says =
      g.says
      ∙ ap (λ (l : List ℕ). sets l next b) f.says
      ∙ ap (λ (k : ℕ). sets (sets row at a) k b) f.ends
      ∙ sets_append row at a b;
}

-- the same bytes by another name
pub laid_as : {row row' : List ℕ} {at next : ℕ} (a b : List ℕ) → a ≡ b → Laid row at a row' next → Laid row at b row' next
laid_as {row} {row'} {at} {next} a b e f = record {
  ends = f.ends ∙ ap (λ (l : List ℕ). at + length l) e;
  long = f.long;
  says = f.says ∙ ap (sets row at) e;
}

-- room for the whole is room for its start, and behind that for the rest
pub room-first : {row : List ℕ} {at : ℕ} (a b : List ℕ) → Room row at (a ++ b) → Room row at a
room-first a b h = record { fits = omega (arith, length-append a b, h.fits) }

pub room_then : {row row' : List ℕ} {at next : ℕ} (a b : List ℕ) → Laid row at a row' next → Room row at (a ++ b) → Room row' next b
room_then a b f h = record { fits = omega (arith, length-append a b, f.ends, f.long, h.fits) }

-- from the start of a row: the bytes, and behind them what was there
pub laid-first : {row row' bytes : List ℕ} {next : ℕ} → length bytes ≤ length row → Laid row 0 bytes row' next → row' ≡ bytes ++ drop (length bytes) row
laid-first {row} {row'} {bytes} h f =
    let e : 0 + length bytes ≡ length bytes = omega arith in
    f.says ∙ sets-eq bytes row 0 (omega arith) ∙ ap (λ (k : ℕ). bytes ++ drop k row) e
