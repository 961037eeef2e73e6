-- What holds of an answer, if it gives something; and how such a fact goes through the forms that a rule is made of.
-- Assumes nothing.
use Rattle.std.specs.Prelude.{◌≡◌, refl, Bool, true, false, List, [], ◌∷◌, ℕ}
use Rattle.model.specs.declared.Refusal.{Refusal}
use Rattle.model.specs.Answers.{Answer, done, refused, and_then, when, draw}

-- P holds of what an answer gives, if it gives something
pub data After {B : Type 0} (P : B → Type 0) : Answer B → Type 0 where
  halts : {r : Refusal} → After P (refused r)
  gives : {b : B} {ds : List ℕ} → P b → After P (done b ds)

pub given : {B : Type 0} {P : B → Type 0} {b : B} {ds : List ℕ} → After P (done b ds) → P b
given (gives p) = p

-- how a fact goes through the forms that a rule is made of
pub after_map : {B : Type 0} {P Q : B → Type 0} {x : Answer B} → ((b : B) → P b → Q b) → After P x → After Q x
after_map f halts = halts
after_map f (gives {b = b} p) = gives (f b p)

pub after-when : {B : Type 0} {P : B → Type 0} {u : Bool} {x y : Answer B} → (u ≡ true → After P x) → (u ≡ false → After P y) → After P (when u x y)
unfolding when
after-when {u = true} f g = f refl
after-when {u = false} f g = g refl

pub after-draw : {B : Type 0} {P : B → Type 0} (ds : List ℕ) {k : ℕ → List ℕ → Answer B} → ((d : ℕ) (rest : List ℕ) → After P (k d rest)) → After P (draw ds k)
after-draw [] f = halts
after-draw (d ∷ ds) f = f d ds

pub after_then : {B C : Type 0} {P : B → Type 0} {Q : C → Type 0} {x : Answer B} {k : B → List ℕ → Answer C}
    → After P x → ((b : B) (ds : List ℕ) → P b → After Q (k b ds)) → After Q (and_then x k)
after_then halts f = halts
after_then (gives {b = b} {ds = ds} p) f = f b ds p

pub after_both : {B : Type 0} {P Q R : B → Type 0} {x : Answer B} → ((b : B) → P b → Q b → R b) → After P x → After Q x → After R x
after_both f halts q = halts
after_both f (gives {b = b} p) q = gives (f b p (given q))
