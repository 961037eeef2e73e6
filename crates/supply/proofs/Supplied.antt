-- An answer that is not refused for want of draws: what holds of what it gives and of the draws that are left, and how that goes through the forms of a rule.
-- Assumes nothing.
use Rattle.std.specs.Prelude.{◌≡◌, refl, Bool, true, false, List, ℕ}
use Rattle.model.specs.Answers.{Answer, and_then, when}
use Rattle.laws_pick.specs.Picks.{Drawn, short, drawn}
use Rattle.supply.specs.Supplied.{Supplied, stops, goes}

pub supplied_map : {B : Type 0} {P Q : B → List ℕ → Type 0} {x : Answer B} → ((b : B) (ds : List ℕ) → P b ds → Q b ds) → Supplied P x → Supplied Q x
supplied_map f (stops n) = stops n
supplied_map f (goes {b = b} {ds = ds} p) = goes (f b ds p)

pub supplied_then : {B C : Type 0} {P : B → List ℕ → Type 0} {Q : C → List ℕ → Type 0} {x : Answer B} {k : B → List ℕ → Answer C}
    → Supplied P x → ((b : B) (ds : List ℕ) → P b ds → Supplied Q (k b ds)) → Supplied Q (and_then x k)
supplied_then (stops n) f = stops n
supplied_then (goes {b = b} {ds = ds} p) f = f b ds p

pub supplied_when : {B : Type 0} {P : B → List ℕ → Type 0} {u : Bool} {x y : Answer B} → (u ≡ true → Supplied P x) → (u ≡ false → Supplied P y) → Supplied P (when u x y)
unfolding when
supplied_when {u = true} f g = f refl
supplied_when {u = false} f g = g refl

-- and what is known of a pick besides
pub with_drawn : {B : Type 0} {P : B → Type 0} {Q : B → List ℕ → Type 0} {x : Answer B} → Drawn P x → Supplied Q x → Supplied (λ b ds. P b × Q b ds) x
with_drawn short (stops n) = stops n
with_drawn (drawn p) (goes q) = goes (p, q)
