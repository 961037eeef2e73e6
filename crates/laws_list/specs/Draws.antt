-- What a rule leaves of the draws is the rest of them: so a loop that counts them reads on where the rule did.
-- Assumes nothing.
use Rattle.std.specs.Prelude.{◌≡◌, refl, Bool, length, get_or, drop}
use Rattle.std.proofs.Common.{ap, sym, ◌∙◌, arith, length-drop, drop-drop}
use Rattle.std.proofs.Math.Bool.{true, false}
use mathlib.Core.List.{List, [], ◌∷◌, ◌++◌}
use Rattle.std.proofs.Math.Option.{Option}
use Prim.Native.Nat.{ℕ, zero, suc, ◌+◌, ◌-◌, ◌*◌, ◌%◌, ◌≤◌}
use Rattle.model.specs.declared.Refusal.{Refusal}
use Rattle.model.specs.Rows.{swap}
use Rattle.model.specs.Answers.{Answer, done, refused, and_then, when, draw}
use Rattle.model.specs.Members.{Members, shuffle_from, shuffle, advance, add, passed, looks, cap, seek, pick_from, Picked}

-- an answer, if it gives something, leaves the draws without some of the first
pub data Leaves {B : Type 0} (ds : List ℕ) : Answer B → Type 0 where
  nothing : {r : Refusal} → Leaves ds (refused r)
  leaves : {b : B} {rest : List ℕ} (used : ℕ) → used ≤ length ds → rest ≡ drop used ds → Leaves ds (done b rest)

pub leaves_all : {B : Type 0} {b : B} (ds : List ℕ) → Leaves ds (done b ds)
leaves_all ds = leaves 0 (omega arith) refl

pub leaves-when : {B : Type 0} {ds : List ℕ} {u : Bool} {x y : Answer B} → (u ≡ true → Leaves ds x) → (u ≡ false → Leaves ds y) → Leaves ds (when u x y)
unfolding when
leaves-when {u = true} p q = p refl
leaves-when {u = false} p q = q refl

-- one draw less, and then what is left
pub leaves-next : {B : Type 0} {d : ℕ} {ds : List ℕ} {x : Answer B} → Leaves ds x → Leaves (d ∷ ds) x
leaves-next nothing = nothing
leaves-next (leaves u h e) = leaves (suc u) (omega arith) e

pub leaves-draw : {B : Type 0} (ds : List ℕ) {k : ℕ → List ℕ → Answer B} → ((d : ℕ) (rest : List ℕ) → Leaves rest (k d rest)) → Leaves ds (draw ds k)
leaves-draw [] f = nothing
leaves-draw (d ∷ ds) f = leaves-next (f d ds)

-- what is left of what is left
pub leaves-more : {B : Type 0} {ds rest : List ℕ} {x : Answer B} (used : ℕ) → used ≤ length ds → rest ≡ drop used ds → Leaves rest x → Leaves ds x
leaves-more used h e nothing = nothing
leaves-more {ds = ds} {rest = rest} used h e (leaves {rest = rest₂} u k e₂) =
    let n : length rest ≡ length ds - used = ap length e ∙ length-drop used ds in
    leaves (used + u) (omega arith) (e₂ ∙ ap (λ (l : List ℕ). drop u l) e ∙ drop-drop u used ds)

pub leaves_then : {B C : Type 0} {ds : List ℕ} {x : Answer B} {k : B → List ℕ → Answer C}
    → Leaves ds x → ((b : B) (rest : List ℕ) → Leaves rest (k b rest)) → Leaves ds (and_then x k)
leaves_then nothing f = nothing
leaves_then (leaves {b = b} {rest = rest} u h e) f = leaves-more u h e (f b rest)

-- the count of what was used leads to the rest
pub rest_is : {B : Type 0} {b : B} {rest : List ℕ} (draws : List ℕ) (from : ℕ) → from ≤ length draws → Leaves (drop from draws) (done b rest)
    → drop (from + (length draws - from - length rest)) draws ≡ rest
rest_is {rest = rest} draws from h (leaves u k e) =
    let l : length (drop from draws) ≡ length draws - from = length-drop from draws in
    let m : length rest ≡ length (drop from draws) - u = ap length e ∙ length-drop u (drop from draws) in
    let n : from + (length draws - from - length rest) ≡ from + u = omega arith in
    ap (λ (i : ℕ). drop i draws) n ∙ sym (drop-drop u from draws) ∙ sym e

-- each rule of the list leaves the rest of the draws
module _ {A : Type 0} (blank : A) where
  pub shuffle-leaves : (i : ℕ) (l : List A) (ds : List ℕ) → Leaves ds (shuffle_from blank i l ds)
  shuffle-leaves zero l ds = leaves_all ds
  shuffle-leaves (suc i) l [] = nothing
  shuffle-leaves (suc i) l (d ∷ ds) = leaves-next (shuffle-leaves i (swap blank l (suc i) (d % suc (suc i))) ds)

  pub advance-leaves : (m : Members A) (ds : List ℕ) → Leaves ds (advance blank m ds)
  unfolding advance shuffle
  advance-leaves m ds =
      leaves-when (λ _. leaves_then (shuffle-leaves (length m.order - 1) m.order ds) (λ o rest. leaves_all rest)) (λ _. leaves_all ds)

module _ {A : Type 0} (same : A → A → Bool) where
  pub add-leaves : (a : A) (n : ℕ) (m : Members A) (ds : List ℕ) → Leaves ds (add same a n m ds)
  unfolding add
  add-leaves a n m ds = leaves-when (λ _. nothing) (λ _. leaves-draw ds (λ d rest. leaves_all rest))

  module _ (blank own : A) where
    pub seek-leaves : (f : ℕ) (e : Option A) (k : ℕ) (got : List A) (m : Members A) (ds : List ℕ) → Leaves ds (seek same blank own f e k got m ds)
    unfolding seek
    seek-leaves f e zero got m ds = leaves_all ds
    seek-leaves zero e (suc k) got m ds = leaves_all ds
    seek-leaves (suc f) e (suc k) got m ds =
        leaves_then (advance-leaves blank m ds) (λ m' rest.
        elim (passed same blank own e (get_or m.order m.position blank)) as (λ u.
        Leaves {B = Picked A} rest
        (elim u [
          | true ↦ seek same blank own f e (suc k) got m' rest
          | false ↦ seek same blank own f e k (got ++ (get_or m.order m.position blank ∷ [])) m' rest
        ])) [
          | true ↦ seek-leaves f e (suc k) got m' rest
          | false ↦ seek-leaves f e k (got ++ (get_or m.order m.position blank ∷ [])) m' rest
        ])

    pub pick-leaves : (e : Option A) (wanted : ℕ) (m : Members A) (ds : List ℕ) → Leaves ds (pick_from same blank own e wanted m ds)
    unfolding pick_from
    pick-leaves e wanted m ds =
        let k : ℕ = cap same blank own e wanted (length m.order) in
        seek-leaves (looks same blank own e * k) e k [] m ds
