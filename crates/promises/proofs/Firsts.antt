-- THE FIRST TEST THAT FAILS. Calls and rules refuse by tests in an order: which refusal is given, and when none is.
-- Assumes nothing.
use Rattle.std.specs.Prelude.{◌≡◌, refl, ◌↔◌, Bool, true, false, List, [], ◌∷◌, ◌++◌, ℕ}
use Rattle.std.proofs.Common.{sym, ◌∙◌, ap, subst, arith}
use Rattle.model.specs.declared.Refusal.{Refusal}
use Rattle.model.specs.Answers.{Answer, refused, and_then, when}
use Rattle.model.specs.Calls.{first_of}
use Rattle.history.specs.Worlds.{Passed}
use Rattle.promises.specs.Firsts.{FirstFails, Among, Refuses, fails, passes, halts, goes}

pub first-among : (P : Refusal → Type 0) {x : Refusal} {ts : List (Bool × Refusal)} → FirstFails x ts → Among P ts → P x
first-among P (fails p q) h = subst P q h.0
first-among P (passes p f) h = first-among P f h.1

pub all_among : {P : Refusal → Type 0} → ((r : Refusal) → P r) → (ts : List (Bool × Refusal)) → Among P ts
all_among h [] = tt
all_among h (t ∷ ts) = (h t.1, all_among h ts)

pub among_also : {P Q : Refusal → Type 0} → ((r : Refusal) → P r → Q r) → (ts : List (Bool × Refusal)) → Among P ts → Among Q ts
among_also h [] a = tt
among_also h (t ∷ ts) a = (h t.1 a.0, among_also h ts a.1)

both : {C : Type 0} {u : Bool} → u ≡ true → u ≡ false → C
both p q = let z : ◌≡◌ {A = ℕ} 0 1 = cc in absurd (omega arith)

-- one refusal at most, and none where every test is passed
first-same : {x y : Refusal} {ts : List (Bool × Refusal)} → FirstFails x ts → FirstFails y ts → x ≡ y
first-same (fails p q) (fails p' q') = sym q ∙ q'
first-same (fails p q) (passes p' f') = both p p'
first-same (passes p f) (fails p' q') = both p' p
first-same (passes p f) (passes p' f') = first-same f f'

pub first_or-passed : {C : Type 0} {x : Refusal} {ts : List (Bool × Refusal)} → FirstFails x ts → Passed ts → C
first_or-passed (fails p q) h = both p h.0
first_or-passed (passes p f) h = first_or-passed f h.1

-- one list after another
first-left : {x : Refusal} {ts : List (Bool × Refusal)} (us : List (Bool × Refusal)) → FirstFails x ts → FirstFails x (ts ++ us)
first-left us (fails p q) = fails p q
first-left us (passes p f) = passes p (first-left us f)

first_right : {x : Refusal} (ts : List (Bool × Refusal)) {us : List (Bool × Refusal)} → Passed ts → FirstFails x us → FirstFails x (ts ++ us)
first_right [] h f = f
first_right (t ∷ ts) h f = passes h.0 (first_right ts h.1 f)

passed-both : (ts us : List (Bool × Refusal)) → Passed ts → Passed us → Passed (ts ++ us)
passed-both [] us h k = k
passed-both (t ∷ ts) us h k = (h.0, passed-both ts us h.1 k)

pub exactly : {B : Type 0} {ts : List (Bool × Refusal)} {a : Answer B} (x : Refusal) → Refuses ts a → (a ≡ refused x) ↔ FirstFails x ts
exactly x (halts {x = y} f) = ((λ e. let z : y ≡ x = cc in rw z at f), (λ g. ap refused (first-same f g)))
exactly x (goes p) = ((λ e. let z : ◌≡◌ {A = ℕ} 0 1 = cc in absurd (omega arith)), (λ g. first_or-passed g p))

-- how it goes through the forms that a rule is made of
pub untested : {B : Type 0} {r : Refusal} {ts : List (Bool × Refusal)} {a : Answer B} → Refuses ts a → Refuses ((false, r) ∷ ts) a
untested (halts f) = halts (passes refl f)
untested (goes p) = goes (refl, p)

pub tested : {B : Type 0} (u : Bool) {r : Refusal} {ts : List (Bool × Refusal)} {a : Answer B} → Refuses ts a → Refuses ((u, r) ∷ ts) (when u (refused r) a)
unfolding when
tested true h = halts (fails refl refl)
tested false h = untested h

pub then : {B C : Type 0} (ts : List (Bool × Refusal)) {us : List (Bool × Refusal)} {a : Answer B} {k : B → List ℕ → Answer C}
    → Refuses ts a → ((b : B) (ds : List ℕ) → Refuses us (k b ds)) → Refuses (ts ++ us) (and_then a k)
then ts {us = us} (halts f) g = halts (first-left us f)
then {C = C} ts {us = us} (goes {b = b} {ds = ds} p) g = after (g b ds)
  where
    after : {a : Answer C} → Refuses us a → Refuses (ts ++ us) a
    after (halts f) = halts (first_right ts p f)
    after (goes q) = goes (passed-both ts us p q)

-- ---- a call that tests first: what it gives is read as a reply, or as a number
module _ {B R : Type 0} (read : B → R) (named : Refusal → R) (refuse : Refusal → B) (says : (r : Refusal) → read (refuse r) ≡ named r) (go : B) where
  -- what no test gives comes after the tests
  pub after-tests : (y : R) (ts : List (Bool × Refusal)) → Among (λ r. named r ≡ y → ⊥) ts → (read (first_of ts refuse go) ≡ y) ↔ (Passed ts × (read go ≡ y))
  after-tests y ts apart = (beyond ts apart, λ h. through ts h.0 h.1)
    where
      beyond : (us : List (Bool × Refusal)) → Among (λ r. named r ≡ y → ⊥) us → read (first_of us refuse go) ≡ y → Passed us × (read go ≡ y)
      beyond [] a e = (tt, e)
      beyond (t ∷ us) a e =
          (elim t.0 as (λ u. t.0 ≡ u → read (elim u [ true ↦ refuse t.1 | false ↦ first_of us refuse go ]) ≡ y → Passed (t ∷ us) × (read go ≡ y)) [
            | true ↦ λ p q. absurd (a.0 (sym (says t.1) ∙ q))
            | false ↦ λ p q. let b = beyond us a.1 q in ((p, b.0), b.1)
          ]) refl e

      through : (us : List (Bool × Refusal)) → Passed us → read go ≡ y → read (first_of us refuse go) ≡ y
      through [] p e = e
      through (t ∷ us) p e = rw p.0 (through us p.1 e)

  -- what nothing after the tests gives, the tests give
  pub by_tests : ((r x : Refusal) → named r ≡ named x → r ≡ x) → (x : Refusal) → (read go ≡ named x → ⊥) → (ts : List (Bool × Refusal)) → (read (first_of ts refuse go) ≡ named x) ↔ FirstFails x ts
  by_tests same x never ts = (early ts, given ts)
    where
      early : (us : List (Bool × Refusal)) → read (first_of us refuse go) ≡ named x → FirstFails x us
      early [] e = absurd (never e)
      early (t ∷ us) e =
          (elim t.0 as (λ u. t.0 ≡ u → read (elim u [ true ↦ refuse t.1 | false ↦ first_of us refuse go ]) ≡ named x → FirstFails x (t ∷ us)) [
            | true ↦ λ p q. fails p (same t.1 x (sym (says t.1) ∙ q))
            | false ↦ λ p q. passes p (early us q)
          ]) refl e

      given : (us : List (Bool × Refusal)) → FirstFails x us → read (first_of us refuse go) ≡ named x
      given [] f = elim f [ ]
      given (t ∷ us) (fails p q) = rw p (says t.1 ∙ ap named q)
      given (t ∷ us) (passes p f) = rw p (given us f)
