-- What holds of each element of a list, and of one of them.
-- Assumes nothing.
use Rattle.std.specs.Prelude.{◌≡◌, refl, List, [], ◌∷◌, ◌++◌, ℕ, zero, suc, ◌<◌, length, get_or, set, take}
use Rattle.std.proofs.Common.{not-suc-le-zero, le_of_suc-le-suc}
use Rattle.model.specs.Rows.{swap, remove_at}
use Rattle.cabinet.specs.Each.{Each, Among, nil, cons, here, there}

abbrev Some : {B : Type 0} → List B → Type 0
Some [] = ⊥
Some (x ∷ l) = Unit {0}

some-there : {B : Type 0} {P : B → Type 0} {l : List B} → Among P l → Some l
some-there (here p) = tt
some-there (there a) = tt

pub nobody : {B C : Type 0} {P : B → Type 0} → Among P [] → C
nobody a = absurd (some-there a)

pub each_map : {B : Type 0} {P Q : B → Type 0} {l : List B} → ((x : B) → P x → Q x) → Each P l → Each Q l
each_map f nil = nil
each_map f (cons {x = x} p ps) = cons (f x p) (each_map f ps)

pub among-map : {B : Type 0} {P Q : B → Type 0} {l : List B} → ((x : B) → P x → Q x) → Among P l → Among Q l
among-map f (here {x = x} p) = here (f x p)
among-map f (there a) = there (among-map f a)

pub each_both : {B : Type 0} {P Q R : B → Type 0} {l : List B} → ((x : B) → Among (λ y. y ≡ x) l → P x → Q x → R x) → Each P l → Each Q l → Each R l
each_both f nil q = nil
each_both f (cons {x = x} p ps) (cons q qs) = cons (f x (here refl) p q) (each_both (λ y a p' q'. f y (there a) p' q') ps qs)

pub each_at : {B : Type 0} {P Q : B → Type 0} {C : Type 0} {l : List B} → ((x : B) → P x → Q x → C) → Each P l → Among Q l → C
each_at {B = B} {P = P} {Q = Q} {C = C} f nil x5 = elim x5 [ ]
each_at f (cons {x = x} p ps) (here q) = f x p q
each_at f (cons {x = x} p ps) (there q) = each_at f ps q

module _ {B : Type 0} {P : B → Type 0} where
  pub each_append : {l m : List B} → Each P l → Each P m → Each P (l ++ m)
  each_append nil q = q
  each_append (cons p ps) q = cons p (each_append ps q)

  pub each-one : {x : B} → P x → Each P (x ∷ [])
  each-one p = cons p nil

  pub each_get : (d : B) (l : List B) (i : ℕ) → i < length l → Each P l → P (get_or l i d)
  each_get d _ i h nil = absurd (not-suc-le-zero h)
  each_get d _ zero h (cons p ps) = p
  each_get d _ (suc i) h (cons {l = l} p ps) = each_get d l i (le_of_suc-le-suc h) ps

  pub each_set : (l : List B) (i : ℕ) (a : B) → P a → Each P l → Each P (set l i a)
  each_set _ i a q nil = nil
  each_set _ zero a q (cons p ps) = cons q ps
  each_set _ (suc i) a q (cons {l = l} p ps) = cons p (each_set l i a q ps)

  pub each_take : (n : ℕ) (l : List B) → Each P l → Each P (take n l)
  each_take zero l ps = nil
  each_take (suc n) _ nil = nil
  each_take (suc n) _ (cons {l = l} p ps) = cons p (each_take n l ps)

  pub each-remove : (l : List B) (i : ℕ) → Each P l → Each P (remove_at l i)
  each-remove _ i nil = nil
  each-remove _ zero (cons p ps) = ps
  each-remove _ (suc i) (cons {l = l} p ps) = cons p (each-remove l i ps)

  pub each-swap : (d : B) (l : List B) (i j : ℕ) → i < length l → j < length l → Each P l → Each P (swap d l i j)
  unfolding swap
  each-swap d l i j h k ps = each_set (set l i (get_or l j d)) j (get_or l i d) (each_get d l i h ps) (each_set l i (get_or l j d) (each_get d l j k ps) ps)
