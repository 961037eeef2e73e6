-- Tests that are joined, and tests of every element of a list.
-- Assumes nothing.
use Rattle.std.specs.Prelude.{◌≡◌, refl, Bool, true, false, ◌&&◌, List, [], ◌∷◌, ◌++◌, map, ℕ, zero, suc, ◌+◌, ◌≤◌, ◌<◌, length, get_or, take, drop, replicate}
use Rattle.std.proofs.Common.{ap, sym, ◌∙◌, arith, add-one, drop_of_length-le, drop-cons}
use Rattle.std.proofs.Math.Option.{Option, none, some}
use Rattle.model.specs.Rows.{every}

pub and_split : (x y : Bool) → (x && y) ≡ true → (x ≡ true) × (y ≡ true)
and_split true y e = (refl, e)
and_split false y e = (cc, cc)

pub and_join : {x y : Bool} → x ≡ true → y ≡ true → (x && y) ≡ true
and_join p q = rw (p, q)

-- what is missing is not there
there : {B : Type 0} → Option B → ℕ
there none = 0
there (some b) = 1

pub none-some : {B C : Type 0} {b : B} → ◌≡◌ {A = Option B} none (some b) → C
unfolding there
none-some e = absurd (omega (arith, ap there e))

module _ {A : Type 0} (f : A → Bool) where
  pub every-replicate : (n : ℕ) (x : A) → f x ≡ true → every f (replicate n x) ≡ true
  every-replicate zero x e = refl
  every-replicate (suc n) x e = and_join e (every-replicate n x e)

  pub every_append : (l m : List A) → every f l ≡ true → every f m ≡ true → every f (l ++ m) ≡ true
  every_append [] m p q = q
  every_append (x ∷ l) m p q = let r = and_split (f x) (every f l) p in and_join r.0 (every_append l m r.1 q)

  -- a list whose every element is x is x repeated
  pub every_is : (x : A) → ((y : A) → f y ≡ true → y ≡ x) → (l : List A) → every f l ≡ true → l ≡ replicate (length l) x
  every_is x h [] p = refl
  every_is x h (y ∷ l) p =
      let r = and_split (f y) (every f l) p in
      ap (λ (z : A). z ∷ l) (h y r.0) ∙ ap (λ (m : List A). x ∷ m) (every_is x h l r.1)

-- what passes one test passes another
pub every_weaken : {A : Type 0} (f g : A → Bool) → ((x : A) → f x ≡ true → g x ≡ true) → (l : List A) → every f l ≡ true → every g l ≡ true
every_weaken f g h [] p = refl
every_weaken f g h (x ∷ l) p = let r = and_split (f x) (every f l) p in and_join (h x r.0) (every_weaken f g h l r.1)

-- a loop's test: what is left from i on is what stands at i, and what is left after it
pub every_drop : {A : Type 0} (f : A → Bool) (d : A) (l : List A) (i : ℕ) → i < length l → every f (drop i l) ≡ (f (get_or l i d) && every f (drop (i + 1) l))
every_drop f d l i h = ap (every f) (drop-cons l i d h ∙ ap (λ (j : ℕ). get_or l i d ∷ drop j l) (sym (add-one i)))

pub every_map : {A B : Type 0} (f : B → Bool) (g : A → B) (l : List A) → every f (map g l) ≡ every (λ x. f (g x)) l
every_map f g [] = refl
every_map f g (x ∷ l) = ap (λ (b : Bool). f (g x) && b) (every_map f g l)

pub take-map : {A B : Type 0} (g : A → B) (n : ℕ) (l : List A) → take n (map g l) ≡ map g (take n l)
take-map g zero l = refl
take-map g (suc n) [] = refl
take-map g (suc n) (x ∷ l) = ap (λ (m : List _). g x ∷ m) (take-map g n l)

pub drop-map : {A B : Type 0} (g : A → B) (n : ℕ) (l : List A) → drop n (map g l) ≡ map g (drop n l)
drop-map g zero l = refl
drop-map g (suc n) [] = refl
drop-map g (suc n) (x ∷ l) = drop-map g n l

-- A loop that tests each element of l: t is the answer, and what is left from i on still decides it
module _ {A : Type 0} (f : A → Bool) (d : A) (l : List A) (t : Bool) (i : ℕ) (rest : every f (drop i l) ≡ t) where
  pub loop_fails : i < length l → f (get_or l i d) ≡ false → t ≡ false
  loop_fails h e = sym rest ∙ every_drop f d l i h ∙ ap (λ (b : Bool). b && every f (drop (i + 1) l)) e

  pub loop_next : i < length l → f (get_or l i d) ≡ true → every f (drop (i + 1) l) ≡ t
  loop_next h e = sym (ap (λ (b : Bool). b && every f (drop (i + 1) l)) e) ∙ sym (every_drop f d l i h) ∙ rest

  pub loop_ends : length l ≤ i → t ≡ true
  loop_ends h = sym rest ∙ ap (every f) (drop_of_length-le l h)
