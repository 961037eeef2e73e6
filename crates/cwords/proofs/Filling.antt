-- A row that is filled from the front, a place a turn, by what a function makes of another row's places: one law for each turn and one for
-- each end. Over any elements.
-- Assumes nothing.
use mathlib.Core.Path.{◌≡◌, refl, ap, sym, ◌∙◌}
use mathlib.Core.List.{List, [], ◌∷◌, ◌++◌, map, append-nil}
use Prim.Native.Nat.{ℕ, zero, suc, ◌+◌, ◌-◌, ◌≤◌, ◌<◌, min}
use native.Mathlib.Omega.{arith}
use native.Mathlib.Nat.{not-suc-le-zero, le_of_suc-le-suc}
use native.Mathlib.Numerals.{add-one}
use lib.ListN.{length, get_or, set, take, drop, replicate, length-map, length-set, length-take, drop_of_length-le}
use lib.Seq.{take_all, take-take}
use Rattle.model.specs.Rows.{pad_to}

-- after i of n turns the first i places are made of the first i of the other row, and the rest is as it was before
pub record Filled {A B : Type 0} (f : A → B) (l : List A) (n : ℕ) (before : List B) (i : ℕ) (out : List B) : Type 0 where
  pub few : i ≤ n
  pub long : length out ≡ length before
  pub made : out ≡ take i (map f l) ++ drop i before

set_next : {B : Type 0} (n : ℕ) (ys xs : List B) (d : B) → n < length ys → n < length xs
    → set (take n ys ++ drop n xs) n (get_or ys n d) ≡ take (suc n) ys ++ drop (suc n) xs
set_next n [] xs d g h = absurd (not-suc-le-zero g)
set_next n (y ∷ ys) [] d g h = absurd (not-suc-le-zero h)
set_next zero (y ∷ ys) (x ∷ xs) d g h = refl
set_next {B} (suc n) (y ∷ ys) (x ∷ xs) d g h = ap {B = List B} (λ r. y ∷ r) (set_next n ys xs d (le_of_suc-le-suc g) (le_of_suc-le-suc h))

drop-same : {B : Type 0} (i n : ℕ) (z : B) → drop i (replicate n z) ≡ replicate (n - i) z
drop-same zero n z = let e : n ≡ n - 0 = omega arith in ap (λ (k : ℕ). replicate k z) e
drop-same (suc i) zero z = let e : 0 ≡ 0 - suc i = omega arith in ap (λ (k : ℕ). replicate k z) e
drop-same (suc i) (suc n) z = let e : n - i ≡ suc n - suc i = omega arith in drop-same i n z ∙ ap (λ (k : ℕ). replicate k z) e

map_at : {A B : Type 0} (f : A → B) (l : List A) (i : ℕ) (z : B) (d : A) → i < length l → get_or (map f l) i z ≡ f (get_or l i d)
map_at f [] i z d h = absurd (not-suc-le-zero h)
map_at f (x ∷ l) zero z d h = refl
map_at f (x ∷ l) (suc i) z d h = map_at f l i z d (le_of_suc-le-suc h)

module _ {A B : Type 0} {f : A → B} {l : List A} {n : ℕ} {before : List B} where
  -- no turn yet
  pub filled_none : Filled f l n before 0 before
  filled_none = record { few = omega arith; long = refl; made = refl }

  module _ {i : ℕ} {out : List B} (h : Filled f l n before i out) where
    -- one more turn
    pub filled_next : (d : A) {v : B} → i < n → i < length l → i < length out → v ≡ f (get_or l i d) → Filled f l n before (i + 1) (set out i v)
    filled_next d {v} k g j e =
        record {
          few = omega arith;
          long = length-set out i v ∙ h.long;
          made =
              (λ t. set (h.made t) i ((e ∙ sym (map_at f l i v d g)) t))
              ∙ set_next i (map f l) before v (omega (arith, length-map l f)) (omega (arith, h.long))
              ∙ ap (λ (t : ℕ). take t (map f l) ++ drop t before) (sym (add-one i));
        }

    -- all turns: the first n places are made
    pub filled_all : n ≤ i → out ≡ take n (map f l) ++ drop n before
    filled_all k = let e : i ≡ n = omega (arith, h.few) in h.made ∙ ap (λ (t : ℕ). take t (map f l) ++ drop t before) e

    -- and where both rows have n places, that is all of them
    pub filled_whole : n ≤ i → length l ≡ n → length out ≡ n → out ≡ map f l
    filled_whole k g j =
        h.made
        ∙ (λ t. take_all i (map f l) (omega (arith, length-map l f)) t ++ drop_of_length-le before {i = i} (omega (arith, h.long)) t)
        ∙ append-nil (map f l)

    -- a row of n that was all z, and no turn is left, or no place of the other row
    pub padded : (z : B) → before ≡ replicate n z → i ≤ length l → min n (length l) ≤ i → out ≡ pad_to n z (take n (map f l))
    padded z e g k =
        let t : length (take n (map f l)) ≤ i = omega (arith, length-take n (map f l), length-map l f) in
        let s : n - i ≡ n - length (take n (map f l)) = omega (arith, h.few, length-take n (map f l), length-map l f) in
        let m : take i (map f l) ≡ take n (map f l) = sym (take-take i n (map f l) h.few) ∙ take_all i (take n (map f l)) t in
        h.made ∙ (λ j. m j ++ drop i (e j)) ∙ (λ j. take n (map f l) ++ (drop-same i n z ∙ ap (λ (j : ℕ). replicate j z) s) j)

-- the same, and what is made is read back
pub record Backed {A B : Type 0} (f : A → B) (g : B → A) (l : List A) (n : ℕ) (before : List B) (i : ℕ) (out : List B) : Type 0 where
  pub filled : Filled f l n before i out
  pub back : map g (take i (map f l)) ≡ take i l

abbrev first_or : {A : Type 0} → A → List A → A
first_or d [] = d
first_or d (x ∷ l) = x

abbrev rest : {A : Type 0} → List A → List A
rest [] = []
rest (x ∷ l) = l

back-next : {A B : Type 0} (f : A → B) (g : B → A) (i : ℕ) (d : A) (l : List A) → i < length l → g (f (get_or l i d)) ≡ get_or l i d
    → map g (take i (map f l)) ≡ take i l → map g (take (suc i) (map f l)) ≡ take (suc i) l
back-next f g i d [] h e p = absurd (not-suc-le-zero h)
back-next f g zero d (x ∷ l) h e p = λ j. e j ∷ []
back-next f g (suc i) d (x ∷ l) h e p = λ j. ap (first_or x) p j ∷ back-next f g i d l (le_of_suc-le-suc h) e (ap rest p) j

module _ {A B : Type 0} {f : A → B} {g : B → A} {l : List A} {n : ℕ} {before : List B} where
  pub backed_none : Backed f g l n before 0 before
  backed_none = record { filled = filled_none; back = refl }

  module _ {i : ℕ} {out : List B} (h : Backed f g l n before i out) where
    pub backed_next : (d : A) {v : B} → i < n → i < length l → i < length out → (v ≡ f (get_or l i d)) × (g v ≡ get_or l i d) → Backed f g l n before (i + 1) (set out i v)
    backed_next d k m j e =
        record {
          filled = filled_next h.filled d k m j e.0;
          back =
              ap (λ (t : ℕ). map g (take t (map f l))) (add-one i)
              ∙ back-next f g i d l m (ap g (sym e.0) ∙ e.1) h.back
              ∙ ap (λ (t : ℕ). take t l) (sym (add-one i));
        }

    pub filled_back : n ≤ i → length l ≡ n → length out ≡ n → (out ≡ map f l) × (map g out ≡ l)
    filled_back k m j =
        let e = filled_whole h.filled k m j in (
          e,
          ap (map g) e
              ∙ ap (map g) (sym (take_all i (map f l) (omega (arith, length-map l f))))
              ∙ h.back
              ∙ take_all i l (omega arith),
        )
