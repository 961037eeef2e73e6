-- Rows that are filled from the front, and what stands where after an insertion and a removal. Over any element.
-- Assumes nothing.
use Rattle.std.specs.Prelude.{◌≡◌, refl, Bool, true, List, [], ◌∷◌, ◌++◌, ℕ, zero, suc, ◌-◌, ◌≤◌, ◌<◌, length, get_or, set, take, drop, replicate}
use Rattle.std.proofs.Common.{ap, sym, ◌∙◌, append_assoc, arith, not-suc-le-zero, le_of_suc-le-suc, length-append, length-drop, take-append-drop, length-take-le, take-suc}
use Rattle.std.proofs.lemmas.List.{length-replicate, set_at}
use Rattle.std.proofs.Math.Seq.{take-append_seam, drop-append_seam}
use Rattle.model.specs.Rows.{every, insert_at, remove_at, pad_to}
use Rattle.laws.specs.Bools.{every_is}

module _ {A : Type 0} where
  pub length-insert_at : (l : List A) (i : ℕ) (x : A) → length (insert_at l i x) ≡ suc (length l)
  length-insert_at [] i x = refl
  length-insert_at (y ∷ l) zero x = refl
  length-insert_at (y ∷ l) (suc i) x = ap suc (length-insert_at l i x)

  pub length-remove_at : (l : List A) (i : ℕ) → i < length l → suc (length (remove_at l i)) ≡ length l
  length-remove_at [] i h = absurd (not-suc-le-zero h)
  length-remove_at (y ∷ l) zero h = refl
  length-remove_at (y ∷ l) (suc i) h = ap suc (length-remove_at l i (le_of_suc-le-suc h))

  pub length-pad_to : (n : ℕ) (z : A) (l : List A) → length l ≤ n → length (pad_to n z l) ≡ n
  length-pad_to n z l h = omega (arith, length-append l (replicate (n - length l) z), length-replicate (n - length l) z)

  pub insert_at-before : (l : List A) (p i : ℕ) (x d : A) → i < p → p ≤ length l → get_or (insert_at l p x) i d ≡ get_or l i d
  insert_at-before [] p i x d h k = absurd (omega arith)
  insert_at-before (y ∷ l) zero i x d h k = absurd (not-suc-le-zero h)
  insert_at-before (y ∷ l) (suc p) zero x d h k = refl
  insert_at-before (y ∷ l) (suc p) (suc i) x d h k = insert_at-before l p i x d (le_of_suc-le-suc h) (le_of_suc-le-suc k)

  pub insert_at-at : (l : List A) (p : ℕ) (x d : A) → p ≤ length l → get_or (insert_at l p x) p d ≡ x
  insert_at-at [] zero x d k = refl
  insert_at-at [] (suc p) x d k = absurd (not-suc-le-zero k)
  insert_at-at (y ∷ l) zero x d k = refl
  insert_at-at (y ∷ l) (suc p) x d k = insert_at-at l p x d (le_of_suc-le-suc k)

  pub insert_at-after : (l : List A) (p i : ℕ) (x d : A) → p ≤ i → get_or (insert_at l p x) (suc i) d ≡ get_or l i d
  insert_at-after [] p i x d h = refl
  insert_at-after (y ∷ l) zero i x d h = refl
  insert_at-after (y ∷ l) (suc p) zero x d h = absurd (not-suc-le-zero h)
  insert_at-after (y ∷ l) (suc p) (suc i) x d h = insert_at-after l p i x d (le_of_suc-le-suc h)

  pub remove_at-before : (l : List A) (p i : ℕ) (d : A) → i < p → get_or (remove_at l p) i d ≡ get_or l i d
  remove_at-before [] p i d h = refl
  remove_at-before (y ∷ l) zero i d h = absurd (not-suc-le-zero h)
  remove_at-before (y ∷ l) (suc p) zero d h = refl
  remove_at-before (y ∷ l) (suc p) (suc i) d h = remove_at-before l p i d (le_of_suc-le-suc h)

  pub remove_at-after : (l : List A) (p i : ℕ) (d : A) → p ≤ i → get_or (remove_at l p) i d ≡ get_or l (suc i) d
  remove_at-after [] p i d h = refl
  remove_at-after (y ∷ l) zero i d h = refl
  remove_at-after (y ∷ l) (suc p) zero d h = absurd (not-suc-le-zero h)
  remove_at-after (y ∷ l) (suc p) (suc i) d h = remove_at-after l p i d (le_of_suc-le-suc h)

  -- the next place of a row that is filled from the front
  pub pad_step : (n i : ℕ) (z v : A) (l : List A) → i < length l → length l ≤ n → get_or l i z ≡ v
      → set (pad_to n z (take i l)) i v ≡ pad_to n z (take (suc i) l)
  pad_step n i z v l h k e =
      let p : length (take i l) ≡ i = length-take-le i l (omega arith) in
      let q : length (take (suc i) l) ≡ suc i = length-take-le (suc i) l h in
      let m : n - length (take i l) ≡ suc (n - suc i) = omega arith in
      let m₂ : n - length (take (suc i) l) ≡ n - suc i = omega arith in
      ap (λ (c : ℕ). set (take i l ++ replicate c z) i v) m
      ∙ set_at (take i l) z (replicate (n - suc i) z) v i p
      ∙ sym (append_assoc (take i l) (v ∷ []) (replicate (n - suc i) z))
      ∙ ap (λ (x : A). (take i l ++ (x ∷ [])) ++ replicate (n - suc i) z) (sym e)
      ∙ ap (λ (r : List A). r ++ replicate (n - suc i) z) (sym (take-suc l i z h))
      ∙ ap (λ (c : ℕ). take (suc i) l ++ replicate c z) (sym m₂)

-- the used places of a padded row, and those behind
pub take_pad : {B : Type 0} (n : ℕ) (z : B) (l : List B) → take (length l) (pad_to n z l) ≡ l
take_pad n z l = take-append_seam l (replicate (n - length l) z)

pub drop_pad : {B : Type 0} (n : ℕ) (z : B) (l : List B) → drop (length l) (pad_to n z l) ≡ replicate (n - length l) z
drop_pad n z l = drop-append_seam l (replicate (n - length l) z)

-- a row whose places from n on all are the blank is a padded row
pub pad_take : {B : Type 0} (f : B → Bool) (z : B) → ((y : B) → f y ≡ true → y ≡ z) → (places n : ℕ) (l : List B) → length l ≡ places → n ≤ places
    → every f (drop n l) ≡ true → l ≡ pad_to places z (take n l)
pad_take f z h places n l e k p =
    let a : drop n l ≡ replicate (length (drop n l)) z = every_is f z h (drop n l) p in
    let c : length (drop n l) ≡ places - length (take n l) = omega (arith, length-drop n l, length-take-le n l (omega arith)) in
    sym (take-append-drop n l) ∙ ap (λ (r : List _). take n l ++ r) (a ∙ ap (λ (m : ℕ). replicate m z) c)
