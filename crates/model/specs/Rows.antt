-- Lists: choosing, inserting, erasing, swapping, and rows of a fixed number of places. Over any element.
-- Assumes nothing.
use Rattle.std.specs.Prelude.{◌≡◌, Bool, true, false, ◌&&◌, List, [], ◌∷◌, ◌++◌, ℕ, zero, suc, ◌+◌, ◌-◌, length, get_or, set, replicate}

abbrev pub one : Bool → ℕ
one true = 1
one false = 0

-- the first where the test passes, else the second
abbrev pub pick {ℓ} : {B : Type ℓ} → Bool → B → B → B
pick true x y = x
pick false x y = y

module _ {A : Type 0} where
  -- x at place i, or at the end where the list is shorter
  abbrev pub insert_at : List A → ℕ → A → List A
  insert_at [] i x = x ∷ []
  insert_at (y ∷ l) zero x = x ∷ y ∷ l
  insert_at (y ∷ l) (suc i) x = y ∷ insert_at l i x

  -- the list without its place i
  abbrev pub remove_at : List A → ℕ → List A
  remove_at [] i = []
  remove_at (y ∷ l) zero = l
  remove_at (y ∷ l) (suc i) = y ∷ remove_at l i

  -- a row of n places: the list, and the blank behind it
  abbrev pub pad_to : ℕ → A → List A → List A
  pad_to n blank l = l ++ replicate (n - length l) blank

  -- what stands at two places changes places
  unfoldable pub swap : A → List A → ℕ → ℕ → List A
  swap blank l i j = set (set l i (get_or l j blank)) j (get_or l i blank)

  -- a test passes at each element
  abbrev pub every : (A → Bool) → List A → Bool
  every f [] = true
  every f (x ∷ l) = f x && every f l

  -- how many pass a test
  unfoldable pub count : (A → Bool) → List A → ℕ
  count f [] = 0
  count f (x ∷ l) = one (f x) + count f l

  -- those that pass it, in their order
  unfoldable pub those : (A → Bool) → List A → List A
  those f [] = []
  those f (x ∷ l) = pick (f x) (x ∷ those f l) (those f l)

  abbrev pub is_empty : List A → Bool
  is_empty [] = true
  is_empty (x ∷ l) = false

module _ {A : Type 0} (same : A → A → Bool) where
  -- how often a stands in a list
  abbrev pub occurs : A → List A → ℕ
  occurs a [] = 0
  occurs a (x ∷ l) = one (same a x) + occurs a l

  abbrev pub has : A → List A → Bool
  has a [] = false
  has a (x ∷ l) = pick (same a x) true (has a l)

  -- the list without the first place that holds a
  abbrev pub erase : A → List A → List A
  erase a [] = []
  erase a (x ∷ l) = pick (same a x) l (x ∷ erase a l)

-- what is asked of a test for equality: it is true of equals, and of nothing else
pub record Test {A : Type 0} (same : A → A → Bool) : Type 0 where
  pub same_refl : (a : A) → same a a ≡ true
  pub same_eq : (a b : A) → same a b ≡ true → a ≡ b
