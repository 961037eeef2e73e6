-- What insert, remove and shuffle do to the order: one place more, one place less, a permutation.
-- Assumes nothing.
use Rattle.std.specs.Prelude.{◌≡◌, refl, List, [], ◌∷◌, ℕ, zero, suc, ◌-◌, ◌≤◌, ◌<◌, length, get_or, take, drop}
use Rattle.std.proofs.Common.{ap, ◌∙◌, arith, not-suc-le-zero, le_of_suc-le-suc, take_at, length-take-le}
use Rattle.model.specs.Answers.{Answer, done, refused}
use Rattle.laws.specs.After.{After, halts, gives}
use Rattle.address.specs.Here.{Addr, here}
use Rattle.model.specs.Rows.{insert_at, remove_at, occurs}
use Rattle.model.specs.Members.{shuffle}
use Rattle.laws_list.specs.Whole.{Alike, shuffle-alike}
use Rattle.model.specs.declared.Drew.TheVariants.{Used}
use Rattle.order.specs.Views.{shuffled_as, shuffled_of}

module _ {A : Type 0} where
  -- an insertion is undone by a removal at its place: no other place changed
  pub insert_one-place : (l : List A) (i : ℕ) (x : A) → i ≤ length l → remove_at (insert_at l i x) i ≡ l
  insert_one-place [] zero x h = refl
  insert_one-place [] (suc i) x h = absurd (not-suc-le-zero h)
  insert_one-place (y ∷ l) zero x h = refl
  insert_one-place (y ∷ l) (suc i) x h = ap (λ (m : List A). y ∷ m) (insert_one-place l i x (le_of_suc-le-suc h))

  -- and a removal by an insertion of what stood there
  pub remove-one-place : (l : List A) (i : ℕ) (d : A) → i < length l → insert_at (remove_at l i) i (get_or l i d) ≡ l
  remove-one-place [] i d h = absurd (not-suc-le-zero h)
  remove-one-place (y ∷ []) zero d h = refl
  remove-one-place (y ∷ z ∷ l) zero d h = refl
  remove-one-place (y ∷ l) (suc i) d h = ap (λ (m : List A). y ∷ m) (remove-one-place l i d (le_of_suc-le-suc h))

-- a shuffle that was made holds each address as often as before
pub shuffle-permutes : (row : List Addr) (n : ℕ) (draws : List ℕ) (from used : ℕ) → n ≤ length row → (shuffled_of row n draws from).drew ≡ Used used
    → (a : Addr) → occurs here.same a (take n (shuffled_of row n draws from).row) ≡ occurs here.same a (take n row)
unfolding shuffle
shuffle-permutes row n draws from used h e a =
    kept (shuffle here.blank (take n row) (drop from draws)) (shuffle-alike here.same here.blank (length (take n row) - 1) (take n row) (drop from draws) (omega arith)) e
  where
    kept : (x : Answer (List Addr)) → After (Alike here.same (take n row)) x → (shuffled_as row n (length draws - from) x).drew ≡ Used used
        → occurs here.same a (take n (shuffled_as row n (length draws - from) x).row) ≡ occurs here.same a (take n row)
    kept (refused r) halts q = refl
    kept (done l rest) (gives k) q =
        ap (occurs here.same a) (take_at l (drop n row) n (k.long ∙ length-take-le n row h)) ∙ k.counts a
