-- Changes of a row whose used places come first: one more, one replaced, none removed. Over any element.
-- Assumes nothing.
use Rattle.std.specs.Prelude.{◌≡◌, refl, List, [], ◌∷◌, ◌++◌, ℕ, zero, suc, ◌-◌, ◌≤◌, ◌<◌, length, set, replicate}
use Rattle.std.proofs.Common.{ap, sym, ◌∙◌, arith, add-one, length-append, length-set, take_at, take_all}
use Rattle.std.proofs.lemmas.List.{get_or_at, set-append_left}
use Rattle.model.specs.Rows.{remove_at, pad_to}
use Rattle.laws.specs.Pad.{pad_step}

module _ {A : Type 0} (n : ℕ) (z : A) (l : List A) where
  -- one more behind the used places
  pub pad_snoc : (v : A) → length l < n → set (pad_to n z l) (length l) v ≡ pad_to n z (l ++ (v ∷ []))
  pad_snoc v h =
      let e : length (l ++ (v ∷ [])) ≡ suc (length l) = length-append l (v ∷ []) ∙ add-one (length l) in
      ap (λ (x : List A). set (pad_to n z x) (length l) v) (sym (take_at l (v ∷ []) (length l) refl))
      ∙ pad_step n (length l) z v (l ++ (v ∷ [])) (omega arith) (omega arith) (get_or_at l v [] z (length l) refl)
      ∙ ap (pad_to n z) (take_all (suc (length l)) (l ++ (v ∷ [])) (omega arith))

  -- a used place replaced
  pub pad_set : (i : ℕ) (v : A) → i < length l → set (pad_to n z l) i v ≡ pad_to n z (set l i v)
  pad_set i v h =
      set-append_left l (replicate (n - length l) z) i v h ∙ ap (λ (k : ℕ). set l i v ++ replicate (n - k) z) (sym (length-set l i v))

-- a place behind the list is no place of it
pub remove_at-out : {A : Type 0} (l : List A) (i : ℕ) → length l ≤ i → remove_at l i ≡ l
remove_at-out [] i h = refl
remove_at-out (x ∷ l) zero h = absurd (omega arith)
remove_at-out (x ∷ l) (suc i) h = ap (λ r. x ∷ r) (remove_at-out l i (omega arith))
