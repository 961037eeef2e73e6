-- REFUSALS 2 AND 12 OF `swim::save`, in plain words: the node isn't sound; it is, and its image is longer than the row. REFUSED, NOTHING IS WRITTEN.
-- Assumes nothing.
use Rattle.std.specs.Prelude.{◌≡◌, refl, ◌↔◌, Bool, true, false, not, List, [], ◌∷◌, ◌++◌, ℕ, ◌≤◌, ◌<◌, ltb, length, drop}
use Rattle.std.proofs.Common.{ap, sym, ◌∙◌, arith, lt-ltb, le-ltb, ltb-true, ltb-false}
use Rattle.model.specs.declared.Refusal.{Refusal}
use Rattle.model.specs.declared.Refusal.TheVariants.{Unsound, NoRoom}
use Rattle.model.specs.Sound.{sound}
use Rattle.model.specs.Calls.{first_of}
use Rattle.address.specs.Here.{here}
use Rattle.node.specs.declared.Node.{Node}
use Rattle.node.specs.Views.{stored_view}
use Rattle.saving.specs.Saving.{Save, saved, not_saved, save}
use Rattle.saving.specs.Views.{ending_of, Saves}
use Rattle.saving.specs.declared.Saving.{Saving}
use Rattle.saving.specs.declared.Saving.TheVariants as saving
use Rattle.saving_promises.specs.Exactly.{saving_number}
use Rattle.saving_promises.specs.Plain.{image}

module _ (node : Node) (row : List ℕ) (r : Saving) (row' : List ℕ) (met : Saves node row r row') where
  -- how a save ends, by the two tests: is the node sound, and is the row too short?
  abbrev ending : Bool → Bool → Save
  ending u v =
      first_of ((not u, Unsound) ∷ (v, NoRoom) ∷ []) (λ x. record { ends = not_saved x; row = row })
      (record { ends = saved (length (image node row r row' met)); row = (image node row r row' met) ++ drop (length (image node row r row' met)) row })

  abbrev this : Save
  this = ending (sound here (stored_view node)) (ltb (length row) (length (image node row r row' met)))

  ended : (r ≡ ending_of this.ends) × (row' ≡ this.row)
  unfolding save
  ended = (met.answer, met.written)

  abbrev kind : Saving → ℕ
  kind (saving.Whole n) = 0
  kind (saving.Refused x) = 1

  -- nothing is written
  pub save-refused : (x : Refusal) → r ≡ saving.Refused x → row' ≡ row
  save-refused x e = ended.1 ∙ by (sound here (stored_view node)) (ltb (length row) (length (image node row r row' met))) (sym ended.0 ∙ e)
    where
      by : (u v : Bool) → ending_of (ending u v).ends ≡ saving.Refused x → (ending u v).row ≡ row
      by false v q = refl
      by true true q = refl
      by true false q = let y : ◌≡◌ {A = ℕ} 0 1 = ap kind q in absurd (omega arith)

  -- the three numbers that a save gives
  two : (u v : Bool) → (saving_number (ending_of (ending u v).ends) ≡ 2) ↔ (u ≡ false)
  two false v = ((λ e. refl), (λ e. refl))
  two true true = ((λ e. absurd (omega (arith, e))), (λ e. let y : ◌≡◌ {A = ℕ} 0 1 = cc in absurd (omega arith)))
  two true false = ((λ e. absurd (omega (arith, e))), (λ e. let y : ◌≡◌ {A = ℕ} 0 1 = cc in absurd (omega arith)))

  twelve : (u v : Bool) → (saving_number (ending_of (ending u v).ends) ≡ 12) ↔ ((u ≡ true) × (v ≡ true))
  twelve false v = ((λ e. absurd (omega (arith, e))), (λ e. let p = e.0 in let y : ◌≡◌ {A = ℕ} 0 1 = cc in absurd (omega arith)))
  twelve true true = ((λ e. (refl, refl)), (λ e. refl))
  twelve true false = ((λ e. absurd (omega (arith, e))), (λ e. let p = e.1 in let y : ◌≡◌ {A = ℕ} 0 1 = cc in absurd (omega arith)))

  none : (u v : Bool) → (saving_number (ending_of (ending u v).ends) ≡ 0) ↔ ((u ≡ true) × (v ≡ false))
  none false v = ((λ e. absurd (omega (arith, e))), (λ e. let p = e.0 in let y : ◌≡◌ {A = ℕ} 0 1 = cc in absurd (omega arith)))
  none true true = ((λ e. absurd (omega (arith, e))), (λ e. let p = e.1 in let y : ◌≡◌ {A = ℕ} 0 1 = cc in absurd (omega arith)))
  none true false = ((λ e. (refl, refl)), (λ e. refl))

  number_is : saving_number r ≡ saving_number (ending_of this.ends)
  number_is = ap saving_number ended.0

  -- "for save 2, then 12"
  pub save_2 : (saving_number r ≡ 2) ↔ (sound here (stored_view node) ≡ false)
  save_2 =
      let b = two (sound here (stored_view node)) (ltb (length row) (length (image node row r row' met))) in
      ((λ e. b.0 (sym number_is ∙ e)), (λ h. number_is ∙ b.1 h))

  pub save_12 : (saving_number r ≡ 12) ↔ ((sound here (stored_view node) ≡ true) × (length row < length (image node row r row' met)))
  save_12 =
      let b = twelve (sound here (stored_view node)) (ltb (length row) (length (image node row r row' met))) in (
        (λ e. let p = b.0 (sym number_is ∙ e) in (p.0, ltb-true (length row) (length (image node row r row' met)) p.1)),
        (λ h. number_is ∙ b.1 (h.0, lt-ltb (length row) (length (image node row r row' met)) h.1)),
      )

  pub save-whole : (saving_number r ≡ 0) ↔ ((sound here (stored_view node) ≡ true) × (length (image node row r row' met) ≤ length row))
  save-whole =
      let b = none (sound here (stored_view node)) (ltb (length row) (length (image node row r row' met))) in (
        (λ e. let p = b.0 (sym number_is ∙ e) in (p.0, ltb-false (length row) (length (image node row r row' met)) p.1)),
        (λ h. number_is ∙ b.1 (h.0, le-ltb (length row) (length (image node row r row' met)) h.1)),
      )
