-- Each way out of the step of an event, and the two answers of a merge taken back to the rule's.
-- Assumes nothing.
use Rattle.std.specs.Prelude.{◌≡◌, Bool, true, false, List, ℕ}
use Rattle.std.proofs.Math.Path.{ap, sym}
use Rattle.std.proofs.Common.{◌∙◌, arith}
use borrow.Author.Tests.{eq-eqb, ne_eqb}
use Rattle.fields.specs.declared.Field.{Field}
use Rattle.fields.specs.Field.{content}
use Rattle.fields.specs.Walk.{Read, stopped, read}
use Rattle.utf8.specs.Utf8.{utf8}
use Rattle.iptext.specs.declared.Text.{Text}
use Rattle.iptext.specs.Reading.{text_of}
use Rattle.events.specs.declared.Said.{Said}
use Rattle.events.specs.declared.Merged.{Merged}
use Rattle.events.specs.declared.Merged.TheVariants as merged
use Rattle.events.specs.declared.TextField.{TextField}
use Rattle.events.specs.declared.TextField.TheVariants as text
use Rattle.events.specs.Event.{text_at, put_text, put_number, event_step, as_merged}

-- a text
module _ (bytes : List ℕ) (f : Field) where
  pub text_wrong : (f.wire ≡ 2 → ⊥) → text.Stopped ≡ text_at bytes f
  unfolding text_at
  text_wrong h = simp (ne_eqb f.wire 2 h)

  pub text_read : (u : Bool) (t : Text) → f.wire ≡ 2 → u ≡ utf8 (content bytes f) → u ≡ true → t ≡ text_of (content bytes f) → text.Read t ≡ text_at bytes f
  unfolding text_at
  text_read u t h e v q = ap text.Read q ∙ sym (simp (eq-eqb f.wire 2 h, sym e ∙ v))

  pub text_bad : (u : Bool) → f.wire ≡ 2 → u ≡ utf8 (content bytes f) → u ≡ false → text.Stopped ≡ text_at bytes f
  unfolding text_at
  text_bad u h e v = sym (simp (eq-eqb f.wire 2 h, sym e ∙ v))

-- the step
module _ (s : Said) (place : ℕ) (bytes : List ℕ) (f : Field) where
  from_is : f.number ≡ 1 → event_step s place bytes f ≡ put_text place (text_at bytes f) (λ t. record { from = t; subject = s.subject; number = s.number })
  unfolding event_step
  from_is h = simp (eq-eqb f.number 1 h)

  subject_is : f.number ≡ 2 → event_step s place bytes f ≡ put_text place (text_at bytes f) (λ t. record { from = s.from; subject = t; number = s.number })
  unfolding event_step
  subject_is h = simp (ne_eqb f.number 1 (λ e. omega arith), eq-eqb f.number 2 h)

  number_is : f.number ≡ 3 → event_step s place bytes f ≡ put_number place f (λ n. record { from = s.from; subject = s.subject; number = n })
  unfolding event_step
  number_is h = simp (ne_eqb f.number 1 (λ e. omega arith), ne_eqb f.number 2 (λ e. omega arith), eq-eqb f.number 3 h)

  pub from_stop : f.number ≡ 1 → text.Stopped ≡ text_at bytes f → stopped place ≡ event_step s place bytes f
  unfolding put_text
  from_stop h e = sym (from_is h ∙ ap (λ (x : TextField). put_text place x (λ t. record { from = t; subject = s.subject; number = s.number })) (sym e))

  pub from_read : (t : Text) → f.number ≡ 1 → text.Read t ≡ text_at bytes f → read (record { from = t; subject = s.subject; number = s.number }) ≡ event_step s place bytes f
  unfolding put_text
  from_read t h e = sym (from_is h ∙ ap (λ (x : TextField). put_text place x (λ t. record { from = t; subject = s.subject; number = s.number })) (sym e))

  pub subject_stop : f.number ≡ 2 → text.Stopped ≡ text_at bytes f → stopped place ≡ event_step s place bytes f
  unfolding put_text
  subject_stop h e = sym (subject_is h ∙ ap (λ (x : TextField). put_text place x (λ t. record { from = s.from; subject = t; number = s.number })) (sym e))

  pub subject_read : (t : Text) → f.number ≡ 2 → text.Read t ≡ text_at bytes f → read (record { from = s.from; subject = t; number = s.number }) ≡ event_step s place bytes f
  unfolding put_text
  subject_read t h e = sym (subject_is h ∙ ap (λ (x : TextField). put_text place x (λ t. record { from = s.from; subject = t; number = s.number })) (sym e))

  pub number_stop : f.number ≡ 3 → (f.wire ≡ 0 → ⊥) → stopped place ≡ event_step s place bytes f
  unfolding put_number
  number_stop h w = sym (number_is h ∙ simp (ne_eqb f.wire 0 w))

  pub number_read : f.number ≡ 3 → f.wire ≡ 0 → read (record { from = s.from; subject = s.subject; number = f.value }) ≡ event_step s place bytes f
  unfolding put_number
  number_read h w = sym (number_is h ∙ simp (eq-eqb f.wire 0 w))

  pub other_read : (f.number ≡ 1 → ⊥) → (f.number ≡ 2 → ⊥) → (f.number ≡ 3 → ⊥) → read s ≡ event_step s place bytes f
  unfolding event_step
  other_read a b c = sym (simp (ne_eqb f.number 1 a, ne_eqb f.number 2 b, ne_eqb f.number 3 c))

-- a merge's two answers
pub was-stopped : (r : Read Said) (m : Merged) (p : ℕ) → m ≡ as_merged r → m ≡ merged.Stopped p → stopped p ≡ r
was-stopped (stopped q) m p e h = let z : p ≡ q = cc in ap stopped z
was-stopped (read s) m p e h = let z : ◌≡◌ {A = ℕ} 0 1 = cc in absurd (omega arith)

pub was_read : (r : Read Said) (m : Merged) (s : Said) → m ≡ as_merged r → m ≡ merged.Read s → read s ≡ r
was_read (stopped q) m s e h = let z : ◌≡◌ {A = ℕ} 0 1 = cc in absurd (omega arith)
was_read (read t) m s e h = let z : s ≡ t = cc in ap read z
