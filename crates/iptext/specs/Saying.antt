-- The ways out of reading and writing: by family.
-- Assumes nothing.
use Rattle.std.specs.Prelude.{◌≡◌, refl, List, [], ◌∷◌, ℕ, ◌<◌, length, get_or}
use Rattle.std.proofs.Common.{ap, sym, ◌∙◌, subst, arith}
use Rattle.address.specs.Here.{Addr, here_text}
use Rattle.address.specs.Text.{text}
use Rattle.address.specs.Families.{number, text_of-six, text_of_other}
use Rattle.varint.specs.Laid.{Laid, Room, laid_as}
use Rattle.ip4text.specs.Reading as ip4
use Rattle.ip4text.specs.declared.Text as declared4
use Rattle.ip6.specs.Text6.{text6}
use Rattle.ip6text.specs.Reading.{said6}
use Rattle.ip6text.specs.declared.Said.{Said}
use Rattle.iptext.specs.declared.Text.{Text}
use Rattle.iptext.specs.declared.Text.TheVariants.{Empty}
use Rattle.iptext.specs.Reading.{four, six, text_of}
use Rattle.iptext.specs.Texts.{six-says, four-says}

pub read_none : (bytes : List ℕ) → length bytes ≡ 0 → Empty ≡ text_of bytes
unfolding text_of
read_none [] h = refl
read_none (b ∷ bytes) h = absurd (omega arith)

pub read_six : (bytes : List ℕ) (s : Said) (r : Text) → (length bytes ≡ 0 → ⊥) → get_or bytes 0 0 ≡ 91 → s ≡ said6 bytes → r ≡ six s → r ≡ text_of bytes
read_six [] s r h k e f = absurd (h refl)
read_six (b ∷ bytes) s r h k e f = f ∙ ap six e ∙ sym (six-says b bytes k)

pub read_four : (bytes : List ℕ) (s : declared4.Text) (r : Text) → (length bytes ≡ 0 → ⊥) → (get_or bytes 0 0 ≡ 91 → ⊥) → s ≡ ip4.text_of bytes → r ≡ four s → r ≡ text_of bytes
read_four [] s r h k e f = absurd (h refl)
read_four (b ∷ bytes) s r h k e f = f ∙ ap four e ∙ sym (four-says b bytes k)

six-text : (a : Addr) (p : ℕ) → a.family ≡ 6 → p ≡ a.port → here_text a ≡ text6 a.high a.low p
six-text a p h e = text_of-six a h ∙ ap (λ (x : ℕ). text6 a.high a.low x) (sym e)

four-text : (a : Addr) (n : ℕ) → (a.family ≡ 6 → ⊥) → n ≡ number a → here_text a ≡ text n
four-text a n h e = text_of_other a h ∙ ap text (sym e)

module _ {row : List ℕ} {at : ℕ} (a : Addr) where
  room_as : (t : List ℕ) → here_text a ≡ t → Room row at (here_text a) → Room row at t
  room_as t e h = subst (λ (l : List ℕ). Room row at l) e h

  pub six-room : (p : ℕ) → a.family ≡ 6 → p ≡ a.port → Room row at (here_text a) → Room row at (text6 a.high a.low p)
  six-room p h e r = room_as (text6 a.high a.low p) (six-text a p h e) r

  pub four-room : (n : ℕ) → (a.family ≡ 6 → ⊥) → n ≡ number a → Room row at (here_text a) → Room row at (text n)
  four-room n h e r = room_as (text n) (four-text a n h e) r

  pub six-laid : {row' : List ℕ} {next : ℕ} (p : ℕ) → a.family ≡ 6 → p ≡ a.port → Laid row at (text6 a.high a.low p) row' next → Laid row at (here_text a) row' next
  six-laid p h e f = laid_as (text6 a.high a.low p) (here_text a) (sym (six-text a p h e)) f

  pub four-laid : {row' : List ℕ} {next : ℕ} (n : ℕ) → (a.family ≡ 6 → ⊥) → n ≡ number a → Laid row at (text n) row' next → Laid row at (here_text a) row' next
  four-laid n h e f = laid_as (text n) (here_text a) (sym (four-text a n h e)) f
