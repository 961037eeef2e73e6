-- The text of an address reads back.
-- Assumes nothing.
use Rattle.std.specs.Prelude.{◌≡◌, refl, Bool, true, false, List, [], ◌∷◌, ◌++◌, ℕ, ◌+◌, ◌*◌, ◌%◌, ◌/◌, ◌^◌, ◌≤◌, ◌<◌, eqb, length, get_or}
use Rattle.std.proofs.Common.{ap, sym, ◌∙◌, arith, eq-eqb, ne_eqb, eqb-true}
use Rattle.std.proofs.lemmas.Bool.{eqb-false}
use Rattle.address.specs.Here.{Addr, here, here_text, here_text-long, here_chars}
use Rattle.address.specs.Text.{text}
use Rattle.address.specs.Families.{number, numbered, Six, Four, in_range_is, text_of-six, text_of_other, number_below, numbered-back}
use Rattle.iptext.specs.Parted.{parted, parted-back, numbered_is, parted_is}
use Rattle.ip4text.specs.Reading as ip4
use Rattle.ip4text.specs.Texts as texts4
use Rattle.ip4text.specs.Letters as letters4
use Rattle.ip4text.specs.Canonical as canonical4
use Rattle.ip4text.specs.declared.Text as declared4
use Rattle.ip4text.specs.declared.Text.TheVariants as text4
use Rattle.ip6.specs.Text6.{text6}
use Rattle.ip6text.specs.Reading.{said6, Only, said-only}
use Rattle.ip6text.specs.RoundTrip as trip
use Rattle.ip6text.specs.Letters6 as letters6
use Rattle.ip6text.specs.declared.Said.{Said}
use Rattle.ip6text.specs.declared.Said.TheVariants as said
use Rattle.utf8.specs.Utf8.{utf8}
use Rattle.iptext.specs.declared.Text.{Text}
use Rattle.iptext.specs.declared.Text.TheVariants.{Empty, Malformed, Given}
use Rattle.iptext.specs.Reading.{four, six, text_of}

pub text-long : (a : Addr) → 1 ≤ length (here_text a)
text-long a = let h = here_chars a in omega (arith, h, here_text-long a)

-- by the first byte
pub six-says : (b : ℕ) (bytes : List ℕ) → b ≡ 91 → text_of (b ∷ bytes) ≡ six (said6 (b ∷ bytes))
unfolding text_of
six-says b bytes h = ap (λ (u : Bool). elim u [ true ↦ six (said6 (b ∷ bytes)) | false ↦ four (ip4.text_of (b ∷ bytes)) ]) (eq-eqb b 91 h)

pub four-says : (b : ℕ) (bytes : List ℕ) → (b ≡ 91 → ⊥) → text_of (b ∷ bytes) ≡ four (ip4.text_of (b ∷ bytes))
unfolding text_of
four-says b bytes h = ap (λ (u : Bool). elim u [ true ↦ six (said6 (b ∷ bytes)) | false ↦ four (ip4.text_of (b ∷ bytes)) ]) (ne_eqb b 91 h)

-- a text of IPv4 begins with no bracket: one that does is not read as of IPv4
bracket : (bytes : List ℕ) (n : ℕ) → ip4.text_of (91 ∷ bytes) ≡ text4.Given n → ⊥
unfolding ip4.text_of ip4.parts_from ip4.part_at ip4.marked ip4.decimal_at ip4.digits_from ip4.ended
bracket bytes n e = let z : ◌≡◌ {A = ℕ} 0 1 = cc in absurd (omega arith)

back-six : (a : Addr) → Six a → text_of (text6 a.high a.low a.port) ≡ Given a
unfolding text6
back-six a s =
    six-says 91 _ refl
    ∙ ap six (trip.text-back a.high a.low a.port s.high s.low s.port)
    ∙ ap Given (parted-back a s)

four-back : (t : List ℕ) (a : Addr) (n : ℕ) → 1 ≤ length t → ip4.text_of t ≡ text4.Given n → numbered n ≡ a → text_of t ≡ Given a
four-back [] a n l e q = absurd (omega arith)
four-back (b ∷ t) a n l e q =
    (elim (eqb b 91) as (λ u. eqb b 91 ≡ u → text_of (b ∷ t) ≡ Given a) [
      | true ↦ λ h. let k : b ≡ 91 = eqb-true b 91 h in absurd (bracket t n (ap (λ (x : ℕ). ip4.text_of (x ∷ t)) (sym k) ∙ e))
      | false ↦ λ h. four-says b t (eqb-false b 91 h) ∙ ap four e ∙ ap Given q
    ]) refl

pub six-four : (a : Addr) → Four a → a.family ≡ 6 → ⊥
six-four a f h = let z : ◌≡◌ {A = ℕ} 4 6 = sym f.family ∙ h in absurd (omega arith)

-- WHAT IS WRITTEN READS BACK
pub text-back : (a : Addr) → here.valid a ≡ true → text_of (here_text a) ≡ Given a
text-back a v =
    in_range_is a (text_of (here_text a) ≡ Given a) v
    (λ s. ap text_of (text_of-six a s.family) ∙ back-six a s)
    (λ f.
    ap text_of (text_of_other a (six-four a f))
    ∙ four-back (text (number a)) a (number a) (texts4.text-long (number a)) (texts4.text-back (number a) (number_below a f)) (numbered-back a f))
