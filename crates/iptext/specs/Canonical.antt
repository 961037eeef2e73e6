-- Only canonical texts are read.
-- Assumes nothing.
use Rattle.std.specs.Prelude.{◌≡◌, refl, Bool, true, false, List, [], ◌∷◌, ◌++◌, ℕ, ◌+◌, ◌*◌, ◌%◌, ◌/◌, ◌^◌, ◌≤◌, ◌<◌, eqb, length, get_or}
use Rattle.std.proofs.Common.{ap, sym, ◌∙◌, arith, eq-eqb, ne_eqb, eqb-true}
use Rattle.std.proofs.lemmas.Bool.{eqb-false}
use Rattle.address.specs.Here.{Addr, here, here_text, here_text-long, here_chars}
use Rattle.address.specs.Text.{text}
use Rattle.address.specs.Families.{number, numbered, Six, Four, in_range_is, text_of-six, text_of_other, number_below, numbered-back}
use Rattle.iptext.specs.Parted.{parted, parted-back, numbered_is, parted_is}
use Rattle.ip4text.specs.Reading as ip4
use Rattle.ip4text.specs.Texts as texts4
use Rattle.ip4text.specs.Letters as letters4
use Rattle.ip4text.specs.Canonical as canonical4
use Rattle.ip4text.specs.declared.Text as declared4
use Rattle.ip4text.specs.declared.Text.TheVariants as text4
use Rattle.ip6.specs.Text6.{text6}
use Rattle.ip6text.specs.Reading.{said6, Only, said-only}
use Rattle.ip6text.specs.RoundTrip as trip
use Rattle.ip6text.specs.Letters6 as letters6
use Rattle.ip6text.specs.declared.Said.{Said}
use Rattle.ip6text.specs.declared.Said.TheVariants as said
use Rattle.utf8.specs.Utf8.{utf8}
use Rattle.iptext.specs.declared.Text.{Text}
use Rattle.iptext.specs.declared.Text.TheVariants.{Empty, Malformed, Given}
use Rattle.iptext.specs.Reading.{four, six, text_of}
use Rattle.iptext.specs.Letters.{text-utf8}

pub record Canonical (t : List ℕ) (a : Addr) : Type 0 where
  pub small : here.valid a ≡ true
  pub says : t ≡ here_text a

only-six : (t : List ℕ) (a : Addr) (r : Said) → said6 t ≡ r → six r ≡ Given a → Canonical t a
only-six t a said.Malformed e q = let z : ◌≡◌ {A = ℕ} 0 1 = cc in absurd (omega arith)
only-six t a (said.Given high low port) e q =
    let k : parted high low port ≡ a = cc in
    let o = said-only t high low port e in
    let p = parted_is high low port o.high_small o.low_small o.port-small in
    record { small = ap here.valid (sym k) ∙ p.0; says = o.says ∙ sym p.1 ∙ ap here_text k }

only-four : (t : List ℕ) (a : Addr) (r : declared4.Text) → ip4.text_of t ≡ r → four r ≡ Given a → Canonical t a
only-four t a text4.Empty e q = let z : ◌≡◌ {A = ℕ} 0 1 = cc in absurd (omega arith)
only-four t a text4.Malformed e q = let z : ◌≡◌ {A = ℕ} 0 1 = cc in absurd (omega arith)
only-four t a (text4.Given n) e q =
    let k : numbered n ≡ a = cc in
    let o = canonical4.text-only t n e in
    let p = numbered_is n o.small in
    record { small = ap here.valid (sym k) ∙ p.0; says = o.says ∙ sym p.1 ∙ ap here_text k }

-- WHAT IS READ AS AN ADDRESS IS ITS TEXT
pub text-only : (t : List ℕ) (a : Addr) → text_of t ≡ Given a → Canonical t a
unfolding text_of
text-only [] a e = let z : ◌≡◌ {A = ℕ} 0 1 = cc in absurd (omega arith)
text-only (b ∷ t) a e =
    (elim (eqb b 91) as (λ u. elim u [ true ↦ six (said6 (b ∷ t)) | false ↦ four (ip4.text_of (b ∷ t)) ] ≡ Given a → Canonical (b ∷ t) a) [
      | true ↦ λ q. only-six (b ∷ t) a (said6 (b ∷ t)) refl q
      | false ↦ λ q. only-four (b ∷ t) a (ip4.text_of (b ∷ t)) refl q
    ]) e

-- so it is UTF-8
pub given-utf8 : (t : List ℕ) (a : Addr) → text_of t ≡ Given a → utf8 t ≡ true
given-utf8 t a e = let c = text-only t a e in ap utf8 c.says ∙ text-utf8 a c.small
