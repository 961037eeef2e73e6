-- The text of an address is UTF-8.
-- Assumes nothing.
use Rattle.std.specs.Prelude.{◌≡◌, refl, Bool, true, false, List, [], ◌∷◌, ◌++◌, ℕ, ◌+◌, ◌*◌, ◌%◌, ◌/◌, ◌^◌, ◌≤◌, ◌<◌, eqb, length, get_or}
use Rattle.std.proofs.Common.{ap, sym, ◌∙◌, arith, eq-eqb, ne_eqb, eqb-true}
use Rattle.std.proofs.lemmas.Bool.{eqb-false}
use Rattle.address.specs.Here.{Addr, here, here_text, here_text-long, here_chars}
use Rattle.address.specs.Text.{text}
use Rattle.address.specs.Families.{number, numbered, Six, Four, in_range_is, text_of-six, text_of_other, number_below, numbered-back}
use Rattle.iptext.specs.Parted.{parted, parted-back, numbered_is, parted_is}
use Rattle.ip4text.specs.Reading as ip4
use Rattle.ip4text.specs.Texts as texts4
use Rattle.ip4text.specs.Letters as letters4
use Rattle.ip4text.specs.Canonical as canonical4
use Rattle.ip4text.specs.declared.Text as declared4
use Rattle.ip4text.specs.declared.Text.TheVariants as text4
use Rattle.ip6.specs.Text6.{text6}
use Rattle.ip6text.specs.Reading.{said6, Only, said-only}
use Rattle.ip6text.specs.RoundTrip as trip
use Rattle.ip6text.specs.Letters6 as letters6
use Rattle.ip6text.specs.declared.Said.{Said}
use Rattle.ip6text.specs.declared.Said.TheVariants as said
use Rattle.utf8.specs.Utf8.{utf8}
use Rattle.iptext.specs.declared.Text.{Text}
use Rattle.iptext.specs.declared.Text.TheVariants.{Empty, Malformed, Given}
use Rattle.iptext.specs.Reading.{four, six, text_of}
use Rattle.iptext.specs.Texts.{six-four}

-- a text is UTF-8, where the port is one
pub text-utf8 : (a : Addr) → here.valid a ≡ true → utf8 (here_text a) ≡ true
text-utf8 a v =
    in_range_is a (utf8 (here_text a) ≡ true) v
    (λ s. ap utf8 (text_of-six a s.family) ∙ letters6.text-utf8 a.high a.low a.port s.port)
    (λ f. ap utf8 (text_of_other a (six-four a f)) ∙ letters4.text-utf8 (number a))
