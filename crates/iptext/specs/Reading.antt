-- The address that a text says, of either family.
-- Assumes nothing.
use Rattle.std.specs.Prelude.{true, false, List, [], ◌∷◌, ℕ, eqb}
use Rattle.address.specs.Families.{numbered}
use Rattle.iptext.specs.Parted.{parted}
use Rattle.ip4text.specs.Reading as ip4
use Rattle.ip4text.specs.declared.Text as declared4
use Rattle.ip4text.specs.declared.Text.TheVariants as text4
use Rattle.ip6text.specs.Reading.{said6}
use Rattle.ip6text.specs.declared.Said.{Said}
use Rattle.ip6text.specs.declared.Said.TheVariants as said
use Rattle.iptext.specs.declared.Text.{Text}
use Rattle.iptext.specs.declared.Text.TheVariants.{Empty, Malformed, Given}

abbrev pub four : declared4.Text → Text
four text4.Empty = Empty
four text4.Malformed = Malformed
four (text4.Given n) = Given (numbered n)

abbrev pub six : Said → Text
six said.Malformed = Malformed
six (said.Given high low port) = Given (parted high low port)

-- 91 is the bracket before an address of IPv6
unfoldable pub text_of : List ℕ → Text
text_of [] = Empty
text_of (b ∷ bytes) = elim (eqb b 91) [ true ↦ six (said6 (b ∷ bytes)) | false ↦ four (ip4.text_of (b ∷ bytes)) ]
