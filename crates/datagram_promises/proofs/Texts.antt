-- WHAT A TEXT READS AS. Empty is the empty text and no other, so that of every text it is said what it reads as: `text-back` and `text-only` say it of those that give an address.
-- UTF-8 at both sides of every bound of RFC 3629's table.
-- Assumes nothing.
use Rattle.std.specs.Prelude.{◌≡◌, refl, ◌↔◌, true, false, not, List, [], ◌∷◌, ℕ, zero, suc, ◌+◌, ◌*◌, eqb, length, drop}
use Rattle.std.proofs.Common.{ap, sym, ◌∙◌, arith}
use Rattle.model.specs.Rows.{pick, every}
use Rattle.varint.specs.declared.Number.{Number}
use Rattle.varint.specs.declared.Number.TheVariants.{Stopped, Found}
use Rattle.utf8.specs.Utf8.{leads, after, utf8_from, utf8}
use Rattle.ip4text.specs.Reading as ip4
use Rattle.ip4text.specs.declared.Text as declared4
use Rattle.ip4text.specs.declared.Text.TheVariants as text4
use Rattle.ip6text.specs.Reading.{said6}
use Rattle.ip6text.specs.declared.Said.{Said}
use Rattle.ip6text.specs.declared.Said.TheVariants as said
use Rattle.iptext.specs.declared.Text.{Text}
use Rattle.iptext.specs.declared.Text.TheVariants.{Empty, Malformed, Given}
use Rattle.iptext.specs.Reading.{text_of, four, six}
use Rattle.datagram_promises.specs.Texts.{taken, refused}

abbrev empties4 : declared4.Text → ℕ
empties4 text4.Empty = 1
empties4 text4.Malformed = 0
empties4 (text4.Given n) = 0

abbrev empties : Text → ℕ
empties Empty = 1
empties Malformed = 0
empties (Given a) = 0

closed_not : (ip : ℕ) (bytes : List ℕ) (n : Number) → empties4 (ip4.closed ip bytes n) ≡ 0
unfolding ip4.closed
closed_not ip bytes Stopped = refl
closed_not ip bytes (Found n k) = elim (eqb k (length bytes)) as (λ u. empties4 (pick u (text4.Given (ip * 65536 + n)) text4.Malformed) ≡ 0) [ true ↦ refl | false ↦ refl ]

parts_not : (left ip : ℕ) (bytes : List ℕ) → empties4 (ip4.parts_from left ip bytes) ≡ 0
unfolding ip4.parts_from
parts_not zero ip bytes = closed_not ip bytes (ip4.decimal_at 65535 bytes)
parts_not (suc left) ip bytes =
    elim (ip4.part_at (ip4.mark (suc left)) bytes) as (λ x. empties4 (elim x [ Stopped ↦ text4.Malformed | Found n k ↦ ip4.parts_from left (ip * 256 + n) (drop k bytes) ]) ≡ 0) [
      | Stopped ↦ refl
      | Found n k ↦ parts_not left (ip * 256 + n) (drop k bytes)
    ]

four_not : (x : declared4.Text) → empties4 x ≡ 0 → empties (four x) ≡ 0
four_not text4.Empty e = absurd (omega (arith, e))
four_not text4.Malformed e = refl
four_not (text4.Given n) e = refl

six_not : (x : Said) → empties (six x) ≡ 0
six_not said.Malformed = refl
six_not (said.Given high low port) = refl

some_not : (b : ℕ) (bytes : List ℕ) → empties (text_of (b ∷ bytes)) ≡ 0
unfolding text_of ip4.text_of
some_not b bytes =
    elim (eqb b 91) as (λ u. empties (elim u [ true ↦ six (said6 (b ∷ bytes)) | false ↦ four (ip4.parts_from 4 0 (b ∷ bytes)) ]) ≡ 0) [
      | true ↦ six_not (said6 (b ∷ bytes))
      | false ↦ four_not (ip4.parts_from 4 0 (b ∷ bytes)) (parts_not 4 0 (b ∷ bytes))
    ]

-- "isn't canonical" and "is missing" are two things
pub empty_only : (t : List ℕ) → (text_of t ≡ Empty) ↔ (t ≡ [])
unfolding text_of
empty_only [] = ((λ e. refl), (λ e. refl))
empty_only (b ∷ bytes) =
    ((λ e. let z : ◌≡◌ {A = ℕ} 1 0 = sym (ap empties e) ∙ some_not b bytes in absurd (omega (arith, z))), (λ e. let z : ◌≡◌ {A = ℕ} 0 1 = cc in absurd (omega arith)))

pub bounds_taken : every utf8 taken ≡ true
unfolding utf8 utf8_from after leads
bounds_taken = refl

pub bounds_refused : every (λ t. not (utf8 t)) refused ≡ true
unfolding utf8 utf8_from after leads
bounds_refused = refl
