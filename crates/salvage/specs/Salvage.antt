-- "Salvage of a saved list": which places of an image are kept, what is said of each, and the list that is left. For any type of address and two forms of its bytes.
-- Assumes nothing.
use Rattle.std.specs.Prelude.{Bool, not, ◌&&◌, List, [], ◌∷◌, ◌++◌, map, ℕ, zero, suc, ◌+◌, ◌*◌, ◌-◌, min, length, drop, ltb, leb}
use Rattle.model.specs.declared.Refusal.{Refusal}
use Rattle.model.specs.declared.Refusal.TheVariants.{NoRoom, WrongMark, OutOfRule}
use Rattle.model.specs.Rows.{pick, has}
use Rattle.model.specs.Bounds.{list_places}
use Rattle.model.specs.Words.{Address}
use Rattle.model.specs.Calls.{first_of}
use Rattle.numbers.specs.Codec.{number}
use Rattle.image.specs.Image.{Form, Entry, head, entry, addr_in, member_of, address_in_rule, state_in_rule, Saved, marked, counted}
use Rattle.image.specs.Forms.{Forms, form_in, image_of}
use Rattle.salvage.specs.declared.Word.{Word}
use Rattle.salvage.specs.declared.Word.TheVariants as word

-- what comes back: the bytes written, the count as it stands and a word for each place; or why nothing was written
pub data Ending : Type 0 where
  salvaged : ℕ → ℕ → List Word → Ending
  not_salvaged : Refusal → Ending

pub record Salvage : Type 0 where
  pub ends : Ending
  pub row : List ℕ

-- what is kept after a place
abbrev pub after : {B : Type 0} → Word → List B → B → List B
after word.Cut l x = l
after word.Address l x = l
after word.State l x = l
after word.Repeat l x = l
after word.Kept l x = l ++ (x ∷ [])

-- "sets the position to 0 if it is out of range or missing": it stands after the places that are read, and where there is no byte 0 is read
unfoldable pub position_of : List ℕ → ℕ → ℕ
position_of bytes n = let p = (number 1).get bytes in pick (ltb p n) p 0

module _ {A : Type 0} (address : Address A) where
  -- "the first that holds of dropped for address, dropped for state, dropped as a repeat of a kept one, else kept"
  unfoldable pub verdict : List A → Entry A → Word
  verdict kept e =
      pick (not (address_in_rule address e)) word.Address
      (pick (not (state_in_rule address e)) word.State
      (pick (has address.same (addr_in e) kept) word.Repeat
      word.Kept))

module _ {A : Type 0} (address : Address A) (f : Form A) where
  -- the bytes from a place on, and what stands there
  abbrev pub from : List ℕ → ℕ → List ℕ
  from bytes i = drop ((head f).width + i * (entry f).width) bytes

  abbrev pub stands_at : List ℕ → ℕ → Entry A
  stands_at bytes i = (entry f).get (from bytes i)

  -- "cut if its bytes are not all there": the word for a place, by the bytes from it on and the addresses kept before it
  unfoldable pub word_of : List A → List ℕ → Word
  word_of kept bytes = pick (ltb (length bytes) (entry f).width) word.Cut (verdict address kept ((entry f).get bytes))

  -- "keeps in order": what is kept of the first places
  unfoldable pub kept_of : List ℕ → ℕ → List (Entry A)
  kept_of bytes zero = []
  kept_of bytes (suc i) = after (word_of (map addr_in (kept_of bytes i)) (from bytes i)) (kept_of bytes i) (stands_at bytes i)

  -- "It says for each record place"
  unfoldable pub word_at : List ℕ → ℕ → Word
  word_at bytes i = word_of (map addr_in (kept_of bytes i)) (from bytes i)

  unfoldable pub words_of : List ℕ → ℕ → List Word
  words_of bytes zero = []
  words_of bytes (suc i) = words_of bytes i ++ (word_at bytes i ∷ [])

  -- "A count over 64 is read as 64 and reported"
  unfoldable pub places : List ℕ → ℕ
  places bytes = min (counted f bytes) list_places

  abbrev pub kept : List ℕ → List (Entry A)
  kept bytes = kept_of bytes (places bytes)

  abbrev pub words : List ℕ → List Word
  words bytes = words_of bytes (places bytes)

  abbrev pub own_of : List ℕ → A
  own_of bytes = ((head f).get bytes).second.first

  -- the list that is left
  unfoldable pub left : List ℕ → Saved A
  left bytes =
      record {
        own = own_of bytes;
        rows = map member_of (kept bytes);
        position = position_of (from bytes (places bytes)) (length (kept bytes));
      }

  -- "16 if the image has fewer than 14 bytes or its own address is out of range"; "Salvage's 14-byte header is 25 bytes in version 2"
  unfoldable pub headed : List ℕ → Bool
  headed bytes = leb (head f).width (length bytes) && address.valid (own_of bytes)

module _ {A : Type 0} (address : Address A) (forms : Forms A) where
  -- the list that is left of an image, which is read in the version that it has
  abbrev pub left_of : List ℕ → Saved A
  left_of bytes = left address (form_in forms bytes) bytes

  -- "All others are version 1, also from salvage": the image of that list, in the version that the list needs
  abbrev pub result : List ℕ → List ℕ
  result bytes = image_of forms (left_of bytes)

  -- "Refusals: 14 as before; then 16 ..; then 12"
  abbrev pub salvage_tests : List ℕ → ℕ → List (Bool × Refusal)
  salvage_tests bytes room =
      (not (marked (form_in forms bytes) bytes), WrongMark)
      ∷ (not (headed address (form_in forms bytes) bytes), OutOfRule)
      ∷ (ltb room (length (result bytes)), NoRoom)
      ∷ []

  -- refused, nothing is written; places past the last stay as lent
  unfoldable pub salvage : List ℕ → List ℕ → Salvage
  salvage bytes row =
      first_of (salvage_tests bytes (length row))
      (λ r. record { ends = not_salvaged r; row = row })
      (record {
        ends = salvaged (length (result bytes)) (counted (form_in forms bytes) bytes) (words address (form_in forms bytes) bytes);
        row = result bytes ++ drop (length (result bytes)) row;
      })
