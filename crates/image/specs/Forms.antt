-- Two versions of a saved list, and which of them a list and an image have. For any type of address.
-- Assumes nothing.
use Rattle.std.specs.Prelude.{◌≡◌, Bool, true, false, not, ◌||◌, List, [], ◌∷◌, ℕ, ◌^◌, ◌<◌}
use Rattle.model.specs.Rows.{pick}
use Rattle.model.specs.Words.{Address}
use Rattle.model.specs.Members.{addrs}
use Rattle.numbers.specs.Codec.{Exact}
use Rattle.image.specs.Image.{Form, Image, opening, Saved, saved_of, image, marked, fields}

-- two forms, and which addresses need the wide one
pub record Forms (A : Type 0) : Type 0 where
  pub narrow : Form A
  pub wide : Form A
  pub is_wide : A → Bool

-- a test passes at an element
abbrev pub some : {A : Type 0} → (A → Bool) → List A → Bool
some f [] = false
some f (x ∷ l) = f x || some f l

-- both or neither
abbrev pub alike : Bool → Bool → Bool
alike a b = pick a b (not b)

module _ {A : Type 0} (forms : Forms A) where
  abbrev pub form : Bool → Form A
  form wide = pick wide forms.wide forms.narrow

  -- "A list with an IPv6 address, own included"
  unfoldable pub needs_wide : A → List A → Bool
  needs_wide own l = some forms.is_wide (own ∷ l)

  abbrev pub wide_of : Saved A → Bool
  wide_of s = needs_wide s.own (addrs s.rows)

  -- "is saved as version 2 .. All others are version 1"
  abbrev pub form_of : Saved A → Form A
  form_of s = form (wide_of s)

  -- "One list has one image."
  abbrev pub image_of : Saved A → List ℕ
  image_of s = image (form_of s) s

  -- the form of an image: the wide one if it opens so, else the narrow one
  abbrev pub form_in : List ℕ → Form A
  form_in bytes = form (marked forms.wide bytes)

  abbrev pub fields_in : List ℕ → Image A
  fields_in bytes = fields (form_in bytes) bytes

  -- the list that an image says
  abbrev pub said_by : List ℕ → Saved A
  said_by bytes = saved_of (fields_in bytes)

  -- "restore answers 16 to a version 2 image without one": an image has the version of the list that it says
  unfoldable pub in_version : List ℕ → Bool
  in_version bytes = alike (marked forms.wide bytes) (wide_of (said_by bytes))

-- what is asked of two forms
module _ {A : Type 0} (address : Address A) (forms : Forms A) where
  -- a valid address has its bytes in the wide one, and in the narrow one if it doesn't need the wide one
  abbrev pub Fits : Bool → A → Type 0
  Fits wide a = (address.valid a ≡ true) × (wide ≡ false → forms.is_wide a ≡ false)

  pub record Sure : Type 0 where
    pub exact : (wide : Bool) → Exact (form forms wide).address (Fits wide)
    pub small : (wide : Bool) → opening (form forms wide) < 256 ^ 5
    pub differ : opening forms.wide ≡ opening forms.narrow → ⊥
