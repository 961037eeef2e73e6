-- What is saved in the version of its list is read again, and what is read in its version is the one list with that image. For any type of address and two forms of its bytes.
-- Assumes nothing.
use Rattle.std.specs.Prelude.{◌≡◌, List, [], ℕ}
use Rattle.std.proofs.Math.Bool.{true}
use Rattle.model.specs.Words.{Address}
use Rattle.image.specs.Image.{Saved}
use Rattle.image.specs.Forms.{Forms, form_in, in_version}
use Rattle.image.specs.Round.{Says}

module _ {A : Type 0} (address : Address A) (forms : Forms A) where
  -- bytes that pass every test of an image, and the list that they say
  pub record Tells (bytes : List ℕ) (s : Saved A) : Type 0 where
    pub says : Says address (form_in forms bytes) bytes s
    pub in-version : in_version forms bytes ≡ true
