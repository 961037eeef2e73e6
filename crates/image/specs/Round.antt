-- What is saved is read again, and what is read is the one list with that image. For any type of address and its bytes.
-- Assumes nothing.
use Rattle.std.specs.Prelude.{◌≡◌, ℕ, ◌^◌, ◌≤◌, ◌<◌}
use Rattle.std.proofs.Common.{arith}
use Rattle.std.proofs.Math.Bool.{true}
use mathlib.Core.List.{List, [], ◌∷◌}
use Rattle.std.proofs.Math.ListN.{length}
use Rattle.model.specs.Rows.{every}
use Rattle.model.specs.Words.{Address, Member}
use Rattle.model.specs.Members.{addrs}
use Rattle.model.specs.Sound.{distinct, positioned}
use Rattle.image.specs.Image.{Form, Saved, saved_of, marked, sized, fields, in_rule}

-- numbers of 64 bits, as a host's are
abbrev pub Numbered : {A : Type 0} → List (Member A) → Type 0
Numbered [] = Unit
Numbered (m ∷ l) = (m.number < 2 ^ 64) × Numbered l

module _ {A : Type 0} (address : Address A) where
  -- a list that can be saved: what the types and soundness give
  pub record Savable (s : Saved A) : Type 0 where
    pub own_valid : address.valid s.own ≡ true
    pub numbers : Numbered s.rows
    pub few : length s.rows ≤ 64
    pub valid : every address.valid (addrs s.rows) ≡ true
    pub once : distinct address.same (addrs s.rows) ≡ true
    pub placed : positioned s.position (length s.rows) ≡ true

  -- bytes that pass the tests of a form, and the list that they say
  pub record Says (f : Form A) (bytes : List ℕ) (s : Saved A) : Type 0 where
    pub is_marked : marked f bytes ≡ true
    pub is_sized : sized f bytes ≡ true
    pub in-rule : in_rule address (fields f bytes) ≡ true
    pub says : saved_of (fields f bytes) ≡ s
