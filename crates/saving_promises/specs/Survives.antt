-- WHAT SALVAGE KEEPS: the own address; the records that stand at the places it calls Kept, in their order, each with its address, its state and its number; and the position as it stands behind the places, which doesn't move
-- with the drops: 0 only where it is no place of what is left, or missing. Of the call, and of the node that restore makes of its result.
-- Assumes nothing.
use Rattle.std.specs.Prelude.{◌≡◌, Bool, true, false, get_or}
use mathlib.Core.List.{List, [], ◌∷◌, ◌++◌}
use Prim.Native.Nat.{ℕ, zero, suc, ◌+◌, ◌*◌, min}
use Rattle.model.specs.Rows.{pick}
use Rattle.address.specs.Here.{Addr}
use Rattle.image.specs.Image.{Form, head, entry, counted}
use Rattle.image.specs.Forms.{form_in}
use Rattle.image.specs.Versions.{versions}
use Rattle.salvage.specs.Views.{said, Salvages}
use Rattle.salvage.specs.declared.Word.{Word}
use Rattle.salvage.specs.declared.Word.TheVariants as word
use Rattle.salvage.specs.declared.Ends.TheVariants as ends
use Rattle.salvage.specs.declared.Salvaged.{Salvaged}

abbrev pub is_kept : Word → Bool
is_kept word.Cut = false
is_kept word.Address = false
is_kept word.State = false
is_kept word.Repeat = false
is_kept word.Kept = true

-- the word that the answer has for a place, and the places below n that it calls Kept, in order
abbrev pub word_for : Salvaged → ℕ → Word
word_for r i = (get_or r.words i (said word.Cut)).word

abbrev pub kept_places : Salvaged → ℕ → List ℕ
kept_places r zero = []
kept_places r (suc n) = pick (is_kept (word_for r n)) (kept_places r n ++ (n ∷ [])) (kept_places r n)

-- the byte behind the places that are read; 0 where there is none
abbrev pub position_byte : Form Addr → List ℕ → ℕ
position_byte f bytes = get_or bytes ((head f).width + min (counted f bytes) 64 * (entry f).width) 0

module _ (bytes row : List ℕ) (r : Salvaged) (row' : List ℕ) (met : Salvages bytes row r row') (n : ℕ) (e : r.ends ≡ ends.Whole n) where
  abbrev pub f : Form Addr
  f = form_in versions bytes
