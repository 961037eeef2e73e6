-- A COUNT OVER 64. Restore refuses it by 16 where the image's length is as the count says, and by 15 where it isn't, too short for a count included; salvage reads 64 places and tells the count.
-- Assumes nothing.
use Rattle.std.specs.Prelude.{◌≡◌, List, ◌∷◌, ℕ, ◌+◌, ◌*◌, ◌<◌, length}
use Rattle.std.proofs.Math.Path.{ap}
use Rattle.std.proofs.Common.{◌∙◌}
use Rattle.std.proofs.Math.Bool.{true}
use Rattle.model.specs.declared.Settings.{Settings}
use Rattle.model.specs.Calls.{reply_number}
use Rattle.address.specs.Here.{Addr}
use Rattle.image.specs.Image.{Form, head, entry, marked, counted}
use Rattle.image.specs.Forms.{form_in}
use Rattle.image.specs.Versions.{versions}
use Rattle.saving.specs.Views.{restored_of}
use Rattle.saving.specs.declared.Restored.{Restored}
use Rattle.salvage.specs.Views.{Salvages}
use Rattle.salvage.specs.declared.Ends.TheVariants as ends
use Rattle.salvage.specs.declared.Salvaged.{Salvaged}

-- a head, as many places as the count says, and one byte of position
abbrev pub AsItSays : Form Addr → List ℕ → Type 0
AsItSays f bytes = length bytes ≡ (head f).width + (counted f bytes * (entry f).width + 1)

module _ (bytes : List ℕ) (is_marked : marked (form_in versions bytes) bytes ≡ true) (crowded : 64 < counted (form_in versions bytes) bytes) where
  abbrev pub f : Form Addr
  f = form_in versions bytes

-- ---- the same in bytes: M, B, R, 0 and the version; the count is the last byte before the places
abbrev pub opens : ℕ → List ℕ → List ℕ
opens v rest = 77 ∷ 66 ∷ 82 ∷ 0 ∷ v ∷ rest

-- restore answers 16 if the length is as the count says, else 15
abbrev pub Answers : List ℕ → ℕ → Type 0
Answers bytes long =
    (settings : Settings) (tick : ℕ) (r : Restored) → r ≡ restored_of bytes settings tick
    → (length bytes ≡ long → reply_number r.answer.reply ≡ 16) × ((length bytes ≡ long → ⊥) → reply_number r.answer.reply ≡ 15)

-- and salvage reads 64 places and tells the count
abbrev pub Reads64 : List ℕ → ℕ → Type 0
Reads64 bytes count = (row : List ℕ) (r : Salvaged) (row' : List ℕ) → Salvages bytes row r row' → (n : ℕ) → r.ends ≡ ends.Whole n → (r.places ≡ 64) × (r.count ≡ count)

module _ (bytes : List ℕ) (f : Form Addr) (c : ℕ) (e : form_in versions bytes ≡ f) (m : marked f bytes ≡ true) (is : counted f bytes ≡ c) (over : 64 < c) where
  pub is_marked : marked (form_in versions bytes) bytes ≡ true
  is_marked = ap (λ (g : Form Addr). marked g bytes) e ∙ m

  pub long : (head (form_in versions bytes)).width + (counted (form_in versions bytes) bytes * (entry (form_in versions bytes)).width + 1) ≡ (head f).width + (c * (entry f).width + 1)
  long = (λ j. (head (e j)).width + (counted (e j) bytes * (entry (e j)).width + 1)) ∙ ap (λ (n : ℕ). (head f).width + (n * (entry f).width + 1)) is
