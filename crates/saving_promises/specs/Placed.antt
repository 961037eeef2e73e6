-- THE TABLE OF A RESTORED NODE STANDS IN THE IMAGE'S ORDER: `member_at` of its place i gives the record that stands at place i of the image, and as many are listed as the image's count says.
-- Assumes nothing.
use Rattle.std.specs.Prelude.{◌≡◌, List, ℕ, ◌+◌, ◌*◌, take, drop}
use Rattle.model.specs.declared.Settings.{Settings}
use Rattle.model.specs.Words as W
use Rattle.address.specs.Here.{Addr}
use Rattle.numbers.specs.Numbers.{number_of}
use Rattle.image.specs.Image.{Form, head, entry, member_of}
use Rattle.image.specs.Forms.{form_in}
use Rattle.image.specs.Versions.{versions}
use Rattle.saving.specs.Views.{restored_of}
use Rattle.saving.specs.declared.Restored.{Restored}
use Rattle.promises.specs.Made.{Accepted}

-- the record at a place of an image: its bytes stand behind the head and the places before it
abbrev pub record_at : Form Addr → List ℕ → ℕ → W.Member Addr
record_at f bytes i = member_of ((entry f).get (drop ((head f).width + i * (entry f).width) bytes))

-- and the address that the image names as its own, in the head
abbrev pub own_at : Form Addr → List ℕ → Addr
own_at f bytes = ((head f).get bytes).second.first

-- ---- where these bytes stand: what k bytes from a place on say, the high byte first
abbrev pub says : List ℕ → ℕ → ℕ → ℕ
says bytes place k = number_of (take k (drop place bytes))

module _ (bytes : List ℕ) (settings : Settings) (tick : ℕ) (s : Restored) (told : s ≡ restored_of bytes settings tick) (kept : Accepted s.answer) where
  -- the image's version
  abbrev pub f : Form Addr
  f = form_in versions bytes
