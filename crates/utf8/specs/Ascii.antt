-- Bytes below 128 are UTF-8.
-- Assumes nothing.
use Rattle.std.specs.Prelude.{◌≡◌, refl, true, false, List, [], ◌∷◌, ◌++◌, ℕ, ◌<◌, eqb}
use Rattle.std.proofs.Common.{ap, ◌∙◌, lt-ltb}
use Rattle.model.specs.Rows.{pick}
use Rattle.utf8.specs.declared.Lead.{Lead}
use Rattle.utf8.specs.Utf8.{asks, leads, after, utf8_from, utf8}

pub data Ascii : List ℕ → Type 0 where
  none : Ascii []
  byte : {b : ℕ} {bytes : List ℕ} → b < 128 → Ascii bytes → Ascii (b ∷ bytes)

pub ascii_append : {a b : List ℕ} → Ascii a → Ascii b → Ascii (a ++ b)
ascii_append none q = q
ascii_append (byte h p) q = byte h (ascii_append p q)

lead_ascii : (b : ℕ) → b < 128 → after (asks 0 128 191) b ≡ asks 0 128 191
unfolding after leads
lead_ascii b h = simp (lt-ltb b 128 h)

from_ascii : {bytes : List ℕ} → Ascii bytes → utf8_from (asks 0 128 191) bytes ≡ true
unfolding utf8_from
from_ascii none = refl
from_ascii (byte {b} {bytes} h p) =
    ap (λ (x : Lead). pick (eqb x.left 4) false (utf8_from x bytes)) (lead_ascii b h) ∙ from_ascii p

pub ascii_utf8 : {bytes : List ℕ} → Ascii bytes → utf8 bytes ≡ true
unfolding utf8
ascii_utf8 p = from_ascii p
