-- "Restart with the list we had": what is saved of a node, and the node that an image gives. For any type of address and its bytes.
-- Assumes nothing.
use Rattle.std.specs.Prelude.{Bool, not, ◌&&◌, List, [], ◌∷◌, ◌++◌, map, ℕ, length, drop, ltb}
use Rattle.model.specs.declared.Refusal.{Refusal}
use Rattle.model.specs.declared.Refusal.TheVariants.{Setting, Unsound, NoRoom, WrongMark, WrongLength, OutOfRule}
use Rattle.model.specs.declared.Settings.{Settings}
use Rattle.model.specs.Words.{Address, Member}
use Rattle.model.specs.Members as list
use Rattle.model.specs.Node.{Node, Stored, loaded, stored, restarted}
use Rattle.model.specs.Sound.{in_range, sound}
use Rattle.model.specs.Calls.{Created, created, not_created, first_of}
use Rattle.image.specs.Image.{Saved, marked, sized, in_rule}
use Rattle.image.specs.Forms.{Forms, image_of, form_in, fields_in, said_by, in_version}

-- how many bytes were written, or why none was; and the row after it
pub data Ending : Type 0 where
  saved : ℕ → Ending
  not_saved : Refusal → Ending

pub record Save : Type 0 where
  pub ends : Ending
  pub row : List ℕ

module _ {A : Type 0} (address : Address A) where
  -- the record of a listed address
  abbrev pub record_of : List (Member A) → A → Member A
  record_of t a = record { addr = a; state = list.held_state address.same a t; number = list.held address.same a t }

  -- "for each address in probing order"
  abbrev pub stands_in_order : list.Members A → List (Member A)
  stands_in_order m = map (record_of m.table) m.order

  abbrev pub saved_list : Node A → Saved A
  saved_list s = record { own = s.own; rows = stands_in_order s.members; position = s.members.position }

  -- "for save 2, then 12"
  abbrev pub save_tests : Forms A → Stored A → ℕ → List (Bool × Refusal)
  save_tests forms s room = (not (sound address s), Unsound) ∷ (ltb room (length (image_of forms (saved_list (loaded s)))), NoRoom) ∷ []

  -- refused, nothing is written; places past the last stay as lent
  unfoldable pub save : Forms A → Stored A → List ℕ → Save
  save forms s row =
      let bytes = image_of forms (saved_list (loaded s)) in
      first_of (save_tests forms s (length row))
      (λ r. record { ends = not_saved r; row = row })
      (record { ends = saved (length bytes); row = bytes ++ drop (length bytes) row })

  abbrev pub restored_node : Settings → Saved A → Node A
  restored_node settings s = restarted settings s.own s.rows s.position

  -- "for restore, in this order, 14 .., 15 .., 16 .., then 1"
  abbrev pub restore_tests : Forms A → List ℕ → Settings → List (Bool × Refusal)
  restore_tests forms bytes settings =
      (not (marked (form_in forms bytes) bytes), WrongMark)
      ∷ (not (sized (form_in forms bytes) bytes), WrongLength)
      ∷ (not (in_rule address (fields_in forms bytes) && in_version forms bytes), OutOfRule)
      ∷ (not (in_range settings), Setting)
      ∷ []

  unfoldable pub restore : Forms A → List ℕ → Settings → Created A
  restore forms bytes settings =
      first_of (restore_tests forms bytes settings)
      not_created
      (created (stored address (restored_node settings (said_by forms bytes))))
