-- RESTART WITH THE LIST WE HAD: one list has one image; what was saved is restored; what was restored is saved as the same bytes, and is sound. Of the calls.
-- Assumes nothing.
use Rattle.std.specs.Prelude.{◌≡◌, length, take}
use Rattle.std.proofs.Math.Bool.{true}
use mathlib.Core.List.{List, []}
use Prim.Native.Nat.{ℕ}
use Rattle.std.proofs.Math.ListN.{drop}
use Rattle.model.specs.declared.Settings.{Settings}
use Rattle.model.specs.Node as M
use Rattle.model.specs.Sound.{sound}
use Rattle.laws_node.specs.Good.{FullRows}
use Rattle.address.specs.Here.{Addr, here}
use Rattle.node.specs.declared.Node.{Node}
use Rattle.node.specs.Views.{stored_view}
use Rattle.promises.specs.Made.{Accepted}
use Rattle.image.specs.Image.{Saved}
use Rattle.image.specs.Forms.{image_of, said_by}
use Rattle.image.specs.Round.{Numbered}
use Rattle.image.specs.Versions.{versions}
use Rattle.saving.specs.Saving.{saved_list}
use Rattle.saving.specs.Views.{restored_of}
use Rattle.saving.specs.declared.Restored.{Restored}

-- what a call's node holds, as the rules have it
abbrev pub held : Node → M.Node Addr
held node = M.loaded (stored_view node)

-- the rows are whole, and their numbers are of 64 bits, as every host's are
pub record Whole (node : Node) : Type 0 where
  pub rows : FullRows (stored_view node)
  pub numbers : Numbered (held node).members.table

-- bytes were written: the node is sound, they are the image of its list, and places past the last stay as lent
pub record Wrote (node : Node) (row : List ℕ) (n : ℕ) (row' : List ℕ) : Type 0 where
  pub is_sound : sound here (stored_view node) ≡ true
  pub count : n ≡ length (image_of versions (saved_list here (held node)))
  pub bytes : take n row' ≡ image_of versions (saved_list here (held node))
  pub rest : drop n row' ≡ drop n row

-- ---- restoring what was saved
-- the list of one node is that of another: own address, order and position, and of every address whether it is listed, its state and its number
pub record SameList (s t : M.Node Addr) : Type 0 where
  pub own : s.own ≡ t.own
  pub order : s.members.order ≡ t.members.order
  pub position : s.members.position ≡ t.members.position
  pub listed : (a : Addr) → M.lists here a s ≡ M.lists here a t
  pub state : (a : Addr) → M.state_of here a s ≡ M.state_of here a t
  pub number : (a : Addr) → M.numbered here a s ≡ M.numbered here a t

-- a node as a restart leaves it: empty heaps, no timers, the settings given anew
pub record Anew (settings : Settings) (s : M.Node Addr) : Type 0 where
  pub settings_are : s.settings ≡ settings
  pub alive : s.disseminator.alive ≡ []
  pub deceased : s.disseminator.deceased ≡ []
  pub timers : s.timers ≡ []
  pub departed : s.departed ≡ []

-- ---- what restore accepted
module _ (bytes : List ℕ) (settings : Settings) (tick : ℕ) (s : Restored) (told : s ≡ restored_of bytes settings tick) (kept : Accepted s.answer) where
  abbrev pub listed : Saved Addr
  listed = said_by versions bytes
