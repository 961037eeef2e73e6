-- WHAT A RUN BEGINS AT: the node and the wait record that creation, or a restart, handed back.
-- Assumes nothing.
use Rattle.std.specs.Prelude.{◌≡◌, List, ℕ}
use Rattle.model.specs.declared.Settings.{Settings}
use Rattle.address.specs.Here.{Addr}
use Rattle.history.specs.Beginnings.{Beginning, Creation, Restart}
use Rattle.node.specs.declared.Node.{Node}
use Rattle.node.specs.declared.Answer.{Answer}
use Rattle.wait.specs.declared.Wait.{Wait}
use Rattle.wait.specs.Views.{fresh_wait}
use Rattle.image.specs.Image.{Saved}
use Rattle.image.specs.Forms.{said_by}
use Rattle.image.specs.Versions.{versions}
use Rattle.saving.specs.Views.{restored_of}
use Rattle.saving.specs.declared.Restored.{Restored}
use Rattle.swim.specs.Promises.{Creates}
use Rattle.promises.specs.Made.{Accepted}

-- the list that bytes say, with settings given anew
abbrev pub restart_of : List ℕ → Settings → Beginning Addr
restart_of bytes settings = let s : Saved Addr = said_by versions bytes in Restart settings s.own s.rows s.position

-- creation was accepted, and the host's wait record is a fresh one; or a restart was, which gives one
pub data Begun : Beginning Addr → ℕ → Node → Wait → Type 0 where
  created : (settings : Settings) (own : Addr) (number tick : ℕ) (r : Answer) → Creates settings own number r → Accepted r → Begun (Creation settings own number) tick r.node (fresh_wait tick)
  restored : (bytes : List ℕ) (settings : Settings) (tick : ℕ) (r : Restored) → r ≡ restored_of bytes settings tick → Accepted r.answer → Begun (restart_of bytes settings) tick r.answer.node r.wait
