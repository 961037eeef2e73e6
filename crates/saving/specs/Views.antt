-- The words of the contracts.
-- Assumes nothing.
use Rattle.std.specs.Prelude.{◌≡◌, List, [], map, ℕ, take}
use Rattle.model.specs.declared.Settings.{Settings}
use Rattle.model.specs.declared.Refusal.{Refusal}
use Rattle.model.specs.declared.Refusal.TheVariants.{Setting}
use Rattle.model.specs.declared.Reply.TheVariants.{Done, Refused}
use Rattle.model.specs.Rows.{pick, pad_to}
use Rattle.model.specs.Lamps.{lamps_of}
use Rattle.model.specs.Sound.{in_range}
use Rattle.address.specs.Here.{here}
use Rattle.member.specs.declared.Member.{Member}
use Rattle.member.specs.declared.Members.{Members}
use Rattle.member.specs.Views.{to_member, from_member, nobody, view_members}
use Rattle.wait.specs.Views.{fresh_wait}
use Rattle.node.specs.declared.Node.{Node}
use Rattle.disseminate.specs.Views.{pack_disseminator, no_news}
use Rattle.timers.specs.Views.{pack_timers}
use Rattle.departed.specs.Views.{pack_departed}
use Rattle.node.specs.declared.Answer.{Answer}
use Rattle.node.specs.Views.{stored_view, pack_node, plain_answer, created_of}
use Rattle.node.specs.Views.{nobody as empty_node}
use Rattle.image.specs.declared.Loaded.{Loaded}
use Rattle.image.specs.Versions.{versions}
use Rattle.saving.specs.Saving.{Ending, saved, not_saved, Save, stands_in_order, save, restore}
use Rattle.saving.specs.declared.Saving.{Saving}
use Rattle.saving.specs.declared.Saving.TheVariants as saving
use Rattle.saving.specs.declared.Restored.{Restored}

-- the records in probing order, in a row
abbrev pub row_in_order : Members → List Member
row_in_order m = pad_to 64 nobody (map from_member (stands_in_order here (view_members m)))

abbrev pub ending_of : Ending → Saving
ending_of (saved n) = saving.Whole n
ending_of (not_saved r) = saving.Refused r

-- saving a node into a lent row
abbrev pub save_of : Node → List ℕ → Save
save_of node row = save here versions (stored_view node) row

pub record Saves (node : Node) (row : List ℕ) (r : Saving) (row' : List ℕ) : Type 0 where
  pub answer : r ≡ ending_of (save_of node row).ends
  pub written : row' ≡ (save_of node row).row

-- the list of an image, in a node's rows
abbrev pub members_of : Loaded → Members
members_of l =
    record {
      table = l.table;
      len = l.len;
      order = record { row = l.order; position = l.position };
      lamps = lamps_of here.same l.own (map to_member (take l.len l.table));
    }

abbrev pub restored_as : Answer → ℕ → Restored
restored_as answer tick = record { answer = answer; wait = fresh_wait tick }

-- "refused, there is no node"
abbrev pub not_restored : Refusal → ℕ → Restored
not_restored r tick = restored_as (plain_answer (Refused r) (pack_node empty_node)) tick

abbrev pub node_of : Loaded → Settings → Node
node_of l settings =
    record { settings = settings; own = l.own; members = members_of l; disseminator = pack_disseminator no_news; timers = pack_timers []; departed = pack_departed [] }

-- then 1
unfoldable pub set_up_of : Loaded → Settings → ℕ → Restored
set_up_of l settings tick = pick (in_range settings) (restored_as (plain_answer (Done 0) (node_of l settings)) tick) (not_restored Setting tick)

-- restoring a node from bytes, with a fresh wait record
unfoldable pub restored_of : List ℕ → Settings → ℕ → Restored
restored_of bytes settings tick = record { answer = created_of (restore here versions bytes settings); wait = fresh_wait tick }
