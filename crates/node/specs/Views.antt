-- How a node of rows carries the model's node, and how an answer carries the model's outcome.
-- Assumes nothing.
use Rattle.std.specs.Prelude.{Bool, true, false, [], map, ℕ, length, replicate}
use Rattle.model.specs.declared.Reply.{Reply}
use Rattle.model.specs.declared.Reply.TheVariants.{Done, Refused}
use Rattle.model.specs.declared.Settings.{Settings}
use Rattle.model.specs.Rows.{pad_to}
use Rattle.address.specs.Here.{Addr, here}
use Rattle.model.specs.Words as W
use Rattle.model.specs.Node as M
use Rattle.model.specs.Calls as calls
use Rattle.types.specs.declared.Action.TheVariants.{Ping}
use Rattle.types.specs.declared.Optional.TheVariants.{Absent}
use Rattle.types.specs.Views.{from_action, from_gossip, no_gossip}
use Rattle.heap.specs.declared.Heap.{Heap}
use Rattle.heap.specs.Views.{from_entry}
use Rattle.heap.specs.Kinds.{row_view as heap_row}
use Rattle.disseminate.specs.declared.Disseminator.{Disseminator}
use Rattle.disseminate.specs.Views.{view_disseminator, pack_disseminator, no_news}
use Rattle.member.specs.declared.Members.{Members}
use Rattle.member.specs.Views.{to_member, from_member, view_members, pack_members}
use Rattle.timers.specs.declared.Timers.{Timers}
use Rattle.timers.specs.Views.{from_timer, timers_view, pack_timers, row_view}
use Rattle.departed.specs.declared.DepartedRow.{DepartedRow}
use Rattle.departed.specs.Views.{from_departed, departed_view, pack_departed, row_view as departed_row}
use Rattle.node.specs.declared.Node.{Node}
use Rattle.node.specs.declared.Letter.{Letter}
use Rattle.node.specs.declared.Answer.{Answer}
use Rattle.node.specs.declared.parts.Spread.{Spread}

-- the node that the rows hold, and the rows that hold a node
unfoldable pub view_node : Node → M.Node Addr
view_node n =
    record {
      settings = n.settings;
      own = n.own;
      members = view_members n.members;
      disseminator = view_disseminator n.disseminator;
      timers = timers_view n.timers;
      departed = departed_view n.departed;
    }

unfoldable pub pack_node : M.Node Addr → Node
pack_node s =
    record {
      settings = s.settings;
      own = s.own;
      members = pack_members s.own s.members;
      disseminator = pack_disseminator s.disseminator;
      timers = pack_timers s.timers;
      departed = pack_departed s.departed;
    }

-- the heap of a row
abbrev pub row_heap : M.Row (W.Entry Addr) → Heap
row_heap r = record { entries = map from_entry r.places; len = r.used }

abbrev pub row_timers : M.Row (W.Timer Addr) → Timers
row_timers r = record { entries = map from_timer r.places; len = r.used }

abbrev pub row_departed : M.Row (W.Departed Addr) → DepartedRow
row_departed r = record { entries = map from_departed r.places; len = r.used }

-- the rows as the model keeps them, used places and unused ones; and back
unfoldable pub stored_view : Node → M.Stored Addr
stored_view n =
    record {
      settings = n.settings;
      own = n.own;
      table = map to_member n.members.table;
      order = n.members.order.row;
      listed = n.members.len;
      position = n.members.order.position;
      lamps = n.members.lamps;
      alive = heap_row n.disseminator.alive;
      deceased = heap_row n.disseminator.deceased;
      timers = row_view n.timers;
      departed = departed_row n.departed;
    }

unfoldable pub unstored : M.Stored Addr → Node
unstored s =
    record {
      settings = s.settings;
      own = s.own;
      members = record { table = map from_member s.table; len = s.listed; order = record { row = s.order; position = s.position }; lamps = s.lamps };
      disseminator = record { alive = row_heap s.alive; deceased = row_heap s.deceased };
      timers = row_timers s.timers;
      departed = row_departed s.departed;
    }

-- a node with a part replaced
abbrev pub with_members : Node → Members → Node
with_members n m = record { settings = n.settings; own = n.own; members = m; disseminator = n.disseminator; timers = n.timers; departed = n.departed }

abbrev pub with_disseminator : Node → Disseminator → Node
with_disseminator n d = record { settings = n.settings; own = n.own; members = n.members; disseminator = d; timers = n.timers; departed = n.departed }

abbrev pub with_timers : Node → Timers → Node
with_timers n t = record { settings = n.settings; own = n.own; members = n.members; disseminator = n.disseminator; timers = t; departed = n.departed }

-- the list and the row beside it
abbrev pub with_lists : Node → Members → DepartedRow → Node
with_lists n m r = record { settings = n.settings; own = n.own; members = m; disseminator = n.disseminator; timers = n.timers; departed = r }

-- gossip was chosen, into a row of 64
abbrev pub spread_of : M.Spread Addr → Spread
spread_of c = record { node = pack_node c.node; rows = pad_to 64 no_gossip (map from_gossip c.gossip); count = length c.gossip }

-- an unused place of the letters
abbrev pub no_letter : Letter
no_letter = record { target = here.blank; action = Ping here.blank Absent; count = 0 }

abbrev pub from_message : W.Message Addr → Letter
from_message m = record { target = m.target; action = from_action m.action; count = length m.gossip }

-- nothing is sent; and nothing was collected
abbrev pub silent_answer : Reply → Node → ℕ → Answer
silent_answer reply n collected = record { reply = reply; node = n; letters = replicate 4 no_letter; sent = 0; collected = collected }

abbrev pub plain_answer : Reply → Node → Answer
plain_answer reply n = silent_answer reply n 0

-- how a call ended, its node, its letters and how many held events were collected. The gossip of the letters stands in a row of its own
unfoldable pub answer_of : calls.Outcome Addr → Answer
answer_of o =
    record {
      reply = o.reply;
      node = unstored o.node;
      letters = pad_to 4 no_letter (map from_message o.messages);
      sent = length o.messages;
      collected = o.collected;
    }

-- "refused, it returns no node": the answer's place for one holds zeros
abbrev pub no_settings : Settings
no_settings =
    record {
      ping_interval = 0;
      ping_timeout = 0;
      ping_req_timeout = 0;
      suspect_timeout = 0;
      ping_req_group_size = 0;
      send_constant = 0;
      max_selected = 0;
      max_size = 0;
      collect = false;
      remember = false;
    }

abbrev pub nobody : M.Node Addr
nobody =
    record {
      settings = no_settings;
      own = here.blank;
      members = record { table = []; order = []; position = 0 };
      disseminator = no_news;
      timers = [];
      departed = [];
    }

unfoldable pub created_of : calls.Created Addr → Answer
created_of (calls.created s) = plain_answer (Done 0) (unstored s)
created_of (calls.not_created r) = plain_answer (Refused r) (pack_node nobody)
