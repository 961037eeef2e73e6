-- What a message call gives, in rows.
-- Assumes nothing.
use Rattle.std.specs.Prelude.{List, ◌++◌, map, ℕ, ◌-◌, length, take, replicate, set}
use Rattle.model.specs.declared.Reply.{Reply}
use Rattle.model.specs.declared.Reply.TheVariants as reply
use Rattle.model.specs.Rows.{pad_to}
use Rattle.address.specs.Here.{Addr, here}
use Rattle.model.specs.Words as W
use Rattle.model.specs.Node as M
use Rattle.model.specs.Handler as handler
use Rattle.model.specs.Calls as calls
use Rattle.types.specs.declared.Gossip.{Gossip}
use Rattle.types.specs.declared.Action.{Action}
use Rattle.types.specs.declared.Action.TheVariants as action
use Rattle.types.specs.declared.Optional.{Optional}
use Rattle.types.specs.declared.Optional.TheVariants.{Absent, Given}
use Rattle.types.specs.Views.{from_gossip, no_gossip}
use Rattle.node.specs.declared.Node.{Node}
use Rattle.node.specs.declared.Letter.{Letter}
use Rattle.node.specs.declared.Answer.{Answer}
use Rattle.node.specs.Views.{view_node, pack_node, stored_view, no_letter, silent_answer, plain_answer, answer_of, spread_of}
use Rattle.message.specs.declared.gossip.Heard.{Heard}
use Rattle.message.specs.declared.Received.{Received}
use Rattle.message.specs.Views.{records_of}

abbrev pub no_rows : List Gossip
no_rows = replicate 64 no_gossip

abbrev pub one_letter : ℕ → Node → Letter → ℕ → Answer
one_letter used n l collected = record { reply = reply.Done used; node = n; letters = set (replicate 4 no_letter) 0 l; sent = 1; collected = collected }

abbrev pub refused_received : Node → Reply → Received
refused_received n r = record { answer = plain_answer r n; gossip = no_rows; written = 0; events = replicate 65 no_gossip; reported = 0 }

-- one message goes out with gossip chosen for it
abbrev pub answered_of : ℕ → Heard → Addr → Action → Received
answered_of used h target a =
    let c = spread_of (M.spread here (view_node h.node)) in
    record {
      answer = one_letter used c.node (record { target = target; action = a; count = c.count }) h.collected;
      gossip = c.rows;
      written = c.count;
      events = h.events;
      reported = h.reported;
    }

-- an Ack's sender is Alive
abbrev pub settled_of : ℕ → Heard → Addr → Received
settled_of used h from =
    record {
      answer = silent_answer (reply.Done used) (pack_node (handler.acked here from (view_node h.node))) h.collected;
      gossip = no_rows;
      written = 0;
      events = h.events;
      reported = h.reported;
    }

-- an Ack goes on
abbrev pub forwarded_of : ℕ → Heard → Addr → Addr → List Gossip → ℕ → Received
forwarded_of used h from to rows given =
    record {
      answer = one_letter used h.node (record { target = to; action = action.Ack from Absent; count = given }) h.collected;
      gossip = pad_to 64 no_gossip (take given rows);
      written = given;
      events = h.events;
      reported = h.reported;
    }

abbrev pub acknowledged_of : ℕ → Heard → Addr → List Gossip → ℕ → Optional → Received
acknowledged_of used h from rows given Absent = settled_of used h from
acknowledged_of used h from rows given (Given to) = forwarded_of used h from to rows given

-- the outcome of a message call
unfoldable pub received_of : calls.Outcome Addr → Received
received_of o =
    record {
      answer = answer_of o;
      gossip = pad_to 64 no_gossip (map from_gossip (calls.packed o.messages));
      written = length (calls.packed o.messages);
      events = pad_to 65 no_gossip (map from_gossip o.events);
      reported = length o.events;
    }

-- the outcome of the rules of a message, on a node that passed the tests
abbrev pub handled_of : Node → W.Action Addr → List Gossip → ℕ → List ℕ → Received
handled_of n a rows given draws = received_of (calls.kept_message here (stored_view n) (handler.stops_at here (records_of rows given) (view_node n) draws) draws (handler.handle here a (records_of rows given) (view_node n) draws))

-- the records that a host lends: the first of them stand in a row, and of those past 64 only how many there are plays a part
unfoldable pub lent_rows : List Gossip → ℕ → List (W.Gossip Addr)
lent_rows rows given = records_of rows given ++ replicate (given - 64) W.nothing
