-- How what a timer call gives carries the model's outcome.
-- Assumes nothing.
use Rattle.std.specs.Prelude.{[], map, ℕ, length, replicate}
use Rattle.model.specs.declared.Reply.{Reply}
use Rattle.model.specs.declared.Fate.{Fate}
use Rattle.model.specs.Rows.{pad_to}
use Rattle.address.specs.Here.{Addr, here}
use Rattle.model.specs.Detector as D
use Rattle.model.specs.Calls as calls
use Rattle.types.specs.Views.{from_gossip, no_gossip}
use Rattle.node.specs.declared.Node.{Node}
use Rattle.node.specs.Views.{plain_answer, answer_of, stored_view, view_node}
use Rattle.timer_call.specs.declared.Ended.{Ended}

-- what a timer call gives
unfoldable pub ended_of : calls.Outcome Addr → Ended
ended_of o =
    record {
      answer = answer_of o;
      events = pad_to 1 no_gossip (map from_gossip o.events);
      reported = length o.events;
    }

-- nothing reported
abbrev pub end_plain : Reply → Node → Ended
end_plain reply n = record { answer = plain_answer reply n; events = replicate 1 no_gossip; reported = 0 }

-- the timer at a place ended, by the fate of its address
abbrev pub ended_by : Fate → Node → ℕ → Ended
ended_by v n i =
    let s = view_node n in
    ended_of (calls.kept_end here (stored_view n) v (calls.reports here (D.by_fate here v (D.timer_at here i s) (D.freed here i s) [])))
