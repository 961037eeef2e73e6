-- How the wait record carries the model's, and how what a step gives carries the model's outcome.
-- Assumes nothing.
use Rattle.std.specs.Prelude.{◌≡◌, refl, List, ◌++◌, map, ℕ, ◌+◌, ◌≤◌, length, take, set, replicate}
use Rattle.model.specs.declared.Reply.{Reply}
use Rattle.model.specs.declared.Reply.TheVariants.{Done}
use Rattle.model.specs.Rows.{pad_to}
use Rattle.laws.specs.Packing.{PackedRow}
use Rattle.address.specs.Here.{Addr, here}
use Rattle.model.specs.Words as W
use Rattle.model.specs.Node as M
use Rattle.model.specs.Detector as D
use Rattle.model.specs.Calls as calls
use Rattle.types.specs.declared.Gossip.{Gossip}
use Rattle.types.specs.declared.Action.{Action}
use Rattle.types.specs.Views.{from_gossip, no_gossip}
use Rattle.node.specs.declared.Node.{Node}
use Rattle.node.specs.Views.{no_letter, from_message, plain_answer, answer_of}
use Rattle.wait.specs.declared.WaitState.{WaitState}
use Rattle.wait.specs.declared.WaitState.TheVariants.{SendingPing, WaitingForPingAck, SendingPingReq, WaitingForPingReqAck, Declaring}
use Rattle.wait.specs.declared.Wait.{Wait}
use Rattle.wait.specs.declared.Stepped.{Stepped}
use Rattle.wait.specs.declared.mail.Mail.{Mail}

abbrev pub to_state : WaitState → W.WaitState Addr
to_state SendingPing = W.SendingPing
to_state (WaitingForPingAck a n) = W.WaitingForPingAck a n
to_state (SendingPingReq a n) = W.SendingPingReq a n
to_state (WaitingForPingReqAck a n) = W.WaitingForPingReqAck a n
to_state (Declaring a n) = W.Declaring a n

abbrev pub from_state : W.WaitState Addr → WaitState
from_state W.SendingPing = SendingPing
from_state (W.WaitingForPingAck a n) = WaitingForPingAck a n
from_state (W.SendingPingReq a n) = SendingPingReq a n
from_state (W.WaitingForPingReqAck a n) = WaitingForPingReqAck a n
from_state (W.Declaring a n) = Declaring a n

abbrev pub to_wait : Wait → W.Wait Addr
to_wait w = record { state = to_state w.state; since = w.since }

abbrev pub from_wait : W.Wait Addr → Wait
from_wait w = record { state = from_state w.state; since = w.since }

pub to_from_state : (st : W.WaitState Addr) → to_state (from_state st) ≡ st
to_from_state W.SendingPing = refl
to_from_state (W.WaitingForPingAck a n) = refl
to_from_state (W.SendingPingReq a n) = refl
to_from_state (W.WaitingForPingReqAck a n) = refl
to_from_state (W.Declaring a n) = refl

pub from-to_state : (st : WaitState) → from_state (to_state st) ≡ st
from-to_state SendingPing = refl
from-to_state (WaitingForPingAck a n) = refl
from-to_state (SendingPingReq a n) = refl
from-to_state (WaitingForPingReqAck a n) = refl
from-to_state (Declaring a n) = refl

pub to_from_wait : (w : W.Wait Addr) → to_wait (from_wait w) ≡ w
to_from_wait w = λ i. record { state = to_from_state w.state i; since = w.since }

pub from-to_wait : (w : Wait) → from_wait (to_wait w) ≡ w
from-to_wait w = λ i. record { state = from-to_state w.state i; since = w.since }

-- a fresh wait record, "SendingPing at any tick"
abbrev pub fresh_wait : ℕ → Wait
fresh_wait tick = record { state = SendingPing; since = tick }

-- what a step gives: its answer, the wait record, the gossip of its messages in sending order, and the event that it reported
unfoldable pub stepped_of : calls.StepOutcome Addr → Stepped
stepped_of o =
    record {
      answer = answer_of o.outcome;
      wait = from_wait o.wait;
      gossip = pad_to 256 no_gossip (map from_gossip (calls.packed o.outcome.messages));
      written = length (calls.packed o.outcome.messages);
      events = pad_to 1 no_gossip (map from_gossip o.outcome.events);
      reported = length o.outcome.events;
    }

-- a step gives an outcome, and keeps to the rows of a step
pub record Gives (o : calls.StepOutcome Addr) (r : Stepped) : Type 0 where
  pub is : r ≡ stepped_of o
  pub written : r.written ≤ 256
  pub reported : r.reported ≤ 1

-- nothing sent, nothing reported
abbrev pub step_plain : Reply → Node → Wait → Stepped
step_plain reply n w =
    record { answer = plain_answer reply n; wait = w; gossip = replicate 256 no_gossip; written = 0; events = replicate 1 no_gossip; reported = 0 }

-- a step that is kept, after so many draws
abbrev pub kept_of : ℕ → D.Stepped Addr → calls.StepOutcome Addr
kept_of used e =
    record {
      outcome = record { reply = Done used; node = M.stored here e.effect.node; messages = e.effect.messages; events = e.effect.events; collected = e.effect.collected };
      wait = e.wait;
    }

-- messages to be sent, and their gossip in one row
unfoldable pub mail_of : List (W.Message Addr) → Mail
mail_of ms =
    record {
      letters = pad_to 4 no_letter (map from_message ms);
      sent = length ms;
      gossip = pad_to 256 no_gossip (map from_gossip (calls.packed ms));
      written = length (calls.packed ms);
    }

-- its rows are whole, and behind the last record there is nothing
pub record PackedMail (m : Mail) : Type 0 where
  pub letters : length m.letters ≡ 4
  pub gossip : PackedRow 256 no_gossip m.gossip m.written

-- one more message, with the first records of a row
unfoldable pub posted : Mail → Addr → Action → List Gossip → ℕ → Mail
posted m target action rows count =
    record {
      letters = set m.letters m.sent (record { target = target; action = action; count = count });
      sent = m.sent + 1;
      gossip = pad_to 256 no_gossip (take m.written m.gossip ++ take count rows);
      written = m.written + count;
    }

-- a kept step of rows
abbrev pub kept_rows : ℕ → Node → Mail → Wait → List Gossip → ℕ → ℕ → Stepped
kept_rows used n m w events reported collected =
    record {
      answer = record { reply = Done used; node = n; letters = m.letters; sent = m.sent; collected = collected };
      wait = w;
      gossip = m.gossip;
      written = m.written;
      events = events;
      reported = reported;
    }
