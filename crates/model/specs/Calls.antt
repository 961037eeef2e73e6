-- The calls: creation, adding a peer, the message, the detector step and the timer call, with their refusals in the scope's order.
-- Assumes nothing.
use Rattle.std.specs.Prelude.{Bool, true, false, ◌&&◌, ◌||◌, not, List, [], ◌∷◌, ◌++◌, ℕ, ◌-◌, length, drop, ltb}
use Rattle.std.proofs.Math.Option.{Option, none, some}
use Rattle.model.specs.declared.Refusal.{Refusal}
use Rattle.model.specs.declared.Refusal.TheVariants.{Setting, Unsound, ShortRow, ManyRecords, AddressRange}
use Rattle.model.specs.declared.Cause.{Cause}
use Rattle.model.specs.declared.Reply.{Reply}
use Rattle.model.specs.declared.Reply.TheVariants.{Done, Already, NotDue, Refuted, Gone, Refused, RefusedAt}
use Rattle.model.specs.declared.Fate.{Fate}
use Rattle.model.specs.declared.Fate.TheVariants.{Leaves, Stays, Absent}
use Rattle.model.specs.declared.Settings.{Settings}
use Rattle.model.specs.Rows.{every}
use Rattle.model.specs.Bounds.{message_records, Room, message_room, step_room, timer_room}
use Rattle.model.specs.Answers.{Answer, done, refused, and_then, number_of}
use Rattle.model.specs.Words.{Address, Gossip, Action, Ping, PingReq, Ack, Message, Wait, WaitState, SendingPing, WaitingForPingAck, SendingPingReq, WaitingForPingReqAck, Declaring}
use Rattle.model.specs.Members as list
use Rattle.model.specs.Node.{Node, Out, Effect, Stored, loaded, stored, fresh, with_members, lists}
use Rattle.model.specs.Handler.{handle, stops_at}
use Rattle.model.specs.Detector.{due, step, Stepped, first_over, fate_at, end_at}
use Rattle.model.specs.Sound.{in_range, sound, valid_gossip}

-- "refused, it returns no node"
pub data Created (A : Type 0) : Type 0 where
  created : Stored A → Created A
  not_created : Refusal → Created A

-- what every other call gives: how it ended, the node, the messages and the events, in order, and how many held events were collected
pub record Outcome (A : Type 0) : Type 0 where
  pub reply : Reply
  pub node : Stored A
  pub messages : List (Message A)
  pub events : List (Gossip A)
  pub collected : ℕ

-- the detector step gives the wait record too
pub record StepOutcome (A : Type 0) : Type 0 where
  pub outcome : Outcome A
  pub wait : Wait A

-- "Where an answer is an enum, there is a definition that gives this paper's number and values": 0 and the draws used for a kept call,
-- 0 and no draws where there was nothing to do or a timer ended and removed nobody, the number of the table and no draws for a refusal
abbrev pub reply_number : Reply → ℕ
reply_number (Done used) = 0
reply_number Already = 0
reply_number NotDue = 0
reply_number Refuted = 0
reply_number Gone = 0
reply_number (Refused r) = number_of r
reply_number (RefusedAt r at) = number_of r

abbrev pub draws_used : Reply → ℕ
draws_used (Done used) = used
draws_used Already = 0
draws_used NotDue = 0
draws_used Refuted = 0
draws_used Gone = 0
draws_used (Refused r) = 0
draws_used (RefusedAt r at) = 0

-- the refusal of a reply, if it is one, and where the rules of a message stopped
abbrev pub refusal_of : Reply → Option Refusal
refusal_of (Done used) = none
refusal_of Already = none
refusal_of NotDue = none
refusal_of Refuted = none
refusal_of Gone = none
refusal_of (Refused r) = some r
refusal_of (RefusedAt r at) = some r

abbrev pub cause_of : Reply → Option Cause
cause_of (Done used) = none
cause_of Already = none
cause_of NotDue = none
cause_of Refuted = none
cause_of Gone = none
cause_of (Refused r) = none
cause_of (RefusedAt r at) = some at

-- "the timer ends with the answer "refuted" or "already gone""
abbrev pub fate_reply : Fate → Reply
fate_reply Leaves = Done 0
fate_reply Stays = Refuted
fate_reply Absent = Gone

-- the first test that fails gives the refusal
abbrev pub first_of : {B : Type 0} → List (Bool × Refusal) → (Refusal → B) → B → B
first_of [] refuse go = go
first_of (t ∷ ts) refuse go = elim t.0 [ true ↦ refuse t.1 | false ↦ first_of ts refuse go ]

-- "a lent output row is shorter than above"
abbrev pub short : Room → Room → Bool
short needed lent = ltb lent.gossip needed.gossip || ltb lent.events needed.events

module _ {A : Type 0} where
  -- "All return the number and the node as it came; rows and wait record stay as lent; zero draws are used."
  abbrev pub unchanged : Reply → Stored A → Outcome A
  unchanged reply s = record { reply = reply; node = s; messages = []; events = []; collected = 0 }

  abbrev pub refuses : Stored A → Refusal → Outcome A
  refuses s r = unchanged (Refused r) s

  -- "already" if listed
  abbrev pub or_already : Bool → Stored A → Outcome A → Outcome A
  or_already true s o = unchanged Already s
  or_already false s o = o

  -- "A detector step or timer call that isn't due answers "not due" .. and changes nothing."
  abbrev pub when_due : Bool → Stored A → Wait A → StepOutcome A → StepOutcome A
  when_due true s w o = o
  when_due false s w o = record { outcome = unchanged NotDue s; wait = w }

  -- the gossip of all messages "is packed in sending order, each with its count"
  abbrev pub packed : List (Message A) → List (Gossip A)
  packed [] = []
  packed (m ∷ ms) = m.gossip ++ packed ms

  abbrev pub counts : List (Message A) → List ℕ
  counts [] = []
  counts (m ∷ ms) = length m.gossip ∷ counts ms

  -- a lent row after the call: "places past the last written stay as lent"
  abbrev pub written : List (Gossip A) → List (Gossip A) → List (Gossip A)
  written gs lent = gs ++ drop (length gs) lent

module _ {A : Type 0} (address : Address A) where
  -- "Creation takes settings, own address and its number .. It tests 5, then 1"
  abbrev pub create_tests : Settings → A → List (Bool × Refusal)
  create_tests settings own = (not (address.valid own), AddressRange) ∷ (not (in_range settings), Setting) ∷ []

  unfoldable pub create : Settings → A → ℕ → Created A
  create settings own n =
      first_of (create_tests settings own)
      not_created
      (created (stored address (fresh settings own n)))

  -- a kept call's outcome: the node is stored, and the draws are those that the rules read
  abbrev pub kept : Stored A → List ℕ → Answer (Effect A) → Outcome A
  kept s ds (refused r) = refuses s r
  kept s ds (done e rest) =
      record {
        reply = Done (length ds - length rest);
        node = stored address e.node;
        messages = e.messages;
        events = e.events;
        collected = e.collected;
      }

  -- "adding a peer at a given number (no event; "already" if listed)": 2, 5, already, 7, 8
  abbrev pub joins : A → ℕ → Node A → List ℕ → Answer (Effect A)
  joins a n s ds =
      and_then (list.add address.same a n s.members ds) λ m rest.
      done (record { node = with_members s m; messages = []; events = []; collected = 0 }) rest

  abbrev pub add_tests : Stored A → A → List (Bool × Refusal)
  add_tests s a = (not (sound address s), Unsound) ∷ (not (address.valid a), AddressRange) ∷ []

  unfoldable pub add_peer : Stored A → A → ℕ → List ℕ → Outcome A
  add_peer s a n ds =
      first_of (add_tests s a)
      (refuses s)
      (or_already (lists address a (loaded s)) s (kept s ds (joins a n (loaded s) ds)))

  -- "an address of 2^48 or more among the call's inputs, wait record included"
  abbrev pub valid_option : Option A → Bool
  valid_option none = true
  valid_option (some a) = address.valid a

  unfoldable pub valid_action : Action A → Bool
  valid_action (Ping from by) = address.valid from && valid_option by
  valid_action (PingReq from suspect) = address.valid from && address.valid suspect
  valid_action (Ack from to) = address.valid from && valid_option to

  unfoldable pub valid_state : WaitState A → Bool
  valid_state SendingPing = true
  valid_state (WaitingForPingAck a n) = address.valid a
  valid_state (SendingPingReq a n) = address.valid a
  valid_state (WaitingForPingReqAck a n) = address.valid a
  valid_state (Declaring a n) = address.valid a

  -- the message: 2, 3, 4, 5, then the rules
  abbrev pub message_tests : Stored A → Action A → List (Gossip A) → Room → List (Bool × Refusal)
  message_tests s action gs lent =
      (not (sound address s), Unsound)
      ∷ (short message_room lent, ShortRow)
      ∷ (ltb message_records (length gs), ManyRecords)
      ∷ (not (valid_action action && every (valid_gossip address) gs), AddressRange)
      ∷ []

  -- a message that its rules stop tells where
  abbrev pub kept_message : Stored A → Cause → List ℕ → Answer (Effect A) → Outcome A
  kept_message s at ds (refused r) = unchanged (RefusedAt r at) s
  kept_message s at ds (done e rest) = kept s ds (done e rest)

  unfoldable pub message : Stored A → Action A → List (Gossip A) → List ℕ → Room → Outcome A
  message s action gs ds lent =
      first_of (message_tests s action gs lent) (refuses s) (kept_message s (stops_at address gs (loaded s) ds) ds (handle address action gs (loaded s) ds))

  abbrev pub step_of_kept : Stored A → Wait A → List ℕ → Answer (Stepped A) → StepOutcome A
  step_of_kept s w ds (refused r) = record { outcome = refuses s r; wait = w }
  step_of_kept s w ds (done e rest) = record { outcome = kept s ds (done e.effect rest); wait = e.wait }

  -- the detector step: 2, 3, 5; "not due"; then the rules
  abbrev pub step_tests : Stored A → Wait A → Room → List (Bool × Refusal)
  step_tests s w lent =
      (not (sound address s), Unsound)
      ∷ (short step_room lent, ShortRow)
      ∷ (not (valid_state w.state), AddressRange)
      ∷ []

  unfoldable pub detect : Stored A → Wait A → ℕ → List ℕ → Room → StepOutcome A
  detect s w now ds lent =
      first_of (step_tests s w lent)
      (λ r. record { outcome = refuses s r; wait = w })
      (when_due (due s.settings w now) s w (step_of_kept s w ds (step address w.state now (loaded s) ds)))

  abbrev pub reports : Answer (Out A) → Answer (Effect A)
  reports x = and_then x λ o rest. done (record { node = o.node; messages = []; events = o.said; collected = o.collected }) rest

  -- a timer's end is answered by its fate; refused, nothing is kept
  abbrev pub kept_end : Stored A → Fate → Answer (Effect A) → Outcome A
  kept_end s v (refused r) = refuses s r
  kept_end s v (done e rest) = record { reply = fate_reply v; node = stored address e.node; messages = e.messages; events = e.events; collected = e.collected }

  abbrev pub ends_at : Stored A → Option ℕ → Outcome A
  ends_at s none = unchanged NotDue s
  ends_at s (some i) = kept_end s (fate_at address i (loaded s)) (reports (end_at address i (loaded s) []))

  -- the timer call: 2, 3; "not due"; then the rules. It reads no draw
  abbrev pub timer_tests : Stored A → Room → List (Bool × Refusal)
  timer_tests s lent = (not (sound address s), Unsound) ∷ (short timer_room lent, ShortRow) ∷ []

  unfoldable pub end_timer : Stored A → ℕ → Room → Outcome A
  end_timer s now lent =
      first_of (timer_tests s lent)
      (refuses s)
      (ends_at s (first_over address s.settings.suspect_timeout now (loaded s).timers))
