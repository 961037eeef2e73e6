-- What each call over words promises: the words are read, the rules' call is made, and what it gives is written. A call that isn't kept leaves
-- every row as it was, and its counts are zeros.
-- Assumes nothing.
use Rattle.std.specs.Prelude.{◌≡◌, List, [], ◌∷◌, ◌++◌, map, ℕ, get_or, take, drop}
use Rattle.model.specs.declared.Lamps.{Lamps}
use Rattle.model.specs.Answers.{number_of}
use Rattle.model.specs.Calls as calls
use Rattle.address.specs.Here.{Addr, here}
use Rattle.types.specs.declared.Gossip.{Gossip}
use Rattle.types.specs.Views.{to_gossip, to_action}
use Rattle.disseminate.specs.declared.Found.{Found}
use Rattle.disseminate.specs.declared.Found.TheVariants.{Missing, At}
use Rattle.node.specs.declared.Answer.{Answer}
use Rattle.node.specs.Views.{stored_view, answer_of, created_of}
use Rattle.message.specs.declared.Received.{Received}
use Rattle.message.specs.Answers.{received_of}
use Rattle.wait.specs.declared.Stepped.{Stepped}
use Rattle.wait.specs.Views.{to_wait, stepped_of}
use Rattle.timer_call.specs.declared.Ended.{Ended}
use Rattle.timer_call.specs.Views.{ended_of}
use Rattle.swim.specs.declared.lookup.Lookup.{Lookup}
use Rattle.swim.specs.declared.lookup.Lookup.TheVariants as look
use Rattle.swim.specs.declared.lookup.Tally.{Tally}
use Rattle.swim.specs.declared.lookup.Tally.TheVariants as tally
use Rattle.why.specs.declared.Reason.{Reason}
use Rattle.why.specs.declared.Reason.TheVariants as reason
use Rattle.why.specs.declared.Grounds.{Grounds}
use Rattle.why.specs.declared.Grounds.TheVariants as grounds
use Rattle.why.specs.Why as asked
use Rattle.cwords.specs.Reading.{Rows, address_in, settings_of, gossip_of, action_of, wait_of, node_of}
use Rattle.cwords.specs.Writing.{gossip_words, member_words, letter_words, wait_words, code_of, used_of, fate_of}
use Rattle.cwords.specs.Leaving.{kept, Leaves}

abbrev pub none : List ℕ
none = 0 ∷ 0 ∷ 0 ∷ 0 ∷ 0 ∷ 0 ∷ []

-- the first k of an array, written over a lent row
abbrev pub over : ℕ → List Gossip → List (List ℕ) → List (List ℕ)
over k gs lent = take k (map gossip_words gs) ++ drop k lent

-- creation
unfoldable pub created_at : List ℕ → List ℕ → ℕ → Answer
created_at settings own number = created_of (calls.create here (settings_of settings) (address_in own) number)

pub record Creates (d : Answer) (before : Rows) (code : ℕ) (after : Rows) : Type 0 where
  pub coded : code ≡ code_of d.reply
  pub node : Leaves d.reply d.node before after

-- adding a peer
unfoldable pub added_at : Rows → List ℕ → ℕ → List ℕ → Answer
added_at before peer number draws = answer_of (calls.add_peer here (stored_view (node_of before)) (address_in peer) number draws)

abbrev pub add_counts : Answer → List ℕ
add_counts d = used_of d.reply ∷ 0 ∷ 0 ∷ 0 ∷ 0 ∷ 0 ∷ []

pub record Adds (d : Answer) (before : Rows) (code : ℕ) (after : Rows) (counts' : List ℕ) : Type 0 where
  pub coded : code ≡ code_of d.reply
  pub node : Leaves d.reply d.node before after
  pub counted : counts' ≡ kept d.reply (add_counts d) none

-- the message
unfoldable pub received_at : Rows → List ℕ → List (List ℕ) → List ℕ → ℕ → ℕ → Received
received_at before action records draws gossip events =
    received_of (calls.message here (stored_view (node_of before)) (to_action (action_of action)) (map to_gossip (map gossip_of records)) draws (record { gossip = gossip; events = events }))

abbrev pub receive_counts : Received → List ℕ
receive_counts d = used_of d.answer.reply ∷ d.answer.sent ∷ d.written ∷ d.reported ∷ d.answer.collected ∷ 0 ∷ []

pub record Receives (d : Received) (before : Rows) (gossip events letters : List (List ℕ)) (code : ℕ) (after : Rows) (gossip' events' letters' : List (List ℕ)) (counts' : List ℕ) : Type 0 where
  pub coded : code ≡ code_of d.answer.reply
  pub node : Leaves d.answer.reply d.answer.node before after
  pub spoken : gossip' ≡ kept d.answer.reply (over d.written d.gossip gossip) gossip
  pub told : events' ≡ kept d.answer.reply (over d.reported d.events events) events
  pub sent : letters' ≡ kept d.answer.reply (map letter_words d.answer.letters) letters
  pub counted : counts' ≡ kept d.answer.reply (receive_counts d) none

-- the detector step
unfoldable pub stepped_at : Rows → List ℕ → ℕ → List ℕ → ℕ → ℕ → Stepped
stepped_at before wait tick draws gossip events =
    stepped_of (calls.detect here (stored_view (node_of before)) (to_wait (wait_of wait)) tick draws (record { gossip = gossip; events = events }))

abbrev pub step_counts : Stepped → List ℕ
step_counts d = used_of d.answer.reply ∷ d.answer.sent ∷ d.written ∷ d.reported ∷ d.answer.collected ∷ 0 ∷ []

pub record Steps (d : Stepped) (before : Rows) (wait : List ℕ) (gossip events letters : List (List ℕ)) (code : ℕ) (after : Rows) (wait' : List ℕ) (gossip' events' letters' : List (List ℕ)) (counts' : List ℕ) : Type 0 where
  pub coded : code ≡ code_of d.answer.reply
  pub node : Leaves d.answer.reply d.answer.node before after
  pub waits : wait' ≡ kept d.answer.reply (wait_words d.wait) wait
  pub waits_again : wait_of wait' ≡ kept d.answer.reply d.wait (wait_of wait)
  pub spoken : gossip' ≡ kept d.answer.reply (over d.written d.gossip gossip) gossip
  pub told : events' ≡ kept d.answer.reply (over d.reported d.events events) events
  pub sent : letters' ≡ kept d.answer.reply (map letter_words d.answer.letters) letters
  pub counted : counts' ≡ kept d.answer.reply (step_counts d) none

-- the timer call
unfoldable pub ended_in : Rows → ℕ → ℕ → Ended
ended_in before tick events = ended_of (calls.end_timer here (stored_view (node_of before)) tick (record { gossip = 0; events = events }))

abbrev pub end_counts : Ended → List ℕ
end_counts d = 0 ∷ 0 ∷ 0 ∷ d.reported ∷ d.answer.collected ∷ fate_of d.answer.reply ∷ []

pub record EndsTimer (d : Ended) (before : Rows) (events : List (List ℕ)) (code : ℕ) (after : Rows) (events' : List (List ℕ)) (counts' : List ℕ) : Type 0 where
  pub coded : code ≡ code_of d.answer.reply
  pub node : Leaves d.answer.reply d.answer.node before after
  pub told : events' ≡ kept d.answer.reply (over d.reported d.events events) events
  pub counted : counts' ≡ kept d.answer.reply (end_counts d) none

-- a look-up: 0 with what is held, 22 where nothing is, or the number of a refusal
abbrev pub look_code : Lookup → ℕ
look_code look.NotListed = 22
look_code (look.Listed a state number) = 0
look_code (look.Refused r) = number_of r

abbrev pub look_words : Lookup → List ℕ → List ℕ
look_words look.NotListed found = found
look_words (look.Listed a state number) found = member_words (record { addr = a; state = state; number = number })
look_words (look.Refused r) found = found

pub record Looks (l : Lookup) (found : List ℕ) (code : ℕ) (found' : List ℕ) : Type 0 where
  pub coded : code ≡ look_code l
  pub shown : found' ≡ look_words l found

-- a count: 0 with it, or the number of a refusal
abbrev pub tally_code : Tally → ℕ
tally_code (tally.Listed n) = 0
tally_code (tally.Refused r) = number_of r

abbrev pub tally_words : Tally → List ℕ → List ℕ
tally_words (tally.Listed n) count = n ∷ []
tally_words (tally.Refused r) count = count

pub record Tallies (t : Tally) (count : List ℕ) (code : ℕ) (count' : List ℕ) : Type 0 where
  pub coded : code ≡ tally_code t
  pub shown : count' ≡ tally_words t count

-- why: 0 with the reason and its numbers, or the number of a refusal
abbrev pub reason_word : Reason → ℕ
reason_word reason.None = 0
reason_word reason.Own = 1
reason_word reason.Unknown = 2
reason_word reason.Equal = 3
reason_word reason.Low = 4
reason_word reason.Raised = 5
reason_word reason.Accepted = 6

abbrev pub found_words : Found → List ℕ
found_words Missing = 0 ∷ 0 ∷ []
found_words (At n) = 1 ∷ n ∷ []

unfoldable pub why_at : Rows → List ℕ → List ℕ → Grounds
why_at before event draws = asked.why here (stored_view (node_of before)) (to_gossip (gossip_of event)) draws

abbrev pub grounds_code : Grounds → ℕ
grounds_code (grounds.Because reason held number dead) = 0
grounds_code (grounds.Refused r) = number_of r

abbrev pub grounds_words : Grounds → List ℕ → List ℕ
grounds_words (grounds.Because reason held number dead) row = reason_word reason ∷ (found_words held ++ (found_words number ++ found_words dead))
grounds_words (grounds.Refused r) row = row

pub record Explains (g : Grounds) (row : List ℕ) (code : ℕ) (row' : List ℕ) : Type 0 where
  pub coded : code ≡ grounds_code g
  pub shown : row' ≡ grounds_words g row

-- the lamps of a node in words with this head
abbrev pub lamp_words : Lamps → List ℕ
lamp_words l = l.alive ∷ l.pending ∷ l.suspected ∷ []

pub record Shows (head row' : List ℕ) : Type 0 where
  pub shown : (r : Rows) → r.head ≡ head → row' ≡ lamp_words (node_of r).members.lamps
