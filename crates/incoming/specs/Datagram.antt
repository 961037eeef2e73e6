-- A datagram: a field of number 1 to 3 holds an action of that kind, others are passed over; and what the whole comes to.
-- Assumes nothing.
use Rattle.std.specs.Prelude.{◌≡◌, Bool, false, List, [], ℕ, ◌+◌, ◌≤◌, min, eqb, ltb, length, take}
use Rattle.address.specs.Here.{Addr}
use Rattle.model.specs.declared.Refusal.TheVariants.{ShortRow, ManyRecords}
use Rattle.model.specs.Bounds.{message_records}
use Rattle.model.specs.Rows.{pick}
use Rattle.types.specs.declared.Action.TheVariants.{Ping, PingReq, Ack}
use Rattle.types.specs.declared.Gossip.{Gossip}
use Rattle.types.specs.declared.Optional.TheVariants as optional
use Rattle.fields.specs.Field.{content}
use Rattle.fields.specs.Walk.{Read, stopped, read, and_then, Step, walk}
use Rattle.iptext.specs.declared.Text.{Text}
use Rattle.iptext.specs.declared.Text.TheVariants as text
use Rattle.actions.specs.declared.Small.{Small}
use Rattle.actions.specs.Action.{Acting, silent, action_step}
use Rattle.incoming.specs.declared.Made.{Made}
use Rattle.incoming.specs.declared.Made.TheVariants as made
use Rattle.incoming.specs.declared.Decoded.{Decoded}
use Rattle.incoming.specs.declared.Decoded.TheVariants.{Malformed, Whole}
use Rattle.incoming.specs.declared.Reading.{Reading}
use Rattle.incoming.specs.declared.Reading.TheVariants as reading
use Rattle.incoming.specs.declared.Taken.{Taken}
use Rattle.incoming.specs.declared.Datagram as declared

-- the action held so far: its kind, 0 for none, and what its fields say
pub record Message : Type 0 where
  pub kind : ℕ
  pub acting : Acting

-- nothing was read yet
abbrev pub unsent : Message
unsent = record { kind = 0; acting = silent }

-- an action of the kind that is held is merged into it; one of another kind takes its place
unfoldable pub resumed : Message → ℕ → Acting
resumed m k = pick (eqb m.kind k) m.acting silent

-- a field of number 1 to 3 holds an action, others are passed over
unfoldable pub message_step : Step Message
message_step m place bytes f =
    pick (ltb 3 f.number) (read m)
    (pick (eqb f.wire 2)
    (and_then (walk action_step (place + f.head) (content bytes f) (resumed m f.number)) (λ a. read (record { kind = f.number; acting = a })))
    (stopped place))

-- the action of a kind, 1 a ping, 2 a ping request, 3 an ack; the other address of a ping or an ack may be missing
unfoldable pub action_of : ℕ → Addr → Text → Made
action_of k a text.Malformed = made.Missing
action_of k a text.Empty =
    pick (eqb k 1) (made.Whole (Ping a optional.Absent)) (pick (eqb k 2) made.Missing (made.Whole (Ack a optional.Absent)))
action_of k a (text.Given b) =
    pick (eqb k 1) (made.Whole (Ping a (optional.Given b))) (pick (eqb k 2) (made.Whole (PingReq a b)) (made.Whole (Ack a (optional.Given b))))

-- n is the input's length: there it is told that something is missing or not canonical
unfoldable pub judge_made : Made → Bool → ℕ → Decoded
judge_made made.Missing bad n = Malformed n
judge_made (made.Whole action) bad n = pick bad (Malformed n) (Whole action)

-- the sender is needed
unfoldable pub judge_from : ℕ → Text → Text → Bool → ℕ → Decoded
judge_from k text.Empty other bad n = Malformed n
judge_from k text.Malformed other bad n = Malformed n
judge_from k (text.Given a) other bad n = judge_made (action_of k a other) bad n

-- and so is an action
unfoldable pub judge_of : ℕ → Text → Text → Bool → ℕ → Decoded
judge_of k from other bad n = pick (eqb k 0) (Malformed n) (judge_from k from other bad n)

-- what a datagram says, and all its gossip
pub record Decode : Type 0 where
  pub answer : Decoded
  pub gossip : List Gossip

-- malformed where reading stopped; else what the whole message comes to
unfoldable pub finish : ℕ → Read Message → Decode
finish n (stopped place) = record { answer = Malformed place; gossip = [] }
finish n (read m) =
    record { answer = judge_of m.kind m.acting.from m.acting.other m.acting.bad n; gossip = m.acting.gossip }

-- the datagram that some bytes are
unfoldable pub decode : List ℕ → Decode
decode bytes = finish (length bytes) (walk message_step 0 bytes unsent)

-- 11, then 4 if there are more than 64 records
unfoldable pub told_of : Decoded → ℕ → Reading
told_of (Malformed place) count = reading.Malformed place
told_of (Whole action) count = pick (ltb message_records count) (reading.Refused ManyRecords) (reading.Whole action count)

-- 3 if fewer than 64 places are lent, then what the datagram says
unfoldable pub reading_of : List ℕ → ℕ → Reading
reading_of bytes places =
    pick (ltb places message_records) (reading.Refused ShortRow) (told_of (decode bytes).answer (length (decode bytes).gossip))

-- the records that are handed over: none of what is refused
unfoldable pub handed : Reading → List Gossip → List Gossip
handed (reading.Whole action count) gs = gs
handed (reading.Malformed place) gs = []
handed (reading.Refused refusal) gs = []

-- the records that a host is given
unfoldable pub records_of : List ℕ → ℕ → List Gossip
records_of bytes places = handed (reading_of bytes places) (decode bytes).gossip

-- ---- what the functions promise
unfoldable pub given_of : Reading → ℕ
given_of (reading.Whole action count) = count
given_of (reading.Malformed place) = 0
given_of (reading.Refused refusal) = 0

abbrev pub unspoken : Small
unspoken = record { from = text.Empty; other = text.Empty; bad = false; count = 0 }

-- `resumed`, as the code has it
unfoldable pub resumed_at : ℕ → Small → ℕ → Small
resumed_at k s n = pick (eqb k n) s unspoken

abbrev pub malformed_of : ℕ → List Gossip → declared.Datagram
malformed_of place row = record { answer = Malformed place; count = 0; row = row }

-- of the gossip the first 64, and how much there is up to 65
pub record Decodes (bytes : List ℕ) (r : declared.Datagram) : Type 0 where
  pub says : r.answer ≡ (decode bytes).answer
  pub counts : r.count ≡ min (length (decode bytes).gossip) 65
  pub hands : take (min r.count 64) r.row ≡ take 64 (decode bytes).gossip

pub record Takes (bytes : List ℕ) (places : ℕ) (r : Taken) : Type 0 where
  pub says : r.answer ≡ reading_of bytes places
  pub hands : take r.count r.row ≡ records_of bytes places
  pub counts : r.count ≡ length (records_of bytes places)
  pub fits : r.count ≤ places
  pub few : r.count ≤ 65
