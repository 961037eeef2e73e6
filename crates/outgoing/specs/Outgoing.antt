-- What the writer of datagrams promises: the bytes from the start of the row on if it is long enough, else nothing.
-- Assumes nothing.
use Rattle.std.specs.Prelude.{◌≡◌, Bool, not, ◌&&◌, List, [], ◌∷◌, ◌++◌, map, ℕ, ◌+◌, ◌≤◌, ◌<◌, ltb, length, take, drop}
use Rattle.model.specs.declared.Refusal.{Refusal}
use Rattle.model.specs.declared.Refusal.TheVariants.{ManyRecords, AddressRange, NoRoom}
use Rattle.model.specs.Bounds.{message_records}
use Rattle.model.specs.Rows.{every}
use Rattle.model.specs.Sound.{valid_gossip}
use Rattle.model.specs.Calls.{first_of, valid_action}
use Rattle.address.specs.Here.{Addr, here, here_text as text}
use Rattle.types.specs.declared.Gossip.{Gossip}
use Rattle.types.specs.Views.{to_gossip, to_action}
use Rattle.types.specs.Wire.{varint, tag, string}
use Rattle.incoming.specs.Encode.{other_bytes, encode}
use Rattle.types.specs.declared.Action.{Action}
use Rattle.types.specs.declared.Action.TheVariants.{Ping, PingReq, Ack}
use Rattle.types.specs.declared.Optional.{Optional}
use Rattle.types.specs.declared.Optional.TheVariants as optional
use Rattle.outgoing.specs.declared.Opened.{Opened}
use Rattle.outgoing.specs.declared.Writing.{Writing}
use Rattle.outgoing.specs.declared.Writing.TheVariants.{Whole, Refused}

-- an action's kind and its two addresses
unfoldable pub open_of : Action → Opened
open_of (Ping f o) = record { kind = 1; from = f; other = o }
open_of (PingReq f s) = record { kind = 2; from = f; other = optional.Given s }
open_of (Ack f o) = record { kind = 3; from = f; other = o }

-- the two addresses of an action
unfoldable pub addresses_of : Addr → Optional → List ℕ
addresses_of from other = string 1 (text from) ++ other_bytes other

-- what stands before an action's records, which take `rest` bytes: the key, the count of all behind it, the addresses
unfoldable pub head_of : Action → ℕ → List ℕ
head_of a rest =
    tag (open_of a).kind 2
    ++ (varint (length (addresses_of (open_of a).from (open_of a).other) + rest) ++ addresses_of (open_of a).from (open_of a).other)

-- 12 if these bytes and the `rest` behind them are more than the row has places
unfoldable pub headed_of : List ℕ → ℕ → List ℕ → Writing
headed_of bytes rest out = first_of ((ltb (length out) (length bytes + rest), NoRoom) ∷ []) Refused (Whole (length bytes))

-- 12 if the bytes are more than the row has places
unfoldable pub written_of : List ℕ → List ℕ → Writing
written_of bytes out = first_of ((ltb (length out) (length bytes), NoRoom) ∷ []) Refused (Whole (length bytes))

-- the tests of the writer: 4, 5 of the action's addresses and its records', then 12
abbrev pub write_tests : Action → List Gossip → List ℕ → List (Bool × Refusal)
write_tests a gs out =
    (ltb message_records (length gs), ManyRecords)
    ∷ (not (valid_action here (to_action a) && every (valid_gossip here) (map to_gossip gs)), AddressRange)
    ∷ (ltb (length out) (length (encode a gs)), NoRoom)
    ∷ []

-- the first test that fails refuses; else as many bytes are written as the encoding has
unfoldable pub writing_of : Action → List Gossip → List ℕ → Writing
writing_of a gs out = first_of (write_tests a gs out) Refused (Whole (length (encode a gs)))

-- the row of bytes after an answer: those written, and behind them what was there; refused, it is as lent
unfoldable pub row_after : Writing → List ℕ → List ℕ → List ℕ
row_after (Whole n) bytes out = bytes ++ drop n out
row_after (Refused r) bytes out = out

-- of more than 64 records nothing is written; of fewer, those of the row
pub record Sends (a : Action) (row : List Gossip) (n : ℕ) (out : List ℕ) (r : Writing) (out' : List ℕ) : Type 0 where
  pub few : n ≤ message_records → (r ≡ writing_of a (take n row) out) × (out' ≡ row_after (writing_of a (take n row) out) (encode a (take n row)) out)
  pub many : message_records < n → (r ≡ Refused ManyRecords) × (out' ≡ out)
