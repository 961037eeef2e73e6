-- NO FORGED DEATH, DOWN TO THE BYTES. Hosts send what our writer wrote of the messages that they read off the answers, when and as often as they like or never; what a message call brings is what our reader gave of
-- some bytes, whoever made them. Of those bytes it is asked alone that each death they say, by address and number, is said by some bytes that a host sent: the network may lose, delay, repeat and reorder
-- datagrams, and make up any others. All that holds of the programs' cabinets holds of these.
-- Assumes nothing.
use Rattle.std.specs.Prelude.{◌≡◌, List, [], ◌∷◌, ◌++◌, map, ℕ, eqb, take}
use Rattle.std.proofs.Common.{arith}
use Rattle.address.specs.Here.{Addr}
use Rattle.model.specs.Rows.{pick}
use Rattle.model.specs.Words as W
use Rattle.history.specs.Histories.{Call, Add, Receive, Step, Timer, Lends}
use Rattle.cabinet.specs.Each.{Among}
use Rattle.cabinet.specs.Cabinets.{Topic, Turn, Names, InGossip}
use Rattle.types.specs.declared.Gossip.{Gossip}
use Rattle.types.specs.declared.Action.{Action}
use Rattle.types.specs.Views.{to_gossip, to_action}
use Rattle.incoming.specs.declared.Reading.{Reading}
use Rattle.incoming.specs.declared.Reading.TheVariants as reading
use Rattle.incoming.specs.Datagram.{decode}
use Rattle.outgoing.specs.declared.Writing.{Writing}
use Rattle.outgoing.specs.declared.Writing.TheVariants as writing
use Rattle.datagram.specs.Promises.{Reads, Writes}
use Rattle.datagram_promises.specs.Back.{AllWide}
use Rattle.promises.specs.Made.{Held, Said, Made}
use Rattle.cabinet_promises.specs.Mail.{mail}
use Rattle.cabinet_promises.specs.Cabinets.{Seat, lending, seat_of}

-- the gossip records that some bytes say
abbrev pub said_by : List ℕ → List (W.Gossip Addr)
said_by bytes = map to_gossip (decode bytes).gossip

-- some of these datagrams says it
abbrev pub SaidBy : Topic → List (List ℕ) → Addr → ℕ → Type 0
SaidBy k wire x n = Among (λ bytes. Among (λ g. Names k x n g.event) (said_by bytes)) wire

-- a message of a host, written: its action and its records, into any row that has room, and the bytes are those at the row's front
pub record Wrote (m : W.Message Addr) (bytes : List ℕ) : Type 0 where
  pub action : Action
  pub records : List Gossip
  pub says : to_action action ≡ m.action
  pub holds : map to_gossip records ≡ m.gossip
  -- the numbers are of 64 bits, as every number of a host's is
  pub wide : AllWide records
  pub row : List ℕ
  pub row' : List ℕ
  pub answer : Writing
  pub count : ℕ
  pub writes : Writes action records row answer row'
  pub whole : answer ≡ writing.Whole count
  pub bytes_are : bytes ≡ take count row'

-- bytes that the reader accepted: the action, and the records at the front of a row
pub record Read (bytes : List ℕ) (action : Action) (records : List Gossip) : Type 0 where
  pub row : List Gossip
  pub row' : List Gossip
  pub answer : Reading
  pub count : ℕ
  pub reads : Reads bytes row answer row'
  pub whole : answer ≡ reading.Whole action count
  pub records_are : records ≡ take count row'

-- what a message call brings was read off bytes of which no record on the topic is forged; every other call is free, and the wait record is the one that the last step left, or a fresh one
abbrev pub BringsBytes : Topic → Call Addr → List (List ℕ) → Type 0
BringsBytes k (Add a n ds) wire = Unit {0}
BringsBytes k (Receive act gs ds lent) wire =
    (bytes : List ℕ) × (action : Action) × (records : List Gossip)
    × Read bytes action records × (to_action action ≡ act) × (map to_gossip records ≡ gs)
    × InGossip k (SaidBy k wire) (said_by bytes)
BringsBytes k (Step tick ds lent) wire = Unit {0}
BringsBytes k (Timer tick lent) wire = Unit {0}
BringsBytes k (Lends wait) wire = wait.state ≡ W.SendingPing

-- The programs' calls and what their hosts wrote, one after the other: where each controller is, what was read off the answers, and the datagrams on the wire
pub data Wires (k : Topic) (first : ℕ → Seat) : List (Turn Addr) → (ℕ → Seat) → List (W.Message Addr) → List (List ℕ) → Type 0 where
  rests : Wires k first [] first [] []
  makes : {h : List (Turn Addr)} {seats : ℕ → Seat} {ms : List (W.Message Addr)} {wire : List (List ℕ)} → Wires k first h seats ms wire
      → (j : ℕ) (gossip events : List Gossip) (c : Call Addr) (s : Said) (after : Held) → BringsBytes k c wire → Made (lending (seats j) gossip events) c s after
      → Wires k first (record { who = j; call = c } ∷ h) (λ i. pick (eqb j i) (seat_of after) (seats i)) (mail s after ++ ms) wire
  writes : {h : List (Turn Addr)} {seats : ℕ → Seat} {ms : List (W.Message Addr)} {wire : List (List ℕ)} → Wires k first h seats ms wire
      → (bytes : List ℕ) → Among (λ m. Wrote m bytes) ms → Wires k first h seats ms (bytes ∷ wire)
