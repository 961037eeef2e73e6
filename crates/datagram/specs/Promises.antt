-- What reading and writing a datagram promise, for every input: the answer, and every place of the lent row.
-- Assumes nothing.
use Rattle.std.specs.Prelude.{◌≡◌, List, ◌++◌, ℕ, length, drop}
use Rattle.model.specs.declared.Refusal.TheVariants as refusal
use Rattle.model.specs.Answers.{number_of}
use Rattle.types.specs.declared.Action.{Action}
use Rattle.types.specs.declared.Gossip.{Gossip}
use Rattle.incoming.specs.declared.Reading.{Reading}
use Rattle.incoming.specs.declared.Reading.TheVariants as reading
use Rattle.incoming.specs.Datagram.{reading_of, records_of}
use Rattle.incoming.specs.Encode.{encode}
use Rattle.outgoing.specs.declared.Writing.{Writing}
use Rattle.outgoing.specs.declared.Writing.TheVariants as writing
use Rattle.outgoing.specs.Outgoing.{writing_of, row_after}

-- the answer, and the row: the records at its front, and behind them what was lent; refused, there are none
pub record Reads (bytes : List ℕ) (lent : List Gossip) (r : Reading) (lent' : List Gossip) : Type 0 where
  pub answer : r ≡ reading_of bytes (length lent)
  pub row : lent' ≡ records_of bytes (length lent) ++ drop (length (records_of bytes (length lent))) lent

-- the answer, and the row: the encoding at its front, and behind it what was lent; refused, it is as lent
pub record Writes (action : Action) (records : List Gossip) (out : List ℕ) (r : Writing) (out' : List ℕ) : Type 0 where
  pub answer : r ≡ writing_of action records out
  pub row : out' ≡ row_after (writing_of action records out) (encode action records) out

-- the number of an answer in the table of refusals; 0 is no refusal
abbrev pub reading_number : Reading → ℕ
reading_number (reading.Whole action count) = 0
reading_number (reading.Malformed place) = number_of refusal.Malformed
reading_number (reading.Refused x) = number_of x

abbrev pub writing_number : Writing → ℕ
writing_number (writing.Whole count) = 0
writing_number (writing.Refused x) = number_of x
