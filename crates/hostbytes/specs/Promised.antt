-- What each call for bytes promises over words: the words are read, the rules' call is made, and what it gives is written.
-- Assumes nothing.
use Rattle.std.specs.Prelude.{◌≡◌, List, [], ◌∷◌, ◌++◌, map, ℕ, ◌+◌, ◌*◌, length, drop, ltb}
use Rattle.model.specs.Answers.{number_of}
use Rattle.model.specs.Rows.{pick}
use Rattle.types.specs.declared.Action.{Action}
use Rattle.types.specs.declared.Gossip.{Gossip}
use Rattle.node.specs.declared.Node.{Node}
use Rattle.saving.specs.declared.Saving.{Saving}
use Rattle.saving.specs.declared.Saving.TheVariants as saving
use Rattle.saving.specs.declared.Restored.{Restored}
use Rattle.saving.specs.Views.{save_of}
use Rattle.saving.specs.Views as saves
use Rattle.salvage.specs.declared.Said.{Said}
use Rattle.salvage.specs.declared.Word.{Word}
use Rattle.salvage.specs.declared.Word.TheVariants as word
use Rattle.salvage.specs.declared.Ends.{Ends}
use Rattle.salvage.specs.declared.Ends.TheVariants as ends
use Rattle.salvage.specs.declared.Salvaged.{Salvaged}
use Rattle.salvage.specs.Views.{salvage_of}
use Rattle.salvage.specs.Views as salvages
use Rattle.incoming.specs.declared.Reading.{Reading}
use Rattle.incoming.specs.declared.Reading.TheVariants as reading
use Rattle.incoming.specs.Datagram.{reading_of, records_of}
use Rattle.incoming.specs.Encode.{encode}
use Rattle.outgoing.specs.declared.Writing.{Writing}
use Rattle.outgoing.specs.declared.Writing.TheVariants as writing
use Rattle.outgoing.specs.Outgoing.{writing_of, row_after}
use Rattle.cwords.specs.Reading.{Rows, wait_of}
use Rattle.cwords.specs.Writing.{gossip_words, action_words, wait_words, code_of}
use Rattle.cwords.specs.Leaving.{kept, Leaves}

-- saving: 0 and how many bytes, or the number of a refusal and 0
abbrev pub saving_code : Saving → ℕ
saving_code (saving.Whole n) = 0
saving_code (saving.Refused r) = number_of r

abbrev pub saving_count : Saving → List ℕ
saving_count (saving.Whole n) = n ∷ []
saving_count (saving.Refused r) = 0 ∷ []

pub record Saves (node : Node) (out : List ℕ) (code : ℕ) (out' count' : List ℕ) : Type 0 where
  pub coded : code ≡ saving_code (saves.ending_of (save_of node out).ends)
  pub written : out' ≡ (save_of node out).row
  pub counted : count' ≡ saving_count (saves.ending_of (save_of node out).ends)

-- restoring
pub record Restores (d : Restored) (before : Rows) (wait : List ℕ) (code : ℕ) (after : Rows) (wait' : List ℕ) : Type 0 where
  pub coded : code ≡ code_of d.answer.reply
  pub node : Leaves d.answer.reply d.answer.node before after
  pub waits : wait' ≡ kept d.answer.reply (wait_words d.wait) wait
  pub waits_again : wait_of wait' ≡ kept d.answer.reply d.wait (wait_of wait)

-- salvage: a word for each place, and the counts
abbrev pub word_number : Word → ℕ
word_number word.Cut = 0
word_number word.Address = 1
word_number word.State = 2
word_number word.Repeat = 3
word_number word.Kept = 4

unfoldable pub said_word : Said → ℕ
said_word s = word_number s.word

abbrev pub ends_code : Ends → ℕ
ends_code (ends.Whole n) = 0
ends_code (ends.Refused r) = number_of r

abbrev pub ends_said : Ends → Salvaged → List ℕ → List ℕ
ends_said (ends.Whole n) d said = map said_word d.words
ends_said (ends.Refused r) d said = said

abbrev pub ends_counts : Ends → Salvaged → List ℕ
ends_counts (ends.Whole n) d = n ∷ d.count ∷ d.places ∷ []
ends_counts (ends.Refused r) d = 0 ∷ 0 ∷ 0 ∷ []

abbrev pub salvaged_of : List ℕ → List ℕ → Salvaged
salvaged_of bytes out = salvages.ending_of (salvage_of bytes out).ends

pub record Salvages (bytes out said : List ℕ) (code : ℕ) (out' said' counts' : List ℕ) : Type 0 where
  pub coded : code ≡ ends_code (salvaged_of bytes out).ends
  pub written : out' ≡ (salvage_of bytes out).row
  pub told : said' ≡ ends_said (salvaged_of bytes out).ends (salvaged_of bytes out) said
  pub counted : counts' ≡ ends_counts (salvaged_of bytes out).ends (salvaged_of bytes out)

-- a datagram, read: 0 with its action and how many records, or 11 with where, or the number of another refusal
abbrev pub place_word : ℕ → ℕ
place_word p = pick (ltb p 4294967296) (p + 1) 0

abbrev pub reading_code : Reading → ℕ
reading_code (reading.Whole a n) = 0
reading_code (reading.Malformed p) = 11 + 256 * place_word p
reading_code (reading.Refused r) = number_of r

abbrev pub reading_action : Reading → List ℕ → List ℕ
reading_action (reading.Whole a n) action = action_words a
reading_action (reading.Malformed p) action = action
reading_action (reading.Refused r) action = action

abbrev pub reading_count : Reading → List ℕ
reading_count (reading.Whole a n) = n ∷ []
reading_count (reading.Malformed p) = 0 ∷ []
reading_count (reading.Refused r) = 0 ∷ []

pub record Reads (bytes action : List ℕ) (lent : List (List ℕ)) (code : ℕ) (action' : List ℕ) (lent' : List (List ℕ)) (count' : List ℕ) : Type 0 where
  pub coded : code ≡ reading_code (reading_of bytes (length lent))
  pub said : action' ≡ reading_action (reading_of bytes (length lent)) action
  pub row : lent' ≡ map gossip_words (records_of bytes (length lent)) ++ drop (length (records_of bytes (length lent))) lent
  pub counted : count' ≡ reading_count (reading_of bytes (length lent))

-- and written
abbrev pub writing_code : Writing → ℕ
writing_code (writing.Whole n) = 0
writing_code (writing.Refused r) = number_of r

abbrev pub writing_count : Writing → List ℕ
writing_count (writing.Whole n) = n ∷ []
writing_count (writing.Refused r) = 0 ∷ []

pub record Writes (a : Action) (records : List Gossip) (out : List ℕ) (code : ℕ) (out' count' : List ℕ) : Type 0 where
  pub coded : code ≡ writing_code (writing_of a records out)
  pub written : out' ≡ row_after (writing_of a records out) (encode a records) out
  pub counted : count' ≡ writing_count (writing_of a records out)
