-- EXACTLY. Saving and restoring give the number of a refusal exactly if its test is the first that fails; and each input has one result.
-- Assumes nothing.
use Rattle.std.specs.Prelude.{ℕ}
use Rattle.model.specs.Answers.{number_of}
use Rattle.saving.specs.declared.Saving.{Saving}
use Rattle.saving.specs.declared.Saving.TheVariants as saving

-- "Where an answer is an enum, there is a definition that gives this paper's number": 0 where bytes were written
abbrev pub saving_number : Saving → ℕ
saving_number (saving.Whole n) = 0
saving_number (saving.Refused r) = number_of r
