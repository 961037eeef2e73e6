-- What reading without a row promises: where something is told, it is what the datagram says, and there are no records.
-- Assumes nothing.
use Rattle.std.specs.Prelude.{◌≡◌, false, List, [], ℕ}
use Rattle.fields.specs.Walk.{read, walk}
use Rattle.iptext.specs.declared.Text.{Text}
use Rattle.events.specs.declared.TextField.{TextField}
use Rattle.events.specs.declared.TextField.TheVariants as text
use Rattle.actions.specs.declared.Piece.TheVariants as piece
use Rattle.actions.specs.Action.{Acting, silent, put, action_step}
use Rattle.incoming.specs.declared.Decoded.{Decoded}
use Rattle.incoming.specs.declared.Texts.{Texts}
use Rattle.incoming.specs.declared.Texts.TheVariants as texts
use Rattle.incoming.specs.declared.Brief.{Brief}
use Rattle.incoming.specs.declared.Brief.TheVariants as brief
use Rattle.incoming.specs.Datagram.{decode}

-- a text that is told is the other address of the action, and its last field
pub record Ends (bytes : List ℕ) (r : TextField) : Type 0 where
  pub says : (t : Text) → r ≡ text.Read t → (place : ℕ) (a : Acting) → read (put a (piece.Other t)) ≡ walk action_step place bytes a

-- two addresses and no gossip
abbrev pub spoken : Text → Text → Acting
spoken from other = record { from = from; other = other; bad = false; gossip = [] }

-- two texts that are told are all that the action says
pub record Pairs (bytes : List ℕ) (r : Texts) : Type 0 where
  pub says : (from other : Text) → r ≡ texts.Both from other → (place : ℕ) → read (spoken from other) ≡ walk action_step place bytes silent

-- what is told is what the datagram says, and there are no records
pub record Briefly (bytes : List ℕ) (r : Brief) : Type 0 where
  pub says : (d : Decoded) → r ≡ brief.Told d → decode bytes ≡ record { answer = d; gossip = [] }
