-- The fields of an action: texts 1 and 2 are addresses, each field 3 is one more gossip, others are passed over.
-- Assumes nothing.
use Rattle.std.specs.Prelude.{◌≡◌, Bool, true, false, List, [], ◌∷◌, ◌++◌, ℕ, ◌+◌, min, eqb, length, take}
use Rattle.model.specs.Rows.{pick}
use Rattle.types.specs.declared.Gossip.{Gossip}
use Rattle.types.specs.Views.{no_gossip}
use Rattle.fields.specs.declared.Field.{Field}
use Rattle.fields.specs.declared.Next.{Next}
use Rattle.fields.specs.declared.Next.TheVariants.{Stopped, Found}
use Rattle.fields.specs.Field.{content, next_in}
use Rattle.fields.specs.Walk.{Read, stopped, read, and_then, Step, walk}
use Rattle.iptext.specs.declared.Text.{Text}
use Rattle.iptext.specs.declared.Text.TheVariants.{Empty}
use Rattle.events.specs.Event.{text_at, put_text}
use Rattle.gossips.specs.declared.Settled.TheVariants.{Missing, Whole}
use Rattle.gossips.specs.Gossip.{unheld, gossip_step, settled}
use Rattle.actions.specs.declared.Small.{Small}
use Rattle.actions.specs.declared.Piece.{Piece}
use Rattle.actions.specs.declared.Piece.TheVariants.{Unknown, From, Other, News}
use Rattle.actions.specs.declared.PieceRead.{PieceRead}
use Rattle.actions.specs.declared.PieceRead.TheVariants as piece
use Rattle.actions.specs.declared.FirstRead.{FirstRead}
use Rattle.actions.specs.declared.FirstRead.TheVariants as first
use Rattle.actions.specs.declared.Turn.{Turn}
use Rattle.actions.specs.declared.Acted.{Acted}

-- what the fields say: both texts, the gossip in order, and whether one of them lacks an address or has one that is not canonical
pub record Acting : Type 0 where
  pub from : Text
  pub other : Text
  pub bad : Bool
  pub gossip : List Gossip

-- nothing is said yet
abbrev pub silent : Acting
silent = record { from = Empty; other = Empty; bad = false; gossip = [] }

-- what one field says
unfoldable pub piece_at : ℕ → List ℕ → Field → Read Piece
piece_at place bytes f =
    pick (eqb f.number 1) (put_text place (text_at bytes f) From)
    (pick (eqb f.number 2) (put_text place (text_at bytes f) Other)
    (pick (eqb f.number 3)
    (pick (eqb f.wire 2) (and_then (walk gossip_step (place + f.head) (content bytes f) unheld) (λ h. read (News (settled h)))) (stopped place))
    (read Unknown)))

-- the last of a repeated text counts, and each gossip is one more
unfoldable pub put : Acting → Piece → Acting
put a Unknown = a
put a (From t) = record { from = t; other = a.other; bad = a.bad; gossip = a.gossip }
put a (Other t) = record { from = a.from; other = t; bad = a.bad; gossip = a.gossip }
put a (News Missing) = record { from = a.from; other = a.other; bad = true; gossip = a.gossip ++ (no_gossip ∷ []) }
put a (News (Whole g)) = record { from = a.from; other = a.other; bad = a.bad; gossip = a.gossip ++ (g ∷ []) }

-- a field is read, and put to what was said
unfoldable pub action_step : Step Acting
action_step a place bytes f = and_then (piece_at place bytes f) (λ p. read (put a p))

abbrev pub as_piece : Read Piece → PieceRead
as_piece (stopped place) = piece.Stopped place
as_piece (read p) = piece.Read p

-- the first field of some bytes: what it says, and its size
abbrev pub piece_sized : Field → Read Piece → FirstRead
piece_sized f (stopped place) = first.Stopped place
piece_sized f (read p) = first.Read p f.size

abbrev pub first_piece_in : ℕ → List ℕ → Next → FirstRead
first_piece_in place bytes Stopped = first.Stopped place
first_piece_in place bytes (Found f) = piece_sized f (piece_at place bytes f)

unfoldable pub first_piece : ℕ → List ℕ → FirstRead
first_piece place bytes = first_piece_in place bytes (next_in bytes)

-- the same on a row of 65 places, of which the first 64 are kept, and a count that ends at 65
abbrev pub unmoved_of : Small → Turn
unmoved_of s = record { small = s; slot = 64; gossip = no_gossip }

unfoldable pub turn_of : Small → Piece → Turn
turn_of s Unknown = unmoved_of s
turn_of s (From t) = unmoved_of (record { from = t; other = s.other; bad = s.bad; count = s.count })
turn_of s (Other t) = unmoved_of (record { from = s.from; other = t; bad = s.bad; count = s.count })
turn_of s (News Missing) =
    record { small = record { from = s.from; other = s.other; bad = true; count = min s.count 64 + 1 }; slot = min s.count 64; gossip = no_gossip }
turn_of s (News (Whole g)) =
    record { small = record { from = s.from; other = s.other; bad = s.bad; count = min s.count 64 + 1 }; slot = min s.count 64; gossip = g }

-- a row shows what is said
pub record Shows (a : Acting) (s : Small) (row : List Gossip) : Type 0 where
  pub from : s.from ≡ a.from
  pub other : s.other ≡ a.other
  pub bad : s.bad ≡ a.bad
  pub count : s.count ≡ min (length a.gossip) 65
  pub kept : take (min s.count 64) row ≡ take 64 a.gossip

-- what merging into what is shown gives
unfoldable pub Given : Read Acting → Acted → Type 0
Given (stopped place) r = (r.stopped ≡ true) × (r.place ≡ place)
Given (read a) r = (r.stopped ≡ false) × Shows a r.small r.row

pub record Acts (place : ℕ) (bytes : List ℕ) (s : Small) (row : List Gossip) (r : Acted) : Type 0 where
  pub acts : (a : Acting) → Shows a s row → Given (walk action_step place bytes a) r
