-- Who answered is heard. Of a peer that a controller waits for: once its own Ack was taken in it is Alive, or absent, until a message tells a suspicion of it. So one that is found silent when the wait is over
-- has sent no Ack that was taken in since the wait began, or none since such a message.
-- Assumes nothing.
use Rattle.std.specs.Prelude.{◌≡◌, Bool, List}
use Rattle.std.proofs.Math.Bool.{true, false}
use Rattle.model.specs.Rows.{Test}
use Rattle.model.specs.Words.{is_alive, Member}
use Rattle.model.specs.Members.{Members, listed, held_state}
use Rattle.laws_list.specs.Whole.{Whole}

module _ {A : Type 0} (same : A → A → Bool) (test : Test same) (x : A) where
  -- silent, by the table
  abbrev pub Mutes : List (Member A) → Type 0
  Mutes t = (listed same x t ≡ true) × (is_alive (held_state same x t) ≡ false)

  -- a list that a rule leaves: silent in it is who was silent before
  pub record Back (m m' : Members A) : Type 0 where
    pub whole : Whole same m'
    pub back : Mutes m'.table → Mutes m.table
