-- 2n − 1 is sharp: with n = 2 peers there are draws with which 2n − 2 pings leave one out. The own address is 1, the peers are 2 and 3; 3 was just passed.
-- Assumes nothing.
use Rattle.std.specs.Prelude.{◌≡◌, refl, List, [], ◌∷◌, ℕ, eqb}
use Rattle.std.proofs.Math.Option.{none}
use Rattle.model.specs.declared.State.TheVariants.{Alive}
use Rattle.model.specs.Rows.{swap}
use Rattle.model.specs.Answers.{Answer, done, when}
use Rattle.model.specs.Words.{Member}
use Rattle.model.specs.Members.{Members, Picked, shuffle, advance, seek, pick_from}

abbrev listed : ℕ → Member ℕ
listed a = record { addr = a; state = Alive; number = 0 }

abbrev ring : List ℕ → ℕ → Members ℕ
ring order position = record { table = listed 1 ∷ listed 2 ∷ listed 3 ∷ []; order = order; position = position }

abbrev picks_two : List ℕ → ℕ → List ℕ → Answer (Picked ℕ)
picks_two order position rest = done (record { picks = 2 ∷ []; members = ring order position }) rest

-- the first ping ends the round, and the shuffle puts 2 in front again
pub first_ping : pick_from eqb 0 1 none 1 (ring (3 ∷ 1 ∷ 2 ∷ []) 2) (0 ∷ 1 ∷ []) ≡ picks_two (2 ∷ 1 ∷ 3 ∷ []) 0 []
unfolding pick_from seek advance shuffle when swap
first_ping = refl

-- so the second pings 2 as well, and 3 is left out
pub second_ping : pick_from eqb 0 1 none 1 (ring (2 ∷ 1 ∷ 3 ∷ []) 0) [] ≡ picks_two (2 ∷ 1 ∷ 3 ∷ []) 1 []
unfolding pick_from seek advance shuffle when swap
second_ping = refl
