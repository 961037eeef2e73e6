-- What the row is for: with remembering on, an address that is in the row comes in only above every number at which it was removed since it last came into the row.
-- Assumes nothing.
use Rattle.std.specs.Prelude.{◌≡◌, Bool, ℕ, ◌+◌, max}
use Rattle.std.proofs.Math.Path.{refl}
use Rattle.std.proofs.Common.{arith}
use Rattle.std.proofs.Math.Bool.{true, false}
use mathlib.Core.List.{List, [], ◌∷◌, ◌++◌}
use Rattle.std.proofs.Math.Option.{some}
use lib.Dec.{leb}
use Rattle.model.specs.Rows.{pick, every, has, Test}
use Rattle.model.specs.Words.{Address, Lawful, Departed}
use Rattle.model.specs.Departed.{gone, look_up}
use Rattle.model.specs.Node.{Stored}
use Rattle.history.specs.Beginnings.{Beginning, Gave}
use Rattle.history.specs.Moments.{Moment}
use Rattle.history.specs.Histories.{Call, trace, start}
use Rattle.remembering.specs.Removals.{removals, since}

-- no number of a list is above d
abbrev pub at_most : ℕ → List ℕ → Bool
at_most d ns = every (λ n. leb n d) ns

-- the greatest of numbers
abbrev pub most : List ℕ → ℕ
most [] = 0
most (n ∷ ns) = max n (most ns)

module _ {A : Type 0} (same : A → A → Bool) (test : Test same) (a : A) where
  -- a row that has the address
  pub there : (r : List (Departed A)) (n : ℕ) → look_up same a r ≡ some n → has same a (gone r) ≡ true
  unfolding look_up
  there [] n e = Rattle.laws.specs.Bools.none-some e
  there (d ∷ r) n e =
      (elim (same a d.addr) as (λ u. pick u (some d.number) (look_up same a r) ≡ some n → pick u true (has same a (gone r)) ≡ true) [
        | true ↦ λ h. refl
        | false ↦ λ h. there r n h
      ]) e

-- every number of a list is below k
abbrev pub all_below : ℕ → List ℕ → Bool
all_below k ns = every (λ n. lib.Dec.ltb n k) ns

-- of every history, at each of its moments: `ms` came before it
module _ {A : Type 0} (address : Address A) (lawful : Lawful address) (b : Beginning A) (tick : ℕ) (node : Stored A) (gave : Gave address b node) (h : List (Call A))
    (ms ns : List (Moment A)) (m : Moment A) (there : trace address h (start address b tick) ≡ ms ++ (m ∷ ns)) where
  -- the numbers at which an address was removed since it last came into the row
  abbrev pub removed_at : A → List ℕ
  removed_at a = since address.same a (removals address ms) [] []
