-- How many draws a pick may take: one shuffle, of one draw less than are listed; two where everybody who may be picked is wanted; none where nobody is.
-- Assumes nothing.
use Rattle.std.specs.Prelude.{Bool, eqb, leb}
use mathlib.Core.List.{List, []}
use Rattle.std.proofs.Math.Option.{Option}
use Prim.Native.Nat.{ℕ, ◌-◌, ◌*◌, min}
use native.Mathlib.Omega.{arith}
use Rattle.model.specs.Rows.{pick, count}
use Rattle.model.specs.Members.{passed}

-- the draws that a pick may take, by how many may be passed over, how many are wanted, and how many are listed
unfoldable pub pick_draws : ℕ → ℕ → ℕ → ℕ
pick_draws aside wanted n = pick (eqb (min wanted (n - aside)) 0) 0 (pick (leb (n - aside) wanted) (2 * (n - 1)) (n - 1))

module _ {A : Type 0} (same : A → A → Bool) (blank own : A) where
  -- how many of a list are passed over: on a whole list the own address and the excluded one at most
  abbrev pub aside : Option A → List A → ℕ
  aside e l = count (passed same blank own e) l
