-- What a timer call did that reported a death, or after which an address is no longer listed.
-- Assumes nothing.
use Rattle.std.specs.Prelude.{◌≡◌, false}
use Rattle.std.proofs.Math.Bool.{true}
use mathlib.Core.List.{List, [], ◌∷◌}
use Rattle.std.proofs.Math.Option.{some}
use Prim.Native.Nat.{ℕ, ◌≤◌}
use Rattle.model.specs.declared.Fate.{Fate}
use Rattle.model.specs.declared.Fate.TheVariants.{Leaves, Stays, Absent}
use Rattle.model.specs.Words.{Address, Lawful, Event, Nothing, Joined, Recovered, Suspected, Deceased, Gossip, Timer as Running}
use Rattle.model.specs.Members.{Members, remove}
use Rattle.model.specs.Node.{Stored, loaded, lists, numbered}
use Rattle.model.specs.Detector.{is_over, first_over}
use Rattle.model.specs.Calls.{Outcome}
use Rattle.laws_list.specs.Whole.{Whole}
use Rattle.history.specs.Tells.{At}
use Rattle.cabinet.specs.Cabinets.{Silent}

abbrev numbering : {A : Type 0} → Event A → ℕ
numbering Nothing = 0
numbering (Joined f x n) = n
numbering (Recovered f x n) = n
numbering (Suspected f x n) = n
numbering (Deceased f x n) = n

abbrev pub number : {A : Type 0} → List (Gossip A) → ℕ
number [] = 0
number (g ∷ gs) = numbering g.event

module _ {A : Type 0} (address : Address A) where
  -- whom the list after it has, by its fate
  abbrev pub MembersBy : Fate → Running A → Members A → Members A → Type 0
  MembersBy Leaves t m m' = m' ≡ remove address.same t.addr m
  MembersBy Stays t m m' = m' ≡ m
  MembersBy Absent t m m' = m' ≡ m

module _ {A : Type 0} (address : Address A) (lawful : Lawful address) where
  module _ (s : Stored A) (whole : Whole address.same (loaded s).members) (now : ℕ) where
    -- a timer for x at number n ended with a removal
    pub record EndedBy (o : Outcome A) (x : A) (n : ℕ) : Type 0 where
      pub started : ℕ
      pub place : ℕ
      pub first : first_over address s.settings.suspect_timeout now (loaded s).timers ≡ some place
      pub timer : At (loaded s).timers place (record { addr = x; number = n; since = started })
      pub over : is_over s.settings.suspect_timeout now started ≡ true
      pub silent : Silent address x (loaded s)
      pub number : numbered address x (loaded s) ≤ n
      pub gone : lists address x (loaded o.node) ≡ false
