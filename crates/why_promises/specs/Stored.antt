-- WHAT IS STORED BY `raised` AND `accepted`, in plain words: the address, its state and its number in the list after the record; of a death, that it is gone. For any type of address.
-- Assumes nothing.
use Rattle.std.specs.Prelude.{◌≡◌, false, List, ℕ}
use Rattle.std.proofs.Math.Bool.{true}
use Rattle.model.specs.declared.State.{State}
use Rattle.model.specs.declared.State.TheVariants as state
use Rattle.model.specs.Rows.{pick}
use Rattle.model.specs.Words.{Address, Member, Event, Joined, Recovered, Suspected, Deceased}
use Rattle.model.specs.Members as list
use Rattle.model.specs.Node.{Node, lists, state_of}

module _ {A : Type 0} (address : Address A) where
  -- a list has an address, in a state and at a number
  pub record Stands (a : A) (st : State) (n : ℕ) (t : List (Member A)) : Type 0 where
    pub listed : list.listed address.same a t ≡ true
    pub state : list.held_state address.same a t ≡ st
    pub number : list.held address.same a t ≡ n

  -- What a list has after an event that was kept at a number: one that comes in is Alive, one that is raised keeps its state, the dead are gone
  pub data Stores (s : Node A) (n : ℕ) (t : List (Member A)) : Event A → Type 0 where
    joined_stores : {f a : A} {k : ℕ} → Stands a (pick (lists address a s) (state_of address a s) state.Alive) n t → Stores s n t (Joined f a k)
    recovered_stores : {f a : A} {k : ℕ} → Stands a state.Alive n t → Stores s n t (Recovered f a k)
    suspected_stores : {f a : A} {k : ℕ} → Stands a state.Suspected n t → Stores s n t (Suspected f a k)
    deceased_strikes : {f a : A} {k : ℕ} → list.listed address.same a t ≡ false → Stores s n t (Deceased f a k)
