-- "KEEP THE LARGER OF THE HELD AND THE GIVEN NUMBER, AND STILL TAKE THE GIVEN STATE", in these words, of an update at every use.
-- Assumes nothing.
use Rattle.std.specs.Prelude.{◌≡◌, true, false, max}
use Rattle.model.specs.Words.{Member}
use Rattle.model.specs.Members.{Members, listed, held, held_state, update}
use Rattle.laws_list.specs.Updates.{updated_says, updated_other}
use Rattle.address.specs.Here.{Addr, here, here_lawful}

module _ (m : Member Addr) (r : Members Addr) where
  pub larger_number : listed here.same m.addr r.table ≡ true
      → held here.same m.addr (update here.same m r).table ≡ max (held here.same m.addr r.table) m.number
  larger_number e = (updated_says here.same here_lawful.test m r e).number

  pub given_state : listed here.same m.addr r.table ≡ true → held_state here.same m.addr (update here.same m r).table ≡ m.state
  given_state e = (updated_says here.same here_lawful.test m r e).state

  -- and of no other address does it say anything
  pub others_stay : (b : Addr) → here.same b m.addr ≡ false
      → (held here.same b (update here.same m r).table ≡ held here.same b r.table) × (held_state here.same b (update here.same m r).table ≡ held_state here.same b r.table)
  others_stay b q = let s = updated_other here.same here_lawful.test m b r q in (s.number, s.state)
