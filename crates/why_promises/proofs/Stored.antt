-- WHAT IS STORED BY `raised` AND `accepted`, in plain words: the address, its state and its number in the list after the record; of a death, that it is gone. For any type of address.
-- Assumes nothing.
use Rattle.std.specs.Prelude.{◌≡◌, Bool, false, List, [], ◌∷◌, ◌++◌, ℕ, max, ◌≤◌, get_or}
use Rattle.std.proofs.Math.Path.{ap}
use Rattle.std.proofs.Common.{◌∙◌, arith}
use Rattle.std.proofs.Math.Bool.{true}
use Rattle.std.proofs.Math.Option.{Option}
use Rattle.model.specs.declared.State.{State}
use Rattle.model.specs.declared.State.TheVariants as state
use Rattle.model.specs.Rows.{pick, has}
use Rattle.model.specs.Words.{Address, Lawful, Member, Event, Joined}
use Rattle.model.specs.Members as list
use Rattle.model.specs.Node.{Node, lists, numbered, state_of, leave}
use Rattle.std.proofs.lemmas.Bool.{not-false}
use Rattle.laws_node.specs.Good.{FullRows, sound_good}
use Rattle.address.specs.Here.{Addr, here, here_lawful}
use Rattle.types.specs.declared.Gossip.{Gossip}
use Rattle.types.specs.Views.{to_event}
use Rattle.disseminate.specs.declared.Found.{Found}
use Rattle.node.specs.declared.Node as kept
use Rattle.node.specs.Views.{stored_view}
use Rattle.swim.specs.Promises.{Explains}
use Rattle.swim.specs.Lookups.{handed}
use Rattle.laws_list.specs.Whole.{Whole, strike-addrs, addrs-append}
use Rattle.laws_list.specs.Held.{has-append, held_new, has-put, has-erase}
use Rattle.laws_list.specs.Updates.{updated_says}
use Rattle.promises.specs.Stops.{plus_one_or0}
use Rattle.why.specs.declared.Reason.{Reason}
use Rattle.why.specs.declared.Reason.TheVariants as reason
use Rattle.why.specs.declared.Grounds.{Grounds}
use Rattle.why.specs.declared.Grounds.TheVariants.{Because}
use Rattle.why_promises.specs.Conditions.{HighEnough, new-joined, higher_joined, higher_recovered, alive-suspected, other_suspected, no_lower-deceased, RaisedBy, greater, AsItCame, no_death, no_greater, IsRaised, raised-joined, IsAccepted, accepted_joined, accepted_recovered, accepted_suspected, accepted_deceased}
use Rattle.why_promises.specs.Explained.{reason_in, death_of}
use Rattle.why_promises.specs.Told.{deed_of}
use Rattle.why_promises.proofs.Told.{told_reason, told_explained}
use Rattle.why_promises.specs.Acts.{Deed, number_in, accepts, acting}
use Rattle.why_promises.specs.Stored.{Stands, Stores, joined_stores, recovered_stores, suspected_stores, deceased_strikes}

-- the number that a Joined is kept at
above : (d : Option ℕ) (n : ℕ) → RaisedBy d n → max (plus_one_or0 d) n ≡ plus_one_or0 d
above _ n (greater h) = omega (arith, h)

below : (d : Option ℕ) (n : ℕ) → AsItCame d n → max (plus_one_or0 d) n ≡ n
below _ n no_death = omega arith
below _ n (no_greater h) = omega (arith, h)

-- the state of one that comes in
state_new : {A : Type 0} (same : A → A → Bool) (a : A) (t : List (Member A)) (m : Member A) → has same a (list.addrs t) ≡ false → same a m.addr ≡ true → list.held_state same a (t ++ (m ∷ [])) ≡ m.state
state_new same a [] m e q = rw q
state_new same a (k ∷ t) m e q =
    (elim (same a k.addr) as (λ u. pick u true (has same a (list.addrs t)) ≡ false → pick u k.state (list.held_state same a (t ++ (m ∷ []))) ≡ m.state) [
      | true ↦ λ h. cc
      | false ↦ λ h. state_new same a t m h q
    ]) e

module _ {A : Type 0} (address : Address A) (lawful : Lawful address) (s : Node A) where
  -- a record that is replaced, at a number no lower than the held one
  kept-stands : (a : A) (st : State) (n : ℕ) → lists address a s ≡ true → numbered address a s ≤ n → Stands address a st n (list.update address.same (record { addr = a; state = st; number = n }) s.members).table
  unfolding list.update
  kept-stands a st n l h =
      let k : Member A = record { addr = a; state = st; number = n } in
      let says = updated_says address.same lawful.test k s.members l in
      record {
        listed = has-put address.same lawful.test a (list.merged address.same k s.members.table) s.members.table ∙ l;
        state = says.state;
        number = says.number ∙ omega (arith, h);
      }

  entered-stands : (a : A) (n d : ℕ) → lists address a s ≡ false → Stands address a state.Alive n (list.added address.same a n d s.members).table
  unfolding list.added
  entered-stands a n d l =
      let k : Member A = record { addr = a; state = state.Alive; number = n } in
      let r : address.same a a ≡ true = lawful.test.same_refl a in
      record {
        listed = ap (has address.same a) (addrs-append address.same s.members.table (k ∷ [])) ∙ has-append address.same a a (list.addrs s.members.table) ∙ rw (l, r);
        state = state_new address.same a s.members.table k l r;
        number = held_new address.same a s.members.table k l r;
      }

  struck_gone : (a : A) → Whole address.same s.members → lists address a s ≡ true → list.listed address.same a (list.remove address.same a s.members).table ≡ false
  unfolding list.remove
  struck_gone a w l =
      ap (has address.same a) (strike-addrs address.same lawful.test a s.members.table)
      ∙ has-erase address.same lawful.test a a (list.addrs s.members.table) (w.once a) l
      ∙ rw (lawful.test.same_refl a)

  module _ (w : Whole address.same s.members) (d : Option ℕ) (ds : List ℕ) where
    -- the list after a deed
    abbrev after : Deed A → List (Member A)
    after x = x.out.node.members.table

    -- a Joined that is kept at m
    joined-kept : (f a : A) (n m : ℕ) → max (plus_one_or0 d) n ≡ m → HighEnough address s.own s.members.table d (Joined f a n) → Stores address s m (after (accepts address (Joined f a n) m s ds)) (Joined f a n)
    joined-kept f a n m e (new-joined l) = joined_stores {a = a} (rw l (entered-stands a m (get_or ds 0 0) l))
    joined-kept f a n m e (higher_joined l h) = let q : numbered address a s ≤ m = omega (arith, h, e) in joined_stores {a = a} (rw l (kept-stands a (state_of address a s) m l q))

    -- by `raised` at D + 1
    pub raised-stored : (e : Event A) → IsRaised address s.own s.members.table d e → Stores address s (plus_one_or0 d) (after (acting address reason.Raised d e s ds)) e
    raised-stored _ (raised-joined {f = f} {a = a} {n = n} h b) = joined-kept f a n (plus_one_or0 d) (above d n b) h

    -- by `accepted` at the event's own number
    pub accepted_stored : (e : Event A) → IsAccepted address s.own s.members.table d e → Stores address s (number_in e) (after (acting address reason.Accepted d e s ds)) e
    unfolding leave
    accepted_stored _ (accepted_joined {f = f} {a = a} {n = n} h b) = joined-kept f a n n (below d n b) h
    accepted_stored _ (accepted_recovered (higher_recovered {a = a} {n = n} l h)) = recovered_stores (kept-stands a state.Alive n l (omega (arith, h)))
    accepted_stored _ (accepted_suspected (alive-suspected {a = a} {n = n} o l u h)) = suspected_stores (kept-stands a state.Suspected n l h)
    accepted_stored _ (accepted_suspected (other_suspected {a = a} {n = n} o l u h)) = suspected_stores (kept-stands a state.Suspected n l (omega (arith, h)))
    accepted_stored _ (accepted_deceased (no_lower-deceased {a = a} l h)) = deceased_strikes (struck_gone a w l)

-- ---- of the program: arrays have their lengths, so the rows of any node of a program are full
module _ (node : kept.Node) (draws : List ℕ) (g : Gossip) (w : Grounds) (met : Explains node draws g w) (full : FullRows (stored_view node)) (held number dead : Found) where
  abbrev event : Event Addr
  event = to_event g.event

  -- the list that the handler leaves by a reason
  abbrev left : Reason → List (Member Addr)
  left x = (deed_of node draws g x).out.node.members.table

  sound-whole : (x : Reason) → w ≡ Because x held number dead → Whole here.same (handed node).members
  sound-whole x e = (sound_good here here_lawful (stored_view node) full (not-false _ ((told_reason node draws g w met x).0 (ap reason_in e)).0.0)).whole

  pub told-raised : w ≡ Because reason.Raised held number dead → Stores here (handed node) (plus_one_or0 (death_of here event (handed node))) (left reason.Raised) event
  told-raised e = raised-stored here here_lawful (handed node) (sound-whole reason.Raised e) (death_of here event (handed node)) draws event (told_explained node draws g w met reason.Raised held number dead e).holds

  pub told_accepted : w ≡ Because reason.Accepted held number dead → Stores here (handed node) (number_in event) (left reason.Accepted) event
  told_accepted e = accepted_stored here here_lawful (handed node) (sound-whole reason.Accepted e) (death_of here event (handed node)) draws event (told_explained node draws g w met reason.Accepted held number dead e).holds
