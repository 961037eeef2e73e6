-- How many draws a message may take: one for each record, and one for the sender of a Ping, that can come in; a full list has no room, so each second one has to be a death first.
-- Assumes nothing.
use Rattle.std.specs.Prelude.{◌≡◌, Bool, true, false}
use Rattle.std.proofs.Math.Path.{refl}
use mathlib.Core.List.{List, [], ◌∷◌, ◌++◌}
use Prim.Native.Nat.{ℕ, suc, ◌+◌, ◌-◌, ◌≤◌, ◌<◌}
use Rattle.std.proofs.Common.{arith, zero-add, suc-add, leb-false}
use Rattle.std.proofs.Math.Nat.{add-zero}
use Rattle.std.proofs.Math.ListN.{length, length-append}
use Rattle.model.specs.declared.State.TheVariants.{Alive, Suspected}
use Rattle.model.specs.declared.Kind.{Kind}
use Rattle.model.specs.declared.Kind.TheVariants as kind
use Rattle.model.specs.declared.Refusal.TheVariants.{NumberEnd, ListFull}
use Rattle.model.specs.Rows.{pick}
use Rattle.model.specs.Answers.{Answer, done, draw, full_of, number_of}
use Rattle.model.specs.Words.{Address, Member, Event, Gossip, Action, Ping, PingReq, Ack}
use Rattle.model.specs.Members.{Members, strike, put, held_state, merged, added, add, remove, update}
use Rattle.model.specs.Node.{Node, Out, Effect, with_lists, quiet, and_more, pushed, emit}
use Rattle.model.specs.Handler.{Verdict, Skip, Unknown, Equal, Low, AtEnd, Refute, Enter, Raise, Recover, Suspect, Bury, News, Silent, Emits, list_after, row_after, news_of, tell, act, item, gossip, admit, handle}
use Rattle.supply.specs.Supplied.{Supplied, stops, goes}
use Rattle.supply.proofs.Supplied.{supplied_map, supplied_then, supplied_when}
use Rattle.supply.specs.Entries.{comers, entry_draws}

-- never more than 64, whatever the message and the list
pub entry_draws-most : (k n : ℕ) → k ≤ 65 → entry_draws k n ≤ 64
unfolding entry_draws
entry_draws-most k n h = omega arith

-- and never more than there are comers
pub entry_draws-each : (k n : ℕ) → entry_draws k n ≤ k
unfolding entry_draws
entry_draws-each k n = omega arith

-- one less to come: the list is as long as it was, or one shorter, and no draw was taken
pass_one : (k n n' l : ℕ) → n ≤ suc n' → entry_draws (suc k) n ≤ l → entry_draws k n' ≤ l
unfolding entry_draws
pass_one k n n' l h e = omega arith

-- one came in: the list is one longer, and one draw was taken
come_one : (k n l : ℕ) → n < 64 → entry_draws (suc k) n ≤ suc l → entry_draws k (suc n) ≤ l
unfolding entry_draws
come_one k n l h e = omega arith

-- where there is room, there is a draw
some-draw : (k n : ℕ) → n < 64 → 1 ≤ entry_draws (suc k) n
unfolding entry_draws
some-draw k n h = omega arith

module _ {A : Type 0} (same : A → A → Bool) where
  pub strike_shorter : (a : A) (t : List (Member A)) → length t ≤ suc (length (strike same a t))
  strike_shorter a [] = omega arith
  strike_shorter a (m ∷ t) =
      elim (same a m.addr) as (λ u. suc (length t) ≤ suc (length (pick u t (m ∷ strike same a t)))) [
        | true ↦ omega arith
        | false ↦ omega (arith, strike_shorter a t)
      ]

  pub put-length : (m : Member A) (t : List (Member A)) → length (put same m t) ≡ length t
  put-length m [] = refl
  put-length m (k ∷ t) =
      elim (same m.addr k.addr) as (λ u. length (pick u (m ∷ t) (k ∷ put same m t)) ≡ suc (length t)) [
        | true ↦ refl
        | false ↦ omega (arith, put-length m t)
      ]

  pub update-length : (m : Member A) (r : Members A) → length (update same m r).table ≡ length r.table
  unfolding update
  update-length m r = put-length (merged same m r.table) r.table

module _ {A : Type 0} (address : Address A) where
  -- there are draws for k more
  abbrev Stock : ℕ → Members A → List ℕ → Type 0
  Stock k m ds = entry_draws k (length m.table) ≤ length ds

  draw-one : (k : ℕ) (a : A) (n : ℕ) (m : Members A) (ds : List ℕ) → length m.table < 64 → Stock (suc k) m ds
      → Supplied (Stock k) (draw ds λ d rest. done (added address.same a n d m) rest)
  unfolding added
  draw-one k a n m [] l h = absurd (omega (arith, some-draw k (length m.table) l))
  draw-one k a n m (d ∷ ds) l h =
      let t : Member A = record { addr = a; state = Alive; number = n } in
      let e : length (m.table ++ (t ∷ [])) ≡ suc (length m.table) = omega (arith, length-append m.table (t ∷ [])) in
      goes {b = added address.same a n d m} {ds = ds} (rw e (come_one k (length m.table) (length ds) l h))

  pub add_supplied : (k : ℕ) (a : A) (n : ℕ) (m : Members A) (ds : List ℕ) → Stock (suc k) m ds → Supplied (Stock k) (add address.same a n m ds)
  unfolding add
  add_supplied k a n m ds h = supplied_when (λ _. stops {r = ListFull} (λ e. omega (arith, e))) (λ e. draw-one k a n m ds (leb-false 64 (length m.table) e) h)

  same_list : (k : ℕ) (m m' : Members A) (ds : List ℕ) → length m'.table ≡ length m.table → Stock (suc k) m ds → Stock k m' ds
  same_list k m m' ds e h = pass_one k (length m.table) (length m'.table) (length ds) (omega arith) h

  updated : (k : ℕ) (u : Member A) (m : Members A) (ds : List ℕ) → Stock (suc k) m ds → Supplied (Stock k) (done (update address.same u m) ds)
  updated k u m ds h = goes (same_list k m (update address.same u m) ds (update-length address.same u m) h)

  list_supplied : (k : ℕ) (v : Verdict A) (m : Members A) (ds : List ℕ) → Stock (suc k) m ds → Supplied (Stock k) (list_after address v m ds)
  unfolding list_after remove
  list_supplied k Skip m ds h = goes (same_list k m m ds refl h)
  list_supplied k Unknown m ds h = goes (same_list k m m ds refl h)
  list_supplied k Equal m ds h = goes (same_list k m m ds refl h)
  list_supplied k Low m ds h = goes (same_list k m m ds refl h)
  list_supplied k AtEnd m ds h = stops {r = NumberEnd} (λ e. omega (arith, e))
  list_supplied k (Refute n) m ds h = goes (same_list k m m ds refl h)
  list_supplied k (Enter a n) m ds h = add_supplied k a n m ds h
  list_supplied k (Raise a n) m ds h = updated k (record { addr = a; state = held_state address.same a m.table; number = n }) m ds h
  list_supplied k (Recover a n) m ds h = updated k (record { addr = a; state = Alive; number = n }) m ds h
  list_supplied k (Suspect a n) m ds h = updated k (record { addr = a; state = Suspected; number = n }) m ds h
  list_supplied k (Bury a n) m ds h = goes (pass_one k (length m.table) (length (strike address.same a m.table)) (length ds) (strike_shorter address.same a m.table) h)

  full_other : (k : Kind) → number_of (full_of k) ≡ 8 → ⊥
  full_other kind.Alive e = omega (arith, e)
  full_other kind.Deceased e = omega (arith, e)

  -- a push takes no draw
  pub emit_supplied : (k : Kind) (g : Gossip A) (s : Node A) (ds : List ℕ) → Supplied (λ o rest. (o.node.members ≡ s.members) × (o.node.settings ≡ s.settings) × (rest ≡ ds)) (emit address k g s ds)
  unfolding emit pushed
  emit_supplied k g s ds = supplied_then {P = λ _ rest. rest ≡ ds} (supplied_when (λ _. stops (full_other k)) (λ _. goes refl)) (λ d rest e. goes (refl, refl, e))

  abbrev Stocked : ℕ → Answer (Out A) → Type 0
  Stocked k x = Supplied (λ o rest. Stock k o.node.members rest) x

  quiet_supplied : (k : ℕ) (s : Node A) (ds : List ℕ) → Stock k s.members ds → Stocked k (quiet s ds)
  unfolding quiet
  quiet_supplied k s ds h = goes h

  tell_supplied : (k : ℕ) (n : News A) (s : Node A) (ds : List ℕ) → Stock k s.members ds → Stocked k (tell address n s ds)
  tell_supplied k Silent s ds h = quiet_supplied k s ds h
  tell_supplied k (Emits q e) s ds h = supplied_map (λ o rest p. rw (p.0, p.2) h) (emit_supplied q (record { event = e }) s ds)

  act_supplied : (k : ℕ) (v : Verdict A) (s : Node A) (ds : List ℕ) → Stock (suc k) s.members ds → Stocked k (act address v s ds)
  unfolding act
  act_supplied k v s ds h =
      supplied_then (list_supplied k v s.members ds h)
      (λ m rest p. tell_supplied k (news_of address v s.own) (with_lists s m (row_after address v s.members.table s.departed)) rest p)

  item_supplied : (k : ℕ) (e : Event A) (s : Node A) (ds : List ℕ) → Stock (suc k) s.members ds → Stocked k (item address e s ds)
  unfolding item
  item_supplied k e s ds h = act_supplied k _ s ds h

  admit_supplied : (k : ℕ) (a : A) (s : Node A) (ds : List ℕ) → Stock (suc k) s.members ds → Stocked k (admit address a s ds)
  unfolding admit
  admit_supplied k a s ds h = act_supplied k _ s ds h

  more_supplied : (j k : ℕ) (x : Answer (Out A)) (f : Node A → List ℕ → Answer (Out A)) → Stocked j x
      → ((s : Node A) (ds : List ℕ) → Stock j s.members ds → Stocked k (f s ds)) → Stocked k (and_more x f)
  unfolding and_more
  more_supplied j k x f h g = supplied_then h (λ o rest p. supplied_then (g o.node rest p) (λ q rest₂ c. goes c))

  -- records, with k more comers behind them
  gossip_supplied : (k : ℕ) (gs : List (Gossip A)) (s : Node A) (ds : List ℕ) → Stock (length gs + k) s.members ds → Stocked k (gossip address gs s ds)
  gossip_supplied k [] s ds h = quiet_supplied k s ds (rw zero-add at h)
  gossip_supplied k (g ∷ gs) s ds h =
      more_supplied (length gs + k) k (item address g.event s ds) (gossip address gs) (item_supplied (length gs + k) g.event s ds (rw suc-add at h)) (gossip_supplied k gs)

  pub handle_supplied : (action : Action A) (gs : List (Gossip A)) (s : Node A) (ds : List ℕ) → Stock (comers action (length gs)) s.members ds
      → Supplied (λ (_ : Effect A) _. Unit {0}) (handle address action gs s ds)
  unfolding handle
  handle_supplied (Ping from by) gs s ds h =
      supplied_then (more_supplied 1 0 (gossip address gs s ds) (admit address from) (gossip_supplied 1 gs s ds h) (admit_supplied 0 from)) (λ o rest p. goes tt)
  handle_supplied (PingReq from suspect) gs s ds h = supplied_then (gossip_supplied 0 gs s ds (rw add-zero h)) (λ o rest p. goes tt)
  handle_supplied (Ack from to) gs s ds h = supplied_then (gossip_supplied 0 gs s ds (rw add-zero h)) (λ o rest p. goes tt)
