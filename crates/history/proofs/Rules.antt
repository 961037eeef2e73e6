-- What each rule of the handler and the detector does to one address.
-- Assumes nothing.
use Rattle.std.specs.Prelude.{◌≡◌, Bool, ◌&&◌, List, [], ◌∷◌, ℕ, ◌≤◌, ◌<◌, max, length, leb}
use Rattle.std.proofs.Math.Path.{refl}
use Rattle.std.proofs.Common.{ap, ◌∙◌, arith}
use Rattle.std.proofs.Math.Bool.{true, false, not}
use Rattle.std.proofs.Math.Option.{Option}
use borrow.Author.Tests.{leb-false, le-leb, lt-leb}
use Rattle.model.specs.declared.Kind.{Kind}
use Rattle.model.specs.declared.Kind.TheVariants as kind
use Rattle.model.specs.declared.State.{State}
use Rattle.model.specs.declared.State.TheVariants as state
use Rattle.model.specs.declared.Fate.{Fate}
use Rattle.model.specs.Rows.{pick, remove_at}
use Rattle.model.specs.Answers.{done}
use Rattle.laws.specs.Bools.{and_join}
use Rattle.laws.specs.After.{After, halts, gives, after_map, after-when, after-draw, after_then}
use Rattle.model.specs.Words.{Address, Lawful, is_alive, Event, Nothing, Joined, Recovered, Suspected, Deceased, Gossip, Timer, parts_of}
use Rattle.model.specs.Members.{Members, added, add, update}
use Rattle.model.specs.Node.{Disseminator, Node, Out, with_members, with_disseminator, with_timers, quiet, pushed, emit, lists, numbered, state_of, held_death, change, leave}
use Rattle.model.specs.Handler.{Verdict, Enter, Raise, Recover, Suspect, Bury, Refute, Emits, list_after, row_after, news_of, act, item, admit, acked}
use Rattle.model.specs.Detector.{suspect, by_fate, timer_at, fate_at, end_at}
use Rattle.laws_rules.specs.Judged.{Judged, skipped, joined_at_end, joined_low, joined_raises, joined-enters, recovered_unknown, recovered_low, recovered_recovers, own-at_end, own_refutes, suspected_unknown, suspected_equal, suspected_low, suspected_suspects, deceased_unknown, deceased_low, deceased_buries, judged, SenderJudged, listed_already, sender_at_end, sender_enters, sender_judged, Fated, fated_leaves, fated_alive, fated_greater, fated_absent, fated}
use Rattle.laws_list.specs.Whole.{Whole}
use Rattle.history.specs.Moments.{Deed, Told, Sender, Added, Other, ended_deed}
use Rattle.history.specs.Ledger.{comes, goes, about, reported}
use Rattle.history.specs.Did.{Did}
use Rattle.history.proofs.Did.{stay, put_did, came_did, gone_did}
use Rattle.history.specs.Rules.{Runs}

pub never : {B : Type 0} → ◌≡◌ {A = Bool} false true → B
never e = let z : ◌≡◌ {A = ℕ} 0 1 = cc in absurd (omega arith)

and_false : (u : Bool) {v : Bool} → v ≡ false → (u && v) ≡ false
and_false true e = e
and_false false e = refl

module _ {A : Type 0} (address : Address A) (lawful : Lawful address) (a : A) where
  -- what an event says of the address, and of another
  said_at : (b : A) (n : ℕ) → address.same a b ≡ true → max (pick (address.same a b) n 0) 0 ≤ n
  said_at b n q = rw q (omega arith)

  said-off : (b : A) (n : ℕ) → address.same a b ≡ false → max (pick (address.same a b) n 0) 0 ≡ 0
  said-off b n q = rw q (omega arith)

  apart : (b : A) (s : Node A) → lists address b s ≡ true → lists address a s ≡ false → address.same a b ≡ false
  apart b s p q =
      (elim (address.same a b) as (λ u. address.same a b ≡ u → u ≡ false) [
        | true ↦ λ e. let z : lists address a s ≡ true = rw (lawful.test.same_eq a b e) p in cc
        | false ↦ λ e. refl
      ]) refl

  absent : (b : A) (s : Node A) → lists address b s ≡ false → lists address a s ≡ true → address.same a b ≡ false
  absent b s p q =
      (elim (address.same a b) as (λ u. address.same a b ≡ u → u ≡ false) [
        | true ↦ λ e. let z : lists address a s ≡ false = rw (lawful.test.same_eq a b e) p in cc
        | false ↦ λ e. refl
      ]) refl

  same_false : (x y : A) → address.same x y ≡ false → address.same y x ≡ false
  same_false x y p =
      (elim (address.same y x) as (λ u. address.same y x ≡ u → u ≡ false) [
        | true ↦ λ e. let z : address.same x y ≡ true = ap (address.same x) (lawful.test.same_eq y x e) ∙ lawful.test.same_refl x in cc
        | false ↦ λ e. refl
      ]) refl

  -- an emitted event changes a heap, and no fact here reads a heap
  emit_did : (k : Kind) (g : Gossip A) (s s' : Node A) (d : Deed A) (ds : List ℕ)
      → ((x : Disseminator A) (n : ℕ) → Did address a s d (record { node = with_disseminator s' x; said = g ∷ []; collected = n }))
      → (Runs address lawful a) s d (emit address k g s' ds)
  unfolding emit pushed
  emit_did k g s s' d ds f = after_then {P = λ _. Unit {0}} (after-when (λ _. halts) (λ _. gives tt)) (λ x rest _. gives (f x _))

  -- nothing done and nothing said
  idle : (s : Node A) (d : Deed A) (ds : List ℕ) → Whole address.same s.members → (lists address a s ≡ true → goes address a d s ≡ false)
      → (lists address a s ≡ false → comes address a d ≡ false) → (Runs address lawful a) s d (quiet s ds)
  unfolding quiet
  idle s d ds w g c = gives (stay address a lawful s d (record { node = s; said = []; collected = 0 }) w refl refl g c (λ _ _. omega arith))

  -- what `add` gives: the list with the address at some place
  pub add_gives : (b : A) (n : ℕ) (m : Members A) (ds : List ℕ)
      → After (λ r. (x : ℕ) × (r ≡ added address.same b n x m) × (length m.table < 64)) (add address.same b n m ds)
  unfolding add
  add_gives b n m ds = after-when (λ _. halts) (λ e. after-draw ds (λ x rest. gives (x, refl, leb-false 64 (length m.table) e)))

  -- Carrying out a verdict, by what it does to the list.
  -- an address comes in
  enter_did : (b : A) (n : ℕ) (s : Node A) (d : Deed A) (ds : List ℕ) → Whole address.same s.members → lists address b s ≡ false
      → goes address a d s ≡ false → comes address a d ≡ address.same a b → (Runs address lawful a) s d (act address (Enter b n) s ds)
  unfolding act list_after news_of
  enter_did b n s d ds w f g c =
      after_then (add_gives b n s.members ds)
      (λ r rest p. emit_did kind.Alive _ s _ d rest
      (λ x _. came_did address a lawful b n p.0 s d _ w p.1 refl f p.2 g c (said_at b n) (said-off b n)))

  -- a listed address is given a state and a number
  updated_did : (b : A) (n : ℕ) (st : State) (v : Verdict A) (e : Event A) (s : Node A) (d : Deed A) (ds : List ℕ)
      → list_after address v s.members ds ≡ done (update address.same (record { addr = b; state = st; number = n }) s.members) ds → news_of address v s.own ≡ Emits kind.Alive e
      → about address a e ≡ pick (address.same a b) n 0 → Whole address.same s.members
      → goes address a d s ≡ false → (lists address a s ≡ false → comes address a d ≡ false) → (Runs address lawful a) s d (act address v s ds)
  unfolding act
  updated_did b n st v e s d ds l u r w g c =
      rw (l, u)
      (emit_did kind.Alive _ s _ d ds
      (λ x _. put_did address a lawful (record { addr = b; state = st; number = n }) s.members s d _ w refl refl refl g c
      (λ q. rw r (said_at b n q))
      (λ q. rw r (said-off b n q))))

  -- a death that the rule takes is a departure of its address, and of no other: f says of an address whether the rule takes it
  departs : (b : A) (f : A → Bool) → f b ≡ true → (address.same a b && f a) ≡ address.same a b
  departs b f h =
      (elim (address.same a b) as (λ u. address.same a b ≡ u → (u && f a) ≡ u) [
        | true ↦ λ q. ap f (lawful.test.same_eq a b q) ∙ h
        | false ↦ λ q. refl
      ]) refl

  -- and one that it leaves is none: its address is another, or it does not take that one
  not_it : (b : A) (f : A → Bool) → address.same a b ≡ false → (address.same a b && f a) ≡ false
  not_it b f q = rw q refl

  spares : (b : A) (f : A → Bool) → f b ≡ false → (address.same a b && f a) ≡ false
  spares b f h =
      (elim (address.same a b) as (λ u. address.same a b ≡ u → (u && f a) ≡ false) [
        | true ↦ λ q. ap f (lawful.test.same_eq a b q) ∙ h
        | false ↦ λ q. refl
      ]) refl

  -- the rule takes an address by its number, and a timer by its state too
  abbrev reached : ℕ → Node A → A → Bool
  reached n s b = leb (numbered address b s) n

  abbrev timed_out : ℕ → Node A → A → Bool
  timed_out n s b = not (is_alive (state_of address b s)) && leb (numbered address b s) n

  -- a listed address is taken out
  bury_did : (f b : A) (n : ℕ) (s : Node A) (ds : List ℕ) → Whole address.same s.members → lists address b s ≡ true → numbered address b s ≤ n → (Runs address lawful a) s (Told (Deceased f b n)) (act address (Bury b n) s ds)
  unfolding act list_after news_of
  bury_did f b n s ds w l h =
      emit_did kind.Deceased _ s _ (Told (Deceased f b n)) ds
      (λ x _. gone_did address a lawful b s (Told (Deceased f b n)) _ w refl refl l (departs b (reached n s) (le-leb (numbered address b s) n h)) refl (said-off b n))

  -- the own address answers a suspicion
  refute_did : (f b : A) (n next : ℕ) (s : Node A) (ds : List ℕ) → Whole address.same s.members → (Runs address lawful a) s (Told (Suspected f b n)) (act address (Refute next) s ds)
  unfolding act list_after row_after news_of
  refute_did f b n next s ds w =
      emit_did kind.Alive _ s s (Told (Suspected f b n)) ds
      (λ x _. stay address a lawful s (Told (Suspected f b n)) _ w refl refl (λ _. refl) (λ _. refl)
      (λ q _. omega (arith, said-off s.own next (same_false s.own a q))))

  judged_did : (e : Event A) (v : Verdict A) (s : Node A) (x : Option ℕ) (ds : List ℕ) → Whole address.same s.members → Judged address s.own s.members.table x e v → (Runs address lawful a) s (Told e) (act address v s ds)
  unfolding list_after row_after news_of act
  judged_did _ _ s x ds w skipped = idle s (Told Nothing) ds w (λ _. refl) (λ _. refl)
  judged_did _ _ s x ds w (joined_at_end e) = halts
  judged_did _ _ s x ds w (joined_low {f = f} {a = b} {n = n} least e l h) = idle s (Told (Joined f b n)) ds w (λ _. refl) (apart b s l)
  judged_did _ _ s x ds w (joined_raises {f = f} {a = b} {n = n} least e l h) =
      updated_did b (max least n) (state_of address b s) (Raise b (max least n)) (Joined s.own b (max least n)) s (Told (Joined f b n)) ds refl refl refl w refl (apart b s l)
  judged_did _ _ s x ds w (joined-enters {f = f} {a = b} {n = n} least e l) = enter_did b (max least n) s (Told (Joined f b n)) ds w l refl refl
  judged_did _ _ s x ds w (recovered_unknown {f = f} {a = b} {n = n} l) = idle s (Told (Recovered f b n)) ds w (λ _. refl) (λ _. refl)
  judged_did _ _ s x ds w (recovered_low {f = f} {a = b} {n = n} l h) = idle s (Told (Recovered f b n)) ds w (λ _. refl) (λ _. refl)
  judged_did _ _ s x ds w (recovered_recovers {f = f} {a = b} {n = n} l h) =
      updated_did b n state.Alive (Recover b n) (Recovered s.own b n) s (Told (Recovered f b n)) ds refl refl refl w refl (λ _. refl)
  judged_did _ _ s x ds w (own-at_end o e) = halts
  judged_did _ _ s x ds w (own_refutes {f = f} {a = b} {n = n} next o e) = refute_did f b n next s ds w
  judged_did _ _ s x ds w (suspected_unknown {f = f} {a = b} {n = n} o l) = idle s (Told (Suspected f b n)) ds w (λ _. refl) (λ _. refl)
  judged_did _ _ s x ds w (suspected_equal {f = f} {a = b} {n = n} o l h e) = idle s (Told (Suspected f b n)) ds w (λ _. refl) (λ _. refl)
  judged_did _ _ s x ds w (suspected_low {f = f} {a = b} {n = n} o l h) = idle s (Told (Suspected f b n)) ds w (λ _. refl) (λ _. refl)
  judged_did _ _ s x ds w (suspected_suspects {f = f} {a = b} {n = n} o l h) =
      updated_did b n state.Suspected (Suspect b n) (Suspected s.own b n) s (Told (Suspected f b n)) ds refl refl refl w refl (λ _. refl)
  judged_did _ _ s x ds w (deceased_unknown {f = f} {a = b} {n = n} l) = idle s (Told (Deceased f b n)) ds w (λ p. not_it b (reached n s) (absent b s l p)) (λ _. refl)
  judged_did _ _ s x ds w (deceased_low {f = f} {a = b} {n = n} l h) = idle s (Told (Deceased f b n)) ds w (λ _. spares b (reached n s) (lt-leb (numbered address b s) n h)) (λ _. refl)
  judged_did _ _ s x ds w (deceased_buries {f = f} {a = b} {n = n} l h) = bury_did f b n s ds w l h

  pub item_did : (e : Event A) (s : Node A) (ds : List ℕ) → Whole address.same s.members → (Runs address lawful a) s (Told e) (item address e s ds)
  unfolding item
  item_did e s ds w = judged_did e _ s _ ds w (judged address s.own s.members.table (held_death address (parts_of address e).subject s) e)

  sender_did : (b : A) (v : Verdict A) (s : Node A) (x : Option ℕ) (ds : List ℕ) → Whole address.same s.members → SenderJudged address s.own s.members.table x b v → (Runs address lawful a) s (Sender b) (act address v s ds)
  unfolding list_after row_after news_of act
  sender_did b _ s x ds w (listed_already l) = idle s (Sender b) ds w (λ _. refl) (apart b s l)
  sender_did b _ s x ds w (sender_at_end l e) = halts
  sender_did b _ s x ds w (sender_enters n l e) = enter_did b n s (Sender b) ds w l refl refl

  pub admit_did : (b : A) (s : Node A) (ds : List ℕ) → Whole address.same s.members → (Runs address lawful a) s (Sender b) (admit address b s ds)
  unfolding admit
  admit_did b s ds w = sender_did b _ s _ ds w (sender_judged address s.own s.members.table (held_death address b s) b)

  -- a record is replaced, and nothing is said: Alive after an Ack, Pending after a ping
  pub put-silent : (b : A) (st : State) (n : ℕ) (x : Members A) (s : Node A) (o : Out A) → Whole address.same x → x.table ≡ s.members.table
      → o.node.members ≡ update address.same (record { addr = b; state = st; number = n }) x → o.node.own ≡ s.own → o.said ≡ [] → Did address a s Other o
  put-silent b st n x s o w t e m q =
      let z : reported address a o.said ≡ 0 = ap (reported address a) q in
      put_did address a lawful (record { addr = b; state = st; number = n }) x s Other o w t e m refl (λ _. refl) (λ _. omega arith) (λ _. z)

  pub acked_did : (b : A) (s : Node A) → Whole address.same s.members → Did address a s Other (record { node = acked address b s; said = []; collected = 0 })
  unfolding acked change
  acked_did b s w =
      elim (lists address b s) as (λ u. Did address a s Other (record { node = pick u (with_members s (update address.same (record { addr = b; state = state.Alive; number = numbered address b s }) s.members)) s; said = []; collected = 0 })) [
        | true ↦ put-silent b state.Alive (numbered address b s) s.members s _ w refl refl refl refl
        | false ↦ stay address a lawful s Other _ w refl refl (λ _. refl) (λ _. refl) (λ _ _. omega arith)
      ]

  -- the ping-request step reports the remembered number, and the held one is no lower after it
  pub suspect_did : (b : A) (n : ℕ) (s : Node A) (ds : List ℕ) → Whole address.same s.members → (Runs address lawful a) s Other (suspect address b n s ds)
  unfolding suspect change
  suspect_did b n s ds w =
      emit_did kind.Alive _ s _ Other ds
      (λ _ _. put_did address a lawful (record { addr = b; state = state.Suspected; number = n }) s.members s Other _ w refl refl refl refl (λ _. refl) (said_at b n) (said-off b n))

  -- the records stay, the order may have moved, and nothing is said
  pub other_did : (s : Node A) (o : Out A) → Whole address.same o.node.members → o.node.members.table ≡ s.members.table → o.node.own ≡ s.own → o.said ≡ []
      → Did address a s Other o
  other_did s o w t m q = stay address a lawful s Other o w t m (λ _. refl) (λ _. refl) (λ _ _. omega (arith, ap (reported address a) q))

  -- an ended timer, by the fate of its address
  stays_did : (t : Timer A) (ts : List (Timer A)) (s : Node A) (ds : List ℕ) → Whole address.same s.members → (lists address a s ≡ true → goes address a (ended_deed address t) s ≡ false)
      → (Runs address lawful a) s (ended_deed address t) (quiet (with_timers s ts) ds)
  unfolding quiet
  stays_did t ts s ds w g = gives (stay address a lawful s (ended_deed address t) (record { node = with_timers s ts; said = []; collected = 0 }) w refl refl g (λ _. refl) (λ _ _. omega arith))

  fate_did : (t : Timer A) (v : Fate) (ts : List (Timer A)) (s : Node A) (ds : List ℕ) → Whole address.same s.members → Fated address t s.members.table v
      → (Runs address lawful a) s (ended_deed address t) (by_fate address v t (with_timers s ts) ds)
  unfolding by_fate leave
  fate_did t _ ts s ds w (fated_leaves l e h) =
      emit_did kind.Deceased _ s _ (ended_deed address t) ds
      (λ _ _. gone_did address a lawful t.addr s (ended_deed address t) _ w refl refl l
      (departs t.addr (timed_out t.number s) (and_join (ap not e) (le-leb (numbered address t.addr s) t.number h))) refl (said-off t.addr t.number))
  fate_did t _ ts s ds w (fated_alive l e) = stays_did t ts s ds w (λ _. spares t.addr (timed_out t.number s) (rw e refl))
  fate_did t _ ts s ds w (fated_greater l h) =
      stays_did t ts s ds w (λ _. spares t.addr (timed_out t.number s) (and_false (not (is_alive (state_of address t.addr s))) (lt-leb (numbered address t.addr s) t.number h)))
  fate_did t _ ts s ds w (fated_absent l) = stays_did t ts s ds w (λ p. not_it t.addr (timed_out t.number s) (absent t.addr s l p))

  pub timer_did : (i : ℕ) (s : Node A) (ds : List ℕ) → Whole address.same s.members → (Runs address lawful a) s (ended_deed address (timer_at address i s)) (end_at address i s ds)
  unfolding end_at
  timer_did i s ds w = fate_did (timer_at address i s) (fate_at address i s) (remove_at s.timers i) s ds w (fated address (timer_at address i s) s.members.table)

  pub add_did : (b : A) (n : ℕ) (s : Node A) (ds : List ℕ) → Whole address.same s.members → lists address b s ≡ false
      → After (λ m. Did address a s (Added b n) (record { node = with_members s m; said = []; collected = 0 })) (add address.same b n s.members ds)
  add_did b n s ds w e =
      after_map (λ m p. came_did address a lawful b n p.0 s (Added b n) _ w p.1 refl e p.2 refl refl (λ _. omega arith) (λ _. refl))
      (add_gives b n s.members ds)

  -- an add of an address that is listed
  pub already_did : (b : A) (n : ℕ) (s : Node A) → Whole address.same s.members → lists address b s ≡ true → Did address a s (Added b n) (record { node = s; said = []; collected = 0 })
  already_did b n s w e = stay address a lawful s (Added b n) (record { node = s; said = []; collected = 0 }) w refl refl (λ _. refl) (apart b s e) (λ _ _. omega arith)
