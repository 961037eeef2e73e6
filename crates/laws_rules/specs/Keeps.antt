-- Each rule keeps a node good, where the addresses that it is given are in range.
-- Assumes nothing.
use Rattle.std.specs.Prelude.{◌≡◌, Bool, ◌&&◌, List, [], ◌∷◌, length, eqb}
use Rattle.std.proofs.Math.Path.{refl}
use Rattle.std.proofs.Common.{sym, ◌∙◌, arith, leb-false, eq-eqb}
use Rattle.std.proofs.Math.Bool.{true, false}
use Rattle.std.proofs.Math.Option.{Option}
use Prim.Native.Nat.{ℕ, ◌≤◌, max}
use Rattle.model.specs.declared.State.{State}
use Rattle.model.specs.declared.State.TheVariants as state
use Rattle.model.specs.Rows.{pick, every, erase}
use Rattle.model.specs.Answers.{Answer}
use Rattle.laws.specs.Bools.{and_split, and_join, every_append}
use Rattle.laws.specs.After.{After, halts, gives, after-when, after-draw, after_then}
use Rattle.model.specs.Words.{Address, Lawful, Member, Event, Joined, Recovered, Suspected, Deceased, Gossip, Entry, Timer, Departed, parts_of, unused, sends_of}
use Rattle.model.specs.Limit.{limit_of}
use Rattle.model.specs.Size.{size_of}
use Rattle.laws_choose.specs.LimitLaws.{limit_most}
use Rattle.laws_heap.specs.HeapLaws.{push-length, push-every}
use Rattle.laws_heap.specs.HeapTests.{push-in_order}
use Rattle.model.specs.Heap.{push}
use Rattle.model.specs.Choose.{terms_of, entry_of}
use Rattle.model.specs.Members.{Members, addrs, added, add, remove, merged, update, held}
use Rattle.model.specs.Departed.{gone, departs}
use Rattle.model.specs.Node.{Disseminator, heap_of, with_heap, Node, Out, with_members, with_disseminator, with_timers, with_lists, quiet, and_more, collecting, pushes, pushed, emit, lists, numbered, state_of, held_death, change, leave, spread}
use Rattle.model.specs.Handler.{Verdict, Skip, Unknown, Equal, Low, AtEnd, Refute, Enter, Raise, Recover, Suspect, Bury, News, Silent, Emits, list_after, row_after, news_of, tell, act, item, gossip, admit, acked}
use Rattle.laws_rules.specs.Judged.{Judged, skipped, joined_at_end, joined_low, joined_raises, joined-enters, recovered_unknown, recovered_low, recovered_recovers, own-at_end, own_refutes, suspected_unknown, suspected_equal, suspected_low, suspected_suspects, deceased_unknown, deceased_low, deceased_buries, judged, SenderJudged, listed_already, sender_at_end, sender_enters, sender_judged}
use Rattle.model.specs.declared.Kind.{Kind}
use Rattle.model.specs.declared.Kind.TheVariants as kind
use Rattle.model.specs.Sound.{of_kind, valid_gossip, sound_entry}
use Rattle.laws_list.specs.Whole.{Whole, added-whole, remove-whole, update-whole, put-addrs, strike-addrs, addrs-append}
use Rattle.laws_list.specs.Departing.{depart_few, depart_once, depart-every}
use Rattle.laws_node.specs.Good.{Good, GoodDeparted}
use Rattle.laws_choose.specs.GoodHeap.{GoodHeap}
use Rattle.laws_choose.specs.Collecting.{cleared_good}
use Rattle.laws.specs.Ranges.{ranges}
use Rattle.laws_choose.specs.ChooseLaws.{choose_good}

module _ {A : Type 0} (address : Address A) where
  -- an event of this heap's kind, its addresses in range, as it comes into the heap
  pub record Fits (k : Kind) (g : Gossip A) : Type 0 where
    pub kind : of_kind k (parts_of address g.event).kind ≡ true
    pub valid : valid_gossip address g ≡ true

  pub entry-sound : (k : Kind) (g : Gossip A) → Fits k g → sound_entry address k (entry_of address g) ≡ true
  unfolding sound_entry
  entry-sound k g f = and_join (and_join (and_join f.kind (eq-eqb (size_of address g) (size_of address g) refl)) refl) f.valid

  pushes_good : (k : Kind) (g : Gossip A) (d : Disseminator A) (ds : List ℕ) → Fits k g → ((j : Kind) → GoodHeap address j (heap_of j d)) → After (λ x. (j : Kind) → GoodHeap address j (heap_of j x)) (pushes address k g d ds)
  pushes_good k g d ds f w =
      after-when (λ _. halts) (λ e. gives (with-heap k (push unused sends_of (heap_of k d) (entry_of address g)) d w (record {
        few = omega (arith, leb-false 128 (length (heap_of k d)) e, push-length unused sends_of (heap_of k d) (entry_of address g));
        entries = push-every unused sends_of (heap_of k d) (entry_of address g) (sound_entry address k) (w k).entries (entry-sound k g f);
        order = push-in_order unused sends_of (heap_of k d) (w k).order (entry_of address g);
      })))
    where
      with-heap : (i : Kind) (h : List (Entry A)) (x : Disseminator A) → ((j : Kind) → GoodHeap address j (heap_of j x)) → GoodHeap address i h → (j : Kind) → GoodHeap address j (heap_of j (with_heap i h x))
      with-heap kind.Alive h x p q kind.Alive = q
      with-heap kind.Alive h x p q kind.Deceased = p kind.Deceased
      with-heap kind.Deceased h x p q kind.Alive = p kind.Alive
      with-heap kind.Deceased h x p q kind.Deceased = q

  -- with collecting on or off
  pub pushed_good : (on : Bool) (k : Kind) (g : Gossip A) (d : Disseminator A) (ds : List ℕ) → Fits k g → ((j : Kind) → GoodHeap address j (heap_of j d)) → After (λ x. (j : Kind) → GoodHeap address j (heap_of j x)) (pushed address on k g d ds)
  unfolding pushed
  pushed_good on k g d ds f w = pushes_good k g (collecting address on k g d) ds f heaps
    where
      heaps : (j : Kind) → GoodHeap address j (heap_of j (collecting address on k g d))
      heaps kind.Alive = cleared_good address k g d.alive on kind.Alive (w kind.Alive)
      heaps kind.Deceased = w kind.Deceased

  -- the parts of a good node that a rule replaces
  pub with-members : (s : Node A) (m : Members A) → Good address s → Whole address.same m → every address.valid (addrs m.table) ≡ true → Good address (with_members s m)
  with-members s m g w v =
      record { settings = g.settings; own = g.own; whole = w; valid = v; heaps = g.heaps; few = g.few; timers = g.timers; departed = g.departed }

  pub with-disseminator : (s : Node A) (d : Disseminator A) → Good address s → ((k : Kind) → GoodHeap address k (heap_of k d)) → Good address (with_disseminator s d)
  with-disseminator s d g p = record { settings = g.settings; own = g.own; whole = g.whole; valid = g.valid; heaps = p; few = g.few; timers = g.timers; departed = g.departed }

  pub with-timers : (s : Node A) (ts : List (Timer A)) → Good address s → length ts ≤ 16 → every (λ (t : Timer A). address.valid t.addr) ts ≡ true → Good address (with_timers s ts)
  with-timers s ts g p q =
      record { settings = g.settings; own = g.own; whole = g.whole; valid = g.valid; heaps = g.heaps; few = p; timers = q; departed = g.departed }

  pub with_departed : (s : Node A) (m : Members A) (r : List (Departed A)) → Good address (with_members s m) → GoodDeparted address r → Good address (with_lists s m r)
  with_departed s m r g p =
      record { settings = g.settings; own = g.own; whole = g.whole; valid = g.valid; heaps = g.heaps; few = g.few; timers = g.timers; departed = p }

  -- a rule's node is good, and its own address is the same
  pub record Keeps (s : Node A) (s' : Node A) : Type 0 where
    pub good : Good address s'
    pub own : s'.own ≡ s.own
    pub settings : s'.settings ≡ s.settings

  abbrev pub KeepsOut : Node A → Answer (Out A) → Type 0
  KeepsOut s x = After (λ o. Keeps s o.node) x

  pub same-node : {s : Node A} → Good address s → Keeps s s
  same-node g = record { good = g; own = refl; settings = refl }

  pub keeps_trans : {s₁ s₂ s₃ : Node A} → Keeps s₁ s₂ → Keeps s₂ s₃ → Keeps s₁ s₃
  keeps_trans p q = record { good = q.good; own = q.own ∙ p.own; settings = q.settings ∙ p.settings }

  pub emit-keeps : (k : Kind) (g : Gossip A) (s s' : Node A) (ds : List ℕ) → Fits k g → Keeps s s' → KeepsOut s (emit address k g s' ds)
  unfolding emit
  emit-keeps k g s s' ds f p =
      after_then (pushed_good s'.settings.collect k g s'.disseminator ds f p.good.heaps)
      (λ d rest w. gives (record { good = with-disseminator s' d p.good w; own = p.own; settings = p.settings }))

  -- an event about an address in range, from one in range
  event_fits : (k : Kind) (e : Event A) (from b : A) (number kind : ℕ) → parts_of address e ≡ record { kind = kind; from = from; subject = b; number = number } → of_kind k kind ≡ true
      → address.valid from ≡ true → address.valid b ≡ true → Fits k (record { event = e })
  unfolding valid_gossip
  event_fits k e from b number kind p h u v =
      record {
        kind = rw p h;
        valid = rw p (elim (eqb kind 0) as (λ z. pick z true (address.valid from && address.valid b) ≡ true) [ true ↦ refl | false ↦ and_join u v ]);
      }

  pub suspicion_fits : (own b : A) (n : ℕ) → address.valid own ≡ true → address.valid b ≡ true → Fits kind.Alive (record { event = Suspected own b n })
  unfolding parts_of
  suspicion_fits own b n = event_fits kind.Alive (Suspected own b n) own b n 3 refl refl

  pub death_fits : (own b : A) (n : ℕ) → address.valid own ≡ true → address.valid b ≡ true → Fits kind.Deceased (record { event = Deceased own b n })
  unfolding parts_of
  death_fits own b n = event_fits kind.Deceased (Deceased own b n) own b n 4 refl refl

  -- what a verdict emits fits into its heap
  abbrev NewsFits : News A → Type 0
  NewsFits Silent = Unit {0}
  NewsFits (Emits k e) = Fits k (record { event = e })

  -- the limit of a good node's sends
  limit_23 : (s : Node A) → Good address s → limit_of (length s.members.table) s.settings.send_constant ≤ 23
  limit_23 s g = limit_most (length s.members.table) s.settings.send_constant g.whole.few (ranges s.settings g.settings).constant

  -- choosing gossip keeps a node good
  pub spread-keeps : (s : Node A) → Good address s → Keeps s (spread address s).node
  unfolding spread terms_of
  spread-keeps s g =
      let c = choose_good address
      (terms_of s.settings.max_selected s.settings.max_size (limit_of (length s.members.table) s.settings.send_constant))
      s.disseminator.alive s.disseminator.deceased (limit_23 s g) (g.heaps kind.Alive) (g.heaps kind.Deceased) in
      record {
        good = with-disseminator s _ g (λ k. elim k as (λ j. GoodHeap address j (heap_of j (spread address s).node.disseminator)) [ kind.Alive ↦ c.alive | kind.Deceased ↦ c.deceased ]);
        own = refl;
        settings = refl;
      }

  module _ (lawful : Lawful address) where
    pub change-keeps : (b : A) (st : State) (n : ℕ) (s : Node A) → Good address s → Keeps s (change address b st n s)
    unfolding change update
    change-keeps b st n s g =
        let m : Member A = record { addr = b; state = st; number = n } in
        record {
          good = with-members s _ g (update-whole address.same lawful.test m s.members g.whole)
              (rw (put-addrs address.same lawful.test (merged address.same m s.members.table) s.members.table) g.valid);
          own = refl;
          settings = refl;
        }

    every-erase : (f : A → Bool) (a : A) (l : List A) → every f l ≡ true → every f (erase address.same a l) ≡ true
    every-erase f a [] e = refl
    every-erase f a (x ∷ l) e =
        let p = and_split (f x) (every f l) e in
        elim (address.same a x) as (λ u. every f (pick u l (x ∷ erase address.same a l)) ≡ true) [
          | true ↦ p.1
          | false ↦ and_join p.0 (every-erase f a l p.1)
        ]

    -- a removal is remembered
    departs_good : (b : A) (n : ℕ) (t : List (Member A)) (r : List (Departed A)) → address.valid b ≡ true → GoodDeparted address r → GoodDeparted address (departs address.same b n t r)
    unfolding departs
    departs_good b n t r v g =
        let k = max (held address.same b t) n in
        record {
          few = depart_few address.same b k r g.few;
          once = depart_once address.same lawful.test b k r g.once;
          valid = depart-every address.same address.valid b k r v g.valid;
        }

    pub leave-keeps : (b : A) (n : ℕ) (s : Node A) → Good address s → address.valid b ≡ true → lists address b s ≡ true → Keeps s (leave address b n s)
    unfolding leave remove
    leave-keeps b n s g v e =
        record {
          good = with_departed s _ _
              (with-members s _ g (remove-whole address.same lawful.test b s.members g.whole e)
              (rw (strike-addrs address.same lawful.test b s.members.table) (every-erase address.valid b (addrs s.members.table) g.valid)))
              (departs_good b n s.members.table s.departed v g.departed);
          own = refl;
          settings = refl;
        }

    pub add-keeps : (b : A) (n : ℕ) (s : Node A) (ds : List ℕ) → Good address s → address.valid b ≡ true → lists address b s ≡ false
        → After (λ m. Keeps s (with_members s m)) (add address.same b n s.members ds)
    unfolding add added
    add-keeps b n s ds g v e =
        after-when (λ _. halts) (λ h. after-draw ds (λ d rest. gives (record {
          good = with-members s _ g (added-whole address.same lawful.test b n d s.members g.whole e (leb-false 64 (length s.members.table) h))
              (rw (addrs-append address.same s.members.table (record { addr = b; state = state.Alive; number = n } ∷ []))
              (every_append address.valid (addrs s.members.table) (b ∷ []) g.valid (and_join v refl)));
          own = refl;
          settings = refl;
        })))

    pub quiet_keeps : {s : Node A} (ds : List ℕ) → Good address s → KeepsOut s (quiet s ds)
    unfolding quiet
    quiet_keeps ds g = gives (same-node g)

    -- what a verdict asks of its address: in range; not listed if it is to come in, listed if it is to go
    abbrev pub Allowed : Verdict A → Node A → Type 0
    Allowed Skip s = Unit {0}
    Allowed Unknown s = Unit {0}
    Allowed Equal s = Unit {0}
    Allowed Low s = Unit {0}
    Allowed AtEnd s = Unit {0}
    Allowed (Refute n) s = Unit {0}
    Allowed (Enter a n) s = (address.valid a ≡ true) × (lists address a s ≡ false)
    Allowed (Raise a n) s = address.valid a ≡ true
    Allowed (Recover a n) s = address.valid a ≡ true
    Allowed (Suspect a n) s = address.valid a ≡ true
    Allowed (Bury a n) s = (address.valid a ≡ true) × (lists address a s ≡ true)

    list_keeps : (v : Verdict A) (s : Node A) (ds : List ℕ) → Good address s → Allowed v s
        → After (λ m. Keeps s (with_lists s m (row_after address v s.members.table s.departed))) (list_after address v s.members ds)
    unfolding list_after row_after change leave
    list_keeps Skip s ds g w = gives (same-node g)
    list_keeps Unknown s ds g w = gives (same-node g)
    list_keeps Equal s ds g w = gives (same-node g)
    list_keeps Low s ds g w = gives (same-node g)
    list_keeps AtEnd s ds g w = halts
    list_keeps (Refute n) s ds g w = gives (same-node g)
    list_keeps (Enter a n) s ds g w = add-keeps a n s ds g w.0 w.1
    list_keeps (Raise a n) s ds g w = gives (change-keeps a (state_of address a s) n s g)
    list_keeps (Recover a n) s ds g w = gives (change-keeps a state.Alive n s g)
    list_keeps (Suspect a n) s ds g w = gives (change-keeps a state.Suspected n s g)
    list_keeps (Bury a n) s ds g w = gives (leave-keeps a n s g w.0 w.1)

    news_fit : (v : Verdict A) (s : Node A) → Good address s → Allowed v s → NewsFits (news_of address v s.own)
    unfolding news_of parts_of
    news_fit Skip s g w = tt
    news_fit Unknown s g w = tt
    news_fit Equal s g w = tt
    news_fit Low s g w = tt
    news_fit AtEnd s g w = tt
    news_fit (Refute n) s g w = event_fits kind.Alive (Recovered s.own s.own n) s.own s.own n 2 refl refl g.own g.own
    news_fit (Enter a n) s g w = event_fits kind.Alive (Joined s.own a n) s.own a n 1 refl refl g.own w.0
    news_fit (Raise a n) s g w = event_fits kind.Alive (Joined s.own a n) s.own a n 1 refl refl g.own w
    news_fit (Recover a n) s g w = event_fits kind.Alive (Recovered s.own a n) s.own a n 2 refl refl g.own w
    news_fit (Suspect a n) s g w = suspicion_fits s.own a n g.own w
    news_fit (Bury a n) s g w = death_fits s.own a n g.own w.0

    tell-keeps : (n : News A) (s s' : Node A) (ds : List ℕ) → NewsFits n → Keeps s s' → KeepsOut s (tell address n s' ds)
    unfolding quiet
    tell-keeps Silent s s' ds f k = gives k
    tell-keeps (Emits h e) s s' ds f k = emit-keeps h (record { event = e }) s s' ds f k

    -- carrying out a verdict keeps a node good
    pub act-keeps : (v : Verdict A) (s : Node A) (ds : List ℕ) → Good address s → Allowed v s → KeepsOut s (act address v s ds)
    unfolding act
    act-keeps v s ds g w = after_then (list_keeps v s ds g w) (λ m rest k. tell-keeps (news_of address v s.own) s (with_lists s m (row_after address v s.members.table s.departed)) rest (news_fit v s g w) k)

    -- the address that a valid event is about is in range
    subject_valid : (f b : A) (n : ℕ) (e : Event A) → (parts_of address e).subject ≡ b → eqb (parts_of address e).kind 0 ≡ false → valid_gossip address (record { event = e }) ≡ true → address.valid b ≡ true
    unfolding valid_gossip
    subject_valid f b n e q z v = rw (sym q) (and_split (address.valid (parts_of address e).from) (address.valid (parts_of address e).subject) (rw z at v)).1

    judged_allowed : (e : Event A) (v : Verdict A) (s : Node A) (d : Option ℕ) → valid_gossip address (record { event = e }) ≡ true → Judged address s.own s.members.table d e v → Allowed v s
    unfolding parts_of
    judged_allowed _ _ s d v skipped = tt
    judged_allowed _ _ s d v (joined_at_end e) = tt
    judged_allowed _ _ s d v (joined_low least e l h) = tt
    judged_allowed _ _ s d v (joined_raises {f = f} {a = a} {n = n} least e l h) = subject_valid f a n (Joined f a n) refl refl v
    judged_allowed _ _ s d v (joined-enters {f = f} {a = a} {n = n} least e l) = (subject_valid f a n (Joined f a n) refl refl v, l)
    judged_allowed _ _ s d v (recovered_unknown l) = tt
    judged_allowed _ _ s d v (recovered_low l h) = tt
    judged_allowed _ _ s d v (recovered_recovers {f = f} {a = a} {n = n} l h) = subject_valid f a n (Recovered f a n) refl refl v
    judged_allowed _ _ s d v (own-at_end o e) = tt
    judged_allowed _ _ s d v (own_refutes next o e) = tt
    judged_allowed _ _ s d v (suspected_unknown o l) = tt
    judged_allowed _ _ s d v (suspected_equal o l h e) = tt
    judged_allowed _ _ s d v (suspected_low o l h) = tt
    judged_allowed _ _ s d v (suspected_suspects {f = f} {a = a} {n = n} o l h) = subject_valid f a n (Suspected f a n) refl refl v
    judged_allowed _ _ s d v (deceased_unknown l) = tt
    judged_allowed _ _ s d v (deceased_low l h) = tt
    judged_allowed _ _ s d v (deceased_buries {f = f} {a = a} {n = n} l h) = (subject_valid f a n (Deceased f a n) refl refl v, l)

    pub item-keeps : (e : Event A) (s : Node A) (ds : List ℕ) → Good address s → valid_gossip address (record { event = e }) ≡ true → KeepsOut s (item address e s ds)
    unfolding item
    item-keeps e s ds g v = act-keeps _ s ds g (judged_allowed e _ s _ v (judged address s.own s.members.table (held_death address (parts_of address e).subject s) e))

    -- one rule after another
    pub more-keeps : {s : Node A} {x : Answer (Out A)} (k : Node A → List ℕ → Answer (Out A)) → KeepsOut s x
        → ((s' : Node A) (ds : List ℕ) → Good address s' → KeepsOut s' (k s' ds)) → KeepsOut s (and_more x k)
    unfolding and_more
    more-keeps k h f = after_then h (λ o rest p. after_then (f o.node rest p.good) (λ o₂ rest₂ q. gives (keeps_trans p q)))

    pub gossip-keeps : (gs : List (Gossip A)) (s : Node A) (ds : List ℕ) → Good address s → every (valid_gossip address) gs ≡ true → KeepsOut s (gossip address gs s ds)
    gossip-keeps [] s ds g v = quiet_keeps ds g
    gossip-keeps (x ∷ gs) s ds g v =
        let p = and_split (valid_gossip address x) (every (valid_gossip address) gs) v in
        more-keeps (gossip address gs) (item-keeps x.event s ds g p.0) (λ s' rest g'. gossip-keeps gs s' rest g' p.1)

    sender_allowed : (a : A) (v : Verdict A) (s : Node A) (d : Option ℕ) → address.valid a ≡ true → SenderJudged address s.own s.members.table d a v → Allowed v s
    sender_allowed a _ s d v (listed_already l) = tt
    sender_allowed a _ s d v (sender_at_end l e) = tt
    sender_allowed a _ s d v (sender_enters n l e) = (v, l)

    pub admit-keeps : (b : A) (s : Node A) (ds : List ℕ) → Good address s → address.valid b ≡ true → KeepsOut s (admit address b s ds)
    unfolding admit
    admit-keeps b s ds g v = act-keeps _ s ds g (sender_allowed b _ s _ v (sender_judged address s.own s.members.table (held_death address b s) b))

    pub acked-keeps : (b : A) (s : Node A) → Good address s → Keeps s (acked address b s)
    unfolding acked
    acked-keeps b s g =
        elim (lists address b s) as (λ u. Keeps s (pick u (change address b state.Alive (numbered address b s) s) s)) [
          | true ↦ change-keeps b state.Alive (numbered address b s) s g
          | false ↦ same-node g
        ]
