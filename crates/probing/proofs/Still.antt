-- Where no address comes or goes, no rule but a pick moves the probing order: of every call but a ping and a ping request.
-- Assumes nothing.
use Rattle.std.specs.Prelude.{◌≡◌, refl, Bool, ℕ}
use Rattle.std.proofs.Math.Path.{ap}
use Rattle.std.proofs.Common.{sym, ◌∙◌, arith}
use Rattle.std.proofs.Math.Bool.{true, false}
use mathlib.Core.List.{List, [], ◌∷◌, ◌++◌}
use Rattle.std.proofs.Math.Option.{Option, none, some}
use Rattle.model.specs.declared.Kind.{Kind}
use Rattle.model.specs.declared.Fate.{Fate}
use Rattle.model.specs.Rows.{pick, has}
use Rattle.model.specs.Answers.{Answer}
use Rattle.laws.specs.After.{After, halts, gives, after_map, after-when, after_then}
use Rattle.model.specs.Words.{Address, Lawful, Member, Event, Gossip, Action, Ping, PingReq, Ack, Timer}
use Rattle.model.specs.Members.{Members, addrs, listed, added, add, remove, update}
use Rattle.model.specs.Node.{Node, Out, Effect, with_members, quiet, and_more, pushed, emit, lists, change, leave, spread}
use Rattle.model.specs.Handler as handler
use Rattle.model.specs.Handler.{Verdict, list_after, tell, news_of, act, item, gossip, admit, acked, answer_to, forwarded, handle}
use Rattle.model.specs.Detector.{timer_at, fate_at, by_fate, end_at, freed}
use Rattle.laws_list.specs.Whole.{Whole, added-whole, remove-whole, update-whole, strike-addrs, put-addrs, addrs-append}
use Rattle.laws_list.specs.Held.{has-append, has-erase}
use Rattle.laws_rules.specs.Judged.{Judged, skipped, joined_at_end, joined_low, joined_raises, joined-enters, recovered_unknown, recovered_low, recovered_recovers, own-at_end, own_refutes, suspected_unknown, suspected_equal, suspected_low, suspected_suspects, deceased_unknown, deceased_low, deceased_buries, judged, SenderJudged, listed_already, sender_at_end, sender_enters, sender_judged, Fated, fated_leaves, fated_alive, fated_greater, fated_absent, fated}
use Rattle.history.specs.Moments.{Deed, Told, Sender, Moment, moment, trace_then, trace_gossip, trace_admit, trace_message, trace_timer}
use Rattle.history.proofs.Rules.{add_gives, never}
use Rattle.probing.specs.Still.{Listing, NobodyMoves, Still}

module _ {A : Type 0} (address : Address A) where
  nobody-first : (ms ns : List (Moment A)) → (NobodyMoves address) (ms ++ ns) → (NobodyMoves address) ms
  nobody-first [] ns h = tt
  nobody-first (m ∷ ms) ns h = (h.0, nobody-first ms ns h.1)

  nobody_then : (ms ns : List (Moment A)) → (NobodyMoves address) (ms ++ ns) → (NobodyMoves address) ns
  nobody_then [] ns h = h
  nobody_then (m ∷ ms) ns h = nobody_then ms ns h.1

  pub nobody_split : (ms ns : List (Moment A)) → (NobodyMoves address) (ms ++ ns) → (NobodyMoves address) ms × (NobodyMoves address) ns
  nobody_split ms ns h = (nobody-first ms ns h, nobody_then ms ns h)

  pub still : (m : Members A) → (Still address) m m
  still m = record { order = refl; position = refl; addresses = refl }

  still_on : {m m' m'' : Members A} → (Still address) m m' → (Still address) m' m'' → (Still address) m m''
  still_on p q = record { order = q.order ∙ p.order; position = q.position ∙ p.position; addresses = q.addresses ∙ p.addresses }

module _ {A : Type 0} (address : Address A) (lawful : Lawful address) where
  abbrev same : A → A → Bool
  same = address.same

  -- a list operation: it keeps the list whole, and the order stands if nobody came or went
  abbrev Moves : Members A → Members A → Type 0
  Moves m m' = Whole same m' × (Listing address m m' → Still address m m')

  stays : (m : Members A) → Whole same m → Moves m m
  stays m w = (w, λ _. still address m)

  pub update_still : (k : Member A) (m : Members A) → Still address m (update same k m)
  unfolding update
  update_still k m = record { order = refl; position = refl; addresses = put-addrs same lawful.test _ m.table }

  updates : (k : Member A) (m : Members A) → Whole same m → Moves m (update same k m)
  updates k m w = (update-whole same lawful.test k m w, λ _. update_still k m)

  enters : (a : A) (n : ℕ) (m : Members A) (ds : List ℕ) → Whole same m → listed same a m.table ≡ false → After (Moves m) (add same a n m ds)
  unfolding added
  enters a n m ds w f =
      after_map
      (λ r p.
      rw p.1 (
        added-whole same lawful.test a n p.0 m w f p.2,
        λ l.
            never
            (sym f
            ∙ l a
            ∙ ap (has same a) (addrs-append same m.table _)
            ∙ has-append same a a (addrs m.table)
            ∙ ap (λ (u : Bool). pick u true (same a a)) f
            ∙ lawful.test.same_refl a),
      ))
      (add_gives address lawful a a n m ds)

  buries : (a : A) (m : Members A) → Whole same m → listed same a m.table ≡ true → Moves m (remove same a m)
  unfolding remove
  buries a m w t = (
    remove-whole same lawful.test a m w t,
    λ l.
        never
        (sym
        (sym t
        ∙ l a
        ∙ ap (has same a) (strike-addrs same lawful.test a m.table)
        ∙ has-erase same lawful.test a a (addrs m.table) (w.once a) t
        ∙ ap (λ (u : Bool). pick u false (has same a (addrs m.table))) (lawful.test.same_refl a))),
  )

  -- ---- verdicts
  list-after : (own : A) (d : Option ℕ) (m : Members A) (e : Event A) (v : Verdict A) (ds : List ℕ) → Whole same m → Judged address own m.table d e v → After (Moves m) (list_after address v m ds)
  unfolding list_after
  list-after own d m _ _ ds w skipped = gives (stays m w)
  list-after own d m _ _ ds w (joined_at_end e) = halts
  list-after own d m _ _ ds w (joined_low least e l h) = gives (stays m w)
  list-after own d m _ _ ds w (joined_raises least e l h) = gives (updates _ m w)
  list-after own d m _ _ ds w (joined-enters {a = a} {n = n} least e l) = enters a _ m ds w l
  list-after own d m _ _ ds w (recovered_unknown l) = gives (stays m w)
  list-after own d m _ _ ds w (recovered_low l h) = gives (stays m w)
  list-after own d m _ _ ds w (recovered_recovers l h) = gives (updates _ m w)
  list-after own d m _ _ ds w (own-at_end o e) = halts
  list-after own d m _ _ ds w (own_refutes next o e) = gives (stays m w)
  list-after own d m _ _ ds w (suspected_unknown o l) = gives (stays m w)
  list-after own d m _ _ ds w (suspected_equal o l s h) = gives (stays m w)
  list-after own d m _ _ ds w (suspected_low o l h) = gives (stays m w)
  list-after own d m _ _ ds w (suspected_suspects o l h) = gives (updates _ m w)
  list-after own d m _ _ ds w (deceased_unknown l) = gives (stays m w)
  list-after own d m _ _ ds w (deceased_low l h) = gives (stays m w)
  list-after own d m _ _ ds w (deceased_buries {a = a} l h) = gives (buries a m w l)

  sender_after : (own : A) (d : Option ℕ) (m : Members A) (a : A) (v : Verdict A) (ds : List ℕ) → Whole same m → SenderJudged address own m.table d a v → After (Moves m) (list_after address v m ds)
  unfolding list_after
  sender_after own d m a _ ds w (listed_already l) = gives (stays m w)
  sender_after own d m a _ ds w (sender_at_end l e) = halts
  sender_after own d m a _ ds w (sender_enters n l e) = enters a n m ds w l

  -- ---- rules
  abbrev Rule : Node A → Answer (Out A) → Type 0
  Rule s x = After (λ o. Moves s.members o.node.members) x

  -- an emitted event changes a heap, and no fact here reads a heap
  emit-rule : (k : Kind) (g : Gossip A) (s s' : Node A) (ds : List ℕ) → Moves s.members s'.members → Rule s (emit address k g s' ds)
  unfolding emit pushed
  emit-rule k g s s' ds p = after_then {P = λ _. Unit {0}} (after-when (λ _. halts) (λ _. gives tt)) (λ x rest _. gives p)

  quiet-rule : (s s' : Node A) (ds : List ℕ) → Moves s.members s'.members → Rule s (quiet s' ds)
  unfolding quiet
  quiet-rule s s' ds p = gives p

  tell-rule : (n : handler.News A) (s s' : Node A) (ds : List ℕ) → Moves s.members s'.members → Rule s (tell address n s' ds)
  tell-rule handler.Silent s s' ds p = quiet-rule s s' ds p
  tell-rule (handler.Emits k e) s s' ds p = emit-rule k _ s s' ds p

  act-rule : (v : Verdict A) (s : Node A) (ds : List ℕ) → After (Moves s.members) (list_after address v s.members ds) → Rule s (act address v s ds)
  unfolding act
  act-rule v s ds h = after_then h (λ m rest p. tell-rule (news_of address v s.own) s _ rest p)

  item-rule : (e : Event A) (s : Node A) (ds : List ℕ) → Whole same s.members → Rule s (item address e s ds)
  unfolding item
  item-rule e s ds w = act-rule _ s ds (list-after s.own _ s.members e _ ds w (judged address s.own s.members.table _ e))

  admit-rule : (a : A) (s : Node A) (ds : List ℕ) → Whole same s.members → Rule s (admit address a s ds)
  unfolding admit
  admit-rule a s ds w = act-rule _ s ds (sender_after s.own _ s.members a _ ds w (sender_judged address s.own s.members.table _ a))

  -- ---- their moments
  abbrev Traced : Node A → List (Moment A) → Answer (Out A) → Type 0
  Traced s ms x = After (λ o. Whole same o.node.members × (NobodyMoves address ms → Still address s.members o.node.members)) x

  one : (d : Deed A) (s : Node A) (x : Answer (Out A)) → Rule s x → Traced s (moment d s x) x
  one d s _ halts = halts
  one d s _ (gives p) = gives (p.0, λ h. p.1 h.0)

  wider : (s : Node A) (ms ns : List (Moment A)) (x : Answer (Out A)) → Traced s ms x → Traced s (ms ++ ns) x
  wider s ms ns x t = after_map (λ o p. (p.0, λ h. p.1 (nobody-first address ms ns h))) t

  more : (s : Node A) (ms : List (Moment A)) (x : Answer (Out A)) (l : Node A → List ℕ → List (Moment A)) (k : Node A → List ℕ → Answer (Out A)) → Traced s ms x
      → ((s' : Node A) (rest : List ℕ) → Whole same s'.members → Traced s' (l s' rest) (k s' rest)) → Traced s (ms ++ trace_then x l) (and_more x k)
  unfolding and_more
  more s ms _ l k halts f = halts
  more s ms _ l k (gives {b = o} {ds = rest} p) f =
      after_then (f o.node rest p.0)
      (λ q rest₂ v. gives (v.0, λ h. still_on address (p.1 (nobody-first address ms _ h)) (v.1 (nobody_then address ms _ h))))

  gossip-traced : (gs : List (Gossip A)) (s : Node A) (ds : List ℕ) → Whole same s.members → Traced s (trace_gossip address gs s ds) (gossip address gs s ds)
  unfolding quiet
  gossip-traced [] s ds w = gives (w, λ _. still address s.members)
  gossip-traced (g ∷ gs) s ds w =
      more s (moment (Told g.event) s (item address g.event s ds)) (item address g.event s ds) (trace_gossip address gs) (gossip address gs)
      (one (Told g.event) s (item address g.event s ds) (item-rule g.event s ds w)) (gossip-traced gs)

  -- ---- a message
  abbrev Settles : Node A → List (Moment A) → Answer (Effect A) → Type 0
  Settles s ms x = After (λ e. NobodyMoves address ms → Still address s.members e.node.members) x

  -- the list may be replaced or not
  picked_still : (u : Bool) (s : Node A) (k : Member A) → Still address s.members (pick u (with_members s (update same k s.members)) s).members
  picked_still true s k = update_still k s.members
  picked_still false s k = still address s.members

  acked_still : (a : A) (s : Node A) → Still address s.members (acked address a s).members
  unfolding acked change
  acked_still a s = picked_still (lists address a s) s _

  pub message_settles : (action : Action A) (gs : List (Gossip A)) (s : Node A) (ds : List ℕ) → Whole same s.members → Settles s (trace_message address action gs s ds) (handle address action gs s ds)
  unfolding handle answer_to forwarded spread
  message_settles (Ping from by) gs s ds w =
      after_then
      (more s (trace_gossip address gs s ds) (gossip address gs s ds) (trace_admit address from) (admit address from) (gossip-traced gs s ds w)
      (λ s' rest w'. wider s' (moment (Sender from) s' (admit address from s' rest)) _ (admit address from s' rest) (one (Sender from) s' (admit address from s' rest) (admit-rule from s' rest w'))))
      (λ o rest p. gives p.1)
  message_settles (PingReq from about) gs s ds w =
      after_then (gossip-traced gs s ds w) (λ o rest p. gives (λ h. p.1 (nobody-first address (trace_gossip address gs s ds) _ h)))
  message_settles (Ack from none) gs s ds w =
      after_then (gossip-traced gs s ds w) (λ o rest p. gives (λ h. still_on address (p.1 (nobody-first address (trace_gossip address gs s ds) _ h)) (acked_still from o.node)))
  message_settles (Ack from (some to)) gs s ds w =
      after_then (gossip-traced gs s ds w) (λ o rest p. gives (λ h. p.1 (nobody-first address (trace_gossip address gs s ds) _ h)))

  -- ---- a timer
  fate-rule : (t : Timer A) (v : Fate) (s : Node A) → Whole same s.members → Fated address t s.members.table v → Rule s (by_fate address v t s [])
  unfolding by_fate leave
  fate-rule t _ s w (fated_leaves l e h) = emit-rule _ _ s _ [] (buries t.addr s.members w l)
  fate-rule t _ s w (fated_alive l e) = quiet-rule s s [] (stays s.members w)
  fate-rule t _ s w (fated_greater l h) = quiet-rule s s [] (stays s.members w)
  fate-rule t _ s w (fated_absent l) = quiet-rule s s [] (stays s.members w)

  pub timer_traced : (i : ℕ) (s : Node A) → Whole same s.members → Traced s (trace_timer address i s) (end_at address i s [])
  unfolding end_at
  timer_traced i s w = one _ s (by_fate address (fate_at address i s) (timer_at address i s) (freed address i s) []) (fate-rule (timer_at address i s) _ (freed address i s) w (fated address (timer_at address i s) s.members.table))

  -- ---- an add
  pub add-moves : (a : A) (n : ℕ) (m : Members A) (ds : List ℕ) → Whole same m → listed same a m.table ≡ false → After (Moves m) (add same a n m ds)
  add-moves = enters
