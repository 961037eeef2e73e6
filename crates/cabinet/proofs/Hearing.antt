-- Who answered is heard. Of a peer that a controller waits for: once its own Ack was taken in it is Alive, or absent, until a message tells a suspicion of it. So one that is found silent when the wait is over
-- has sent no Ack that was taken in since the wait began, or none since such a message.
-- Assumes nothing.
use Rattle.std.specs.Prelude.{◌≡◌, Bool, List, [], ◌∷◌, ◌++◌, ◌⊎◌, ℕ, max, eqb, length}
use Rattle.std.proofs.Math.Path.{refl, ap, sym, subst}
use Rattle.std.proofs.Common.{◌∙◌, inl, inr, arith}
use Rattle.std.proofs.Math.Bool.{true, false}
use Rattle.std.proofs.Math.Option.{Option, none, some}
use borrow.Author.Tests.{eqb-true, eq-eqb, leb-false}
use Rattle.model.specs.declared.Cause.{Cause}
use Rattle.model.specs.declared.State.TheVariants as state
use Rattle.model.specs.declared.Fate.{Fate}
use Rattle.model.specs.declared.Fate.TheVariants.{Leaves, Stays, Absent}
use Rattle.model.specs.declared.Reply.{Reply}
use Rattle.model.specs.declared.Reply.TheVariants.{Done, Already, NotDue, Refuted, Gone, Refused, RefusedAt}
use Rattle.model.specs.declared.Kind.{Kind}
use Rattle.model.specs.Bounds.{Room, list_places}
use Rattle.model.specs.Rows.{pick, has, erase, Test}
use Rattle.model.specs.Answers.{Answer}
use Rattle.model.specs.Words.{Address, Lawful, is_alive, Member, Event, Nothing, Joined, Recovered, Suspected, Deceased, Gossip, Action, Ping, PingReq, Ack, parts_of, blank_member, Timer as Running, WaitState, SendingPing, WaitingForPingAck, SendingPingReq, WaitingForPingReqAck, Declaring}
use Rattle.model.specs.Members.{Members, addrs, listed, strike, held_state, added, add, remove, merged, update}
use Rattle.model.specs.Node.{Node, Out, Effect, Stored, loaded, stored, and_more, quiet, pushed, emit, lists, numbered, held_death, change, spread}
use Rattle.model.specs.Handler as handler
use Rattle.model.specs.Detector as D
use Rattle.model.specs.Calls as calls
use Rattle.laws.specs.After.{After, halts, gives, after_map, after-when, after-draw, after_then}
use Rattle.laws.specs.Pad.{take_pad}
use Rattle.laws_list.specs.Whole.{Whole, added-whole, update-whole, remove-whole, strike-addrs}
use Rattle.laws_list.specs.Held.{has-put, has-erase}
use Rattle.laws_list.specs.Updates.{said_put, said-put_other}
use Rattle.laws_rules.specs.Judged as judged
use Rattle.laws_rules.specs.Judged.{Judged, SenderJudged, pick_case}
use Rattle.history.specs.Histories.{World, Call, Add, Receive, Step, Timer, Lends, outcome, world_of}
use Rattle.history.proofs.Rules.{never}
use Rattle.history.proofs.Worlds.{first_cases}
use Rattle.cabinet.specs.Each.{Each, nil, cons, Among, here, there}
use Rattle.cabinet.specs.Cabinets.{suspicions, Names, Turn, Fresh, Silent, worlds, nodes, Latest, last, since, Mute, opens, mute, told, AckOf, AckBy, ToldOf, Pinging, Unheard, Asking, StillUnheard}
use Rattle.cabinet.proofs.Rules.{any}
use Rattle.cabinet.specs.Ending.{MembersBy}
use Rattle.cabinet.proofs.Ending.{end_list}
use Rattle.cabinet.specs.Alone.{whole}
use Rattle.cabinet.proofs.Alone.{each-alone}
use Rattle.cabinet.specs.Hearing.{Mutes, Back}

module _ {A : Type 0} (same : A → A → Bool) (test : Test same) (x : A) where
  stay : {m : Members A} → Whole same m → (Back same test x) m m
  stay w = record { whole = w; back = λ p. p }

  then : {m m' m'' : Members A} → (Back same test x) m m' → (Back same test x) m' m'' → (Back same test x) m m''
  then p q = record { whole = q.whole; back = λ z. p.back (q.back z) }

  -- one that comes in is Alive
  abbrev new : A → ℕ → Member A
  new a n = record { addr = a; state = state.Alive; number = n }

  alive-alone : {B : Type 0} (u : Bool) → is_alive (pick u state.Alive state.Alive) ≡ false → B
  alive-alone true e = never (sym e)
  alive-alone false e = never (sym e)

  back-append : (t : List (Member A)) (a : A) (n : ℕ) → (Mutes same test x) (t ++ (new a n ∷ [])) → (Mutes same test x) t
  back-append [] a n p = alive-alone (same x a) p.1
  back-append (k ∷ t) a n p =
      (elim (same x k.addr) as (λ u. (pick u true (has same x (addrs (t ++ (new a n ∷ [])))) ≡ true) × (is_alive (pick u k.state (held_state same x (t ++ (new a n ∷ [])))) ≡ false)
      → (pick u true (has same x (addrs t)) ≡ true) × (is_alive (pick u k.state (held_state same x t)) ≡ false)) [
        | true ↦ λ q. (refl, q.1)
        | false ↦ λ q. back-append t a n q
      ]) p

  back-put : (k : Member A) (m : Members A) → (same x k.addr ≡ true → is_alive k.state ≡ false → is_alive (held_state same x m.table) ≡ false)
      → (Mutes same test x) (update same k m).table → (Mutes same test x) m.table
  unfolding update
  back-put k m f p = by (same x k.addr) refl
    where
      was : listed same x m.table ≡ true
      was = sym (has-put same test x (merged same k m.table) m.table) ∙ p.0

      by : (u : Bool) → same x k.addr ≡ u → (Mutes same test x) m.table
      by true e = (was, f e (ap is_alive (sym (said_put same test x (merged same k m.table) m.table was e).state) ∙ p.1))
      by false e = (was, ap is_alive (sym (said-put_other same test x (merged same k m.table) m.table e).state) ∙ p.1)

  has_erased : (a : A) (l : List A) → has same x (erase same a l) ≡ true → has same x l ≡ true
  has_erased a [] e = e
  has_erased a (y ∷ l) e =
      (elim (same a y) as (λ u. has same x (pick u l (y ∷ erase same a l)) ≡ true → pick (same x y) true (has same x l) ≡ true) [
        | true ↦ λ q. more (same x y) q
        | false ↦ λ q. inner (λ r. has_erased a l r) (same x y) q
      ]) e
    where
      more : (v : Bool) → has same x l ≡ true → pick v true (has same x l) ≡ true
      more true q = refl
      more false q = q

      inner : (has same x (erase same a l) ≡ true → has same x l ≡ true) → (v : Bool) → pick v true (has same x (erase same a l)) ≡ true → pick v true (has same x l) ≡ true
      inner f true q = refl
      inner f false q = f q

  state_strike : (b : A) (t : List (Member A)) → same x b ≡ false → held_state same x (strike same b t) ≡ held_state same x t
  state_strike b [] q = refl
  state_strike b (k ∷ t) q =
      (elim (same b k.addr) as (λ u. same b k.addr ≡ u → held_state same x (pick u t (k ∷ strike same b t)) ≡ held_state same x (k ∷ t)) [
        | true ↦ λ r. rw (sym (test.same_eq b k.addr r), q)
        | false ↦ λ r. ap (pick (same x k.addr) k.state) (state_strike b t q)
      ]) refl

  back-remove : (b : A) (m : Members A) → Whole same m → (Mutes same test x) (remove same b m).table → (Mutes same test x) m.table
  unfolding remove
  back-remove b m w p = by (same x b) refl
    where
      struck : has same x (erase same b (addrs m.table)) ≡ true
      struck = ap (has same x) (sym (strike-addrs same test b m.table)) ∙ p.0

      was : listed same x m.table ≡ true
      was = has_erased b (addrs m.table) struck

      by : (u : Bool) → same x b ≡ u → (Mutes same test x) m.table
      by true e =
          let q = has-erase same test x b (addrs m.table) (w.once x) (subst (λ (y : A). has same y (addrs m.table) ≡ true) (test.same_eq x b e) was) in
          never (sym (q ∙ ap (λ (u : Bool). pick u false (has same x (addrs m.table))) e) ∙ struck)
      by false e = (was, ap is_alive (sym (state_strike b m.table e)) ∙ p.1)

  -- the record of an address takes the state Alive
  heard-put : (a : A) (n : ℕ) (m : Members A) → same x a ≡ true → (Mutes same test x) (update same (record { addr = a; state = state.Alive; number = n }) m).table → ⊥
  unfolding update
  heard-put a n m e p =
      let k : Member A = record { addr = a; state = state.Alive; number = n } in
      let was : listed same x m.table ≡ true = sym (has-put same test x (merged same k m.table) m.table) ∙ p.0 in
      never (sym p.1 ∙ ap is_alive (said_put same test x (merged same k m.table) m.table was e).state)

module _ {A : Type 0} (address : Address A) (lawful : Lawful address) (x : A) where
  abbrev Kept : Members A → Members A → Type 0
  Kept m m' = Back address.same lawful.test x m m'

  abbrev Hears : Members A → Answer (Out A) → Type 0
  Hears m y = After (λ o. Kept m o.node.members) y

  -- a record that is no suspicion of x
  abbrev Spares : Event A → Type 0
  Spares Nothing = Unit {0}
  Spares (Joined f a n) = Unit {0}
  Spares (Recovered f a n) = Unit {0}
  Spares (Suspected f a n) = address.same x a ≡ false
  Spares (Deceased f a n) = Unit {0}

  emit-members : (k : Kind) (g : Gossip A) (s : Node A) (ds : List ℕ) → After (λ o. o.node.members ≡ s.members) (emit address k g s ds)
  unfolding emit
  emit-members k g s ds = after_then (any (pushed address _ k g _ ds)) (λ d rest _. gives refl)

  tell-members : (n : handler.News A) (s : Node A) (ds : List ℕ) → After (λ o. o.node.members ≡ s.members) (handler.tell address n s ds)
  unfolding quiet
  tell-members handler.Silent s ds = gives refl
  tell-members (handler.Emits k e) s ds = emit-members k _ s ds

  act-hears : (v : handler.Verdict A) (s : Node A) (ds : List ℕ) → After (Kept s.members) (handler.list_after address v s.members ds) → Hears s.members (handler.act address v s ds)
  unfolding handler.act
  act-hears v s ds h = after_then h (λ m rest b. after_map (λ o e. subst (Kept s.members) (sym e) b) (tell-members (handler.news_of address v s.own) _ rest))

  raised : (a : A) (n : ℕ) (m : Members A) → Whole address.same m → Kept m (update address.same (record { addr = a; state = held_state address.same a m.table; number = n }) m)
  raised a n m w =
      record {
        whole = update-whole address.same lawful.test _ m w;
        back = back-put address.same lawful.test x _ m (λ e q. subst (λ (y : A). is_alive (held_state address.same y m.table) ≡ false) (sym (lawful.test.same_eq x a e)) q);
      }

  alive : (a : A) (n : ℕ) (m : Members A) → Whole address.same m → Kept m (update address.same (record { addr = a; state = state.Alive; number = n }) m)
  alive a n m w =
      record { whole = update-whole address.same lawful.test _ m w; back = back-put address.same lawful.test x _ m (λ e q. never (sym q)) }

  enters : (a : A) (n : ℕ) (m : Members A) (ds : List ℕ) → Whole address.same m → listed address.same a m.table ≡ false → After (Kept m) (add address.same a n m ds)
  unfolding add added
  enters a n m ds w l =
      after-when (λ _. halts)
      (λ h. after-draw ds (λ d rest. gives (record {
        whole = added-whole address.same lawful.test a n d m w l (omega (arith, leb-false 64 (length m.table) h));
        back = back-append address.same lawful.test x m.table a n;
      })))

  list_hears : (own : A) (d : Option ℕ) (m : Members A) (ds : List ℕ) (e : Event A) (v : handler.Verdict A) → Whole address.same m → Spares e → Judged address own m.table d e v
      → After (Kept m) (handler.list_after address v m ds)
  unfolding handler.list_after
  list_hears own d m ds _ _ w sp judged.skipped = gives (stay address.same lawful.test x w)
  list_hears own d m ds _ _ w sp (judged.joined_at_end e) = halts
  list_hears own d m ds _ _ w sp (judged.joined_low least e l h) = gives (stay address.same lawful.test x w)
  list_hears own d m ds _ _ w sp (judged.joined_raises {a = a} {n = n} least e l h) = gives (raised a (max least n) m w)
  list_hears own d m ds _ _ w sp (judged.joined-enters {a = a} {n = n} least e l) = enters a (max least n) m ds w l
  list_hears own d m ds _ _ w sp (judged.recovered_unknown l) = gives (stay address.same lawful.test x w)
  list_hears own d m ds _ _ w sp (judged.recovered_low l h) = gives (stay address.same lawful.test x w)
  list_hears own d m ds _ _ w sp (judged.recovered_recovers {a = a} {n = n} l h) = gives (alive a n m w)
  list_hears own d m ds _ _ w sp (judged.own-at_end o e) = halts
  list_hears own d m ds _ _ w sp (judged.own_refutes next o e) = gives (stay address.same lawful.test x w)
  list_hears own d m ds _ _ w sp (judged.suspected_unknown o l) = gives (stay address.same lawful.test x w)
  list_hears own d m ds _ _ w sp (judged.suspected_equal o l s e) = gives (stay address.same lawful.test x w)
  list_hears own d m ds _ _ w sp (judged.suspected_low o l h) = gives (stay address.same lawful.test x w)
  list_hears own d m ds _ _ w sp (judged.suspected_suspects {a = a} {n = n} o l b) =
      gives (record { whole = update-whole address.same lawful.test _ m w; back = back-put address.same lawful.test x _ m (λ e q. never (sym sp ∙ e)) })
  list_hears own d m ds _ _ w sp (judged.deceased_unknown l) = gives (stay address.same lawful.test x w)
  list_hears own d m ds _ _ w sp (judged.deceased_low l h) = gives (stay address.same lawful.test x w)
  list_hears own d m ds _ _ w sp (judged.deceased_buries {a = a} {n = n} l h) =
      gives (record { whole = remove-whole address.same lawful.test a m w l; back = back-remove address.same lawful.test x a m w })

  item-hears : (e : Event A) (s : Node A) (ds : List ℕ) → Whole address.same s.members → Spares e → Hears s.members (handler.item address e s ds)
  unfolding handler.item
  item-hears e s ds w sp =
      let d = held_death address (parts_of address e).subject s in
      act-hears _ s ds (list_hears s.own d s.members ds e _ w sp (judged.judged address s.own s.members.table d e))

  more-hears : (m : Members A) (y : Answer (Out A)) (k : Node A → List ℕ → Answer (Out A)) → Hears m y → ((s : Node A) (ds : List ℕ) → Whole address.same s.members → Hears s.members (k s ds)) → Hears m (and_more y k)
  unfolding and_more
  more-hears m _ k halts f = halts
  more-hears m _ k (gives {b = o} {ds = rest} e) f = after_then (f o.node rest e.whole) (λ q rest₂ v. gives (then address.same lawful.test x e v))

  gossip-hears : (gs : List (Gossip A)) (s : Node A) (ds : List ℕ) → Each (λ g. Spares g.event) gs → Whole address.same s.members → Hears s.members (handler.gossip address gs s ds)
  unfolding quiet
  gossip-hears _ s ds nil w = gives (stay address.same lawful.test x w)
  gossip-hears _ s ds (cons {x = g} {l = gs} p ps) w = more-hears s.members _ (handler.gossip address gs) (item-hears g.event s ds w p) (λ s' ds' w'. gossip-hears gs s' ds' ps w')

  sender_hears : (own a : A) (d : Option ℕ) (m : Members A) (ds : List ℕ) (v : handler.Verdict A) → Whole address.same m → SenderJudged address own m.table d a v → After (Kept m) (handler.list_after address v m ds)
  unfolding handler.list_after
  sender_hears own a d m ds _ w (judged.listed_already l) = gives (stay address.same lawful.test x w)
  sender_hears own a d m ds _ w (judged.sender_at_end l e) = halts
  sender_hears own a d m ds _ w (judged.sender_enters n l e) = enters a n m ds w l

  admit-hears : (a : A) (s : Node A) (ds : List ℕ) → Whole address.same s.members → Hears s.members (handler.admit address a s ds)
  unfolding handler.admit
  admit-hears a s ds w = act-hears _ s ds (sender_hears s.own a (held_death address a s) s.members ds _ w (judged.sender_judged address s.own s.members.table (held_death address a s) a))

  acked-hears : (a : A) (s : Node A) → Whole address.same s.members → Kept s.members (handler.acked address a s).members
  unfolding handler.acked change
  acked-hears a s w = pick_case (λ (y : Node A). Kept s.members y.members) (lists address a s) _ _ (λ _. alive a (numbered address a s) s.members w) (λ _. stay address.same lawful.test x w)

  abbrev Mutely : Node A → Type 0
  Mutely s = Mutes address.same lawful.test x s.members.table

  acked-heard : (a : A) (s : Node A) → address.same x a ≡ true → Mutely (handler.acked address a s) → ⊥
  unfolding handler.acked change
  acked-heard a s e =
      pick_case (λ (y : Node A). Mutely y → ⊥) (lists address a s) _ _ (λ _. heard-put address.same lawful.test x a (numbered address a s) s.members e)
      (λ q p. never (sym q ∙ subst (λ (y : A). lists address y s ≡ true) (lawful.test.same_eq x a e) p.0))

  message-hears : (action : Action A) (gs : List (Gossip A)) (s : Node A) (ds : List ℕ) → Each (λ g. Spares g.event) gs → Whole address.same s.members
      → After (λ e. Kept s.members e.node.members) (handler.handle address action gs s ds)
  unfolding handler.handle handler.answer_to handler.forwarded spread
  message-hears (Ping from by) gs s ds sp w = after_then (more-hears s.members _ (handler.admit address from) (gossip-hears gs s ds sp w) (admit-hears from)) (λ o rest e. gives e)
  message-hears (PingReq from about) gs s ds sp w = after_then (gossip-hears gs s ds sp w) (λ o rest e. gives e)
  message-hears (Ack from none) gs s ds sp w = after_then (gossip-hears gs s ds sp w) (λ o rest e. gives (then address.same lawful.test x e (acked-hears from o.node e.whole)))
  message-hears (Ack from (some to)) gs s ds sp w = after_then (gossip-hears gs s ds sp w) (λ o rest e. gives e)

  ack_heard : (from : A) (gs : List (Gossip A)) (s : Node A) (ds : List ℕ) → address.same x from ≡ true → After (λ e. Mutely e.node → ⊥) (handler.handle address (Ack from none) gs s ds)
  unfolding handler.handle handler.forwarded
  ack_heard from gs s ds e = after_then (any (handler.gossip address gs s ds)) (λ o rest _. gives (acked-heard from o.node e))

  -- ---- the calls
  stored_mutes : (s : Node A) → Mutely (loaded (stored address s)) → Mutely s
  unfolding loaded stored
  stored_mutes s p = subst (Mutes address.same lawful.test x) (take_pad list_places (blank_member address) s.members.table) p

  -- no suspicion of x is told by this call
  abbrev SparedBy : Call A → Type 0
  SparedBy (Add a n ds) = Unit {0}
  SparedBy (Receive action gs ds lent) = Each (λ g. Spares g.event) gs
  SparedBy (Step tick ds lent) = Unit {0}
  SparedBy (Timer tick lent) = Unit {0}
  SparedBy (Lends wait) = Unit {0}

  event-told : (e : Event A) → Spares e ⊎ ((n : ℕ) × Names suspicions x n e)
  event-told Nothing = inl tt
  event-told (Joined f a n) = inl tt
  event-told (Recovered f a n) = inl tt
  event-told (Suspected f a n) = by (address.same x a) refl
    where
      by : (u : Bool) → address.same x a ≡ u → (address.same x a ≡ false) ⊎ ((m : ℕ) × Names suspicions x m (Suspected f a n))
      by true e = inr (n, (f, ap (λ (y : A). Suspected f y n) (sym (lawful.test.same_eq x a e))))
      by false e = inl e
  event-told (Deceased f a n) = inl tt

  gossip-told : (gs : List (Gossip A)) → Each (λ g. Spares g.event) gs ⊎ Among (λ g. (n : ℕ) × Names suspicions x n g.event) gs
  gossip-told [] = inl nil
  gossip-told (g ∷ gs) = by (event-told g.event) (gossip-told gs)
    where
      by : Spares g.event ⊎ ((n : ℕ) × Names suspicions x n g.event) → Each (λ g. Spares g.event) gs ⊎ Among (λ g. (n : ℕ) × Names suspicions x n g.event) gs
          → Each (λ g. Spares g.event) (g ∷ gs) ⊎ Among (λ g. (n : ℕ) × Names suspicions x n g.event) (g ∷ gs)
      by (inr q) r = inr (here q)
      by (inl p) (inr r) = inr (there r)
      by (inl p) (inl ps) = inl (cons p ps)

  call-told : (c : Call A) → SparedBy c ⊎ ToldOf x c
  call-told (Add a n ds) = inl tt
  call-told (Receive action gs ds lent) = gossip-told gs
  call-told (Step tick ds lent) = inl tt
  call-told (Timer tick lent) = inl tt
  call-told (Lends wait) = inl tt

  -- a wait for an Ack
  abbrev Awaits : WaitState A → Type 0
  Awaits SendingPing = ⊥
  Awaits (WaitingForPingAck a n) = Unit {0}
  Awaits (SendingPingReq a n) = ⊥
  Awaits (WaitingForPingReqAck a n) = Unit {0}
  Awaits (Declaring a n) = ⊥

  module _ (w : World A) (k : Whole address.same (loaded w.node).members) where
    abbrev Was : Stored A → Type 0
    Was s = Mutely (loaded s) → Mutely (loaded w.node)

    kept-was : (ds : List ℕ) {y : Answer (Effect A)} → After (λ e. Kept (loaded w.node).members e.node.members) y → Was (calls.kept address w.node ds y).node
    kept-was ds halts p = p
    kept-was ds (gives {b = e} q) p = q.back (stored_mutes e.node p)

    message-was : (at : Cause) (ds : List ℕ) {y : Answer (Effect A)} → After (λ e. Kept (loaded w.node).members e.node.members) y → Was (calls.kept_message address w.node at ds y).node
    message-was at ds halts p = p
    message-was at ds (gives {b = e} q) p = q.back (stored_mutes e.node p)

    step-was : (st : WaitState A) (now : ℕ) (ds : List ℕ) → Awaits st → Was (calls.step_of_kept address w.node w.wait ds (D.step address st now (loaded w.node) ds)).outcome.node
    unfolding D.waited
    step-was SendingPing now ds a p = absurd a
    step-was (WaitingForPingAck b n) now ds a p = stored_mutes (loaded w.node) p
    step-was (SendingPingReq b n) now ds a p = absurd a
    step-was (WaitingForPingReqAck b n) now ds a p = stored_mutes (loaded w.node) p
    step-was (Declaring b n) now ds a p = absurd a

    end_was : (v : Fate) (t : Running A) (y : Answer (Out A)) → After (λ o. MembersBy address v t (loaded w.node).members o.node.members) y → Was (calls.kept_end address w.node v (calls.reports address y)).node
    end_was v t _ halts p = p
    end_was Leaves t _ (gives {b = o} q) p = back-remove address.same lawful.test x t.addr (loaded w.node).members k (subst (λ (m : Members A). Mutes address.same lawful.test x m.table) q (stored_mutes o.node p))
    end_was Stays t _ (gives {b = o} q) p = subst (λ (m : Members A). Mutes address.same lawful.test x m.table) q (stored_mutes o.node p)
    end_was Absent t _ (gives {b = o} q) p = subst (λ (m : Members A). Mutes address.same lawful.test x m.table) q (stored_mutes o.node p)

    ends-was : (o : Option ℕ) → Was (calls.ends_at address w.node o).node
    ends-was none p = p
    ends-was (some i) p = end_was (D.fate_at address i (loaded w.node)) (D.timer_at address i (loaded w.node)) (D.end_at address i (loaded w.node) []) (end_list address i (loaded w.node) []) p

    add-was : (a : A) (n : ℕ) (ds : List ℕ) (u : Bool) → lists address a (loaded w.node) ≡ u
        → Was (calls.or_already u w.node (calls.kept address w.node ds (calls.joins address a n (loaded w.node) ds))).node
    add-was a n ds true e p = p
    add-was a n ds false e p = kept-was ds (after_then (enters a n (loaded w.node).members ds k e) (λ m rest b. gives b)) p

    -- silent after a call that tells no suspicion of it, while an Ack is waited for: silent before it
    call-was : (c : Call A) → SparedBy c → Awaits w.wait.state → Was (outcome address c w).outcome.node
    unfolding calls.add_peer calls.message calls.detect calls.end_timer
    call-was (Add a n ds) sp aw =
        first_cases (λ (o : calls.Outcome A). Was o.node) (calls.add_tests address w.node a) (calls.refuses w.node) _ (λ r p. p) (λ _. add-was a n ds (lists address a (loaded w.node)) refl)
    call-was (Receive action gs ds lent) sp aw =
        first_cases (λ (o : calls.Outcome A). Was o.node) (calls.message_tests address w.node action gs lent) (calls.refuses w.node) _ (λ r p. p)
        (λ _. message-was (handler.stops_at address gs (loaded w.node) ds) ds (message-hears action gs (loaded w.node) ds sp k))
    call-was (Step now ds lent) sp aw =
        first_cases (λ (o : calls.StepOutcome A). Was o.outcome.node) (calls.step_tests address w.node w.wait lent) (λ r. record { outcome = calls.refuses w.node r; wait = w.wait }) _ (λ r p. p)
        (λ _.
        elim (D.due w.node.settings w.wait now) as (λ u. Was (calls.when_due u w.node w.wait (calls.step_of_kept address w.node w.wait ds (D.step address w.wait.state now (loaded w.node) ds))).outcome.node) [
          | true ↦ step-was w.wait.state now ds aw
          | false ↦ λ p. p
        ])
    call-was (Timer now lent) sp aw =
        first_cases (λ (o : calls.Outcome A). Was o.node) (calls.timer_tests address w.node lent) (calls.refuses w.node) _ (λ r p. p) (λ _. ends-was (D.first_over address w.node.settings.suspect_timeout now (loaded w.node).timers))
    call-was (Lends wait) sp aw = λ p. p

    -- after an Ack of x's own that was taken in x isn't silent
    is_done : Reply → Bool
    is_done (Done used) = true
    is_done Already = false
    is_done NotDue = false
    is_done Refuted = false
    is_done Gone = false
    is_done (Refused r) = false
    is_done (RefusedAt r at) = false

    abbrev Deaf : calls.Outcome A → Type 0
    Deaf o = (used : ℕ) → o.reply ≡ Done used → Mutely (loaded o.node) → ⊥

    message_deaf : (at : Cause) (ds : List ℕ) {y : Answer (Effect A)} → After (λ e. Mutely e.node → ⊥) y → Deaf (calls.kept_message address w.node at ds y)
    unfolding is_done
    message_deaf at ds halts used e p = never (ap is_done e)
    message_deaf at ds (gives {b = o} q) used e p = q (stored_mutes o.node p)

    action_deaf : (action : Action A) (gs : List (Gossip A)) (ds : List ℕ) (lent : Room) → AckBy x action → Deaf (calls.message address w.node action gs ds lent)
    unfolding calls.message is_done
    action_deaf (Ping from by) gs ds lent a = absurd a
    action_deaf (PingReq from about) gs ds lent a = absurd a
    action_deaf (Ack from none) gs ds lent a =
        first_cases Deaf (calls.message_tests address w.node (Ack from none) gs lent) (calls.refuses w.node) _ (λ r used e p. never (ap is_done e))
        (λ _. message_deaf (handler.stops_at address gs (loaded w.node) ds) ds
        (ack_heard from gs (loaded w.node) ds (subst (λ (y : A). address.same x y ≡ true) (sym a) (lawful.test.same_refl x))))
    action_deaf (Ack from (some to)) gs ds lent a = absurd a

    pub call_deaf : (c : Call A) → AckOf x c → Deaf (outcome address c w).outcome
    call_deaf (Add a n ds) k = absurd k
    call_deaf (Receive action gs ds lent) k = action_deaf action gs ds lent k
    call_deaf (Step tick ds lent) k = absurd k
    call_deaf (Timer tick lent) k = absurd k
    call_deaf (Lends wait) k = absurd k

module _ {A : Type 0} (address : Address A) (lawful : Lawful address) (begins : ℕ → World A) (fresh : (j : ℕ) → Fresh address (begins j)) (j : ℕ) (x : A) where
  abbrev turned : Turn A → List (Turn A) → Bool → World A
  turned t h u = pick u (world_of address (outcome address t.call (worlds address begins h j))) (worlds address begins h j)

  pub not_heard : {P : Turn A → List (Turn A) → Type 0} {h : List (Turn A)} → Awaits address lawful x (worlds address begins h j).wait.state → Silent address x (nodes address begins h j)
      → Latest address begins j P h → Mute address begins j x P h
  not_heard aw s (last p) = opens p
  not_heard {P} aw s (since {t = t} {h = h} e l) = by (λ b z. not_heard b z l) (eqb t.who j) refl
    where
      was_awaited : Awaits address lawful x (worlds address begins h j).wait.state
      was_awaited = subst (λ (y : _). Awaits address lawful x y.state) e aw

      by : (Awaits address lawful x (worlds address begins h j).wait.state → Silent address x (nodes address begins h j) → Mute address begins j x P h) → (u : Bool) → eqb t.who j ≡ u → Mute address begins j x P (t ∷ h)
      by f false q =
          mute (λ a. never (sym q ∙ eq-eqb t.who j a.who))
          (f was_awaited (subst (λ (u : Bool). Silent address x (loaded (turned t h u).node)) q s))
      by f true q = mine (call-told address lawful x t.call)
        where
          now_silent : Silent address x (loaded (turned t h true).node)
          now_silent = subst (λ (u : Bool). Silent address x (loaded (turned t h u).node)) q s

          mine : SparedBy address lawful x t.call ⊎ ToldOf x t.call → Mute address begins j x P (t ∷ h)
          mine (inr z) = told (eqb-true t.who j q) z l
          mine (inl z) =
              let k = whole address lawful (each-alone address lawful begins fresh h j) in
              let v = call-was address lawful x (worlds address begins h j) k t.call z was_awaited (now_silent.listed, now_silent.state) in
              mute
              (λ a. call_deaf address lawful x (worlds address begins h j) k t.call a.ack a.used
              (ap (λ (i : ℕ). (outcome address t.call (worlds address begins h i)).outcome.reply) (sym (eqb-true t.who j q)) ∙ a.kept) (now_silent.listed, now_silent.state))
              (f was_awaited (record { listed = v.0; state = v.1 }))

  -- UNANSWERED. A controller that found x silent when ping_timeout had gone by has taken in no Ack of x's own since the ping, or none since a message told it a suspicion of x
  pub unanswered : (n now : ℕ) (t : Turn A) (h : List (Turn A)) (u : Unheard address begins j x n now t h) → Mute address begins j x (Pinging address begins j x n u.entered) h
  unanswered n now t h u = not_heard (subst (λ (y : _). Awaits address lawful x y.state) (sym u.step.found) tt) u.silent u.pinged

  -- and likewise since the ping requests
  pub still_unanswered : (n now : ℕ) (t : Turn A) (h : List (Turn A)) (u : StillUnheard address begins j x n now t h) → Mute address begins j x (Asking address begins j x n u.entered) h
  still_unanswered n now t h u = not_heard (subst (λ (y : _). Awaits address lawful x y.state) (sym u.step.found) tt) u.silent u.asked
