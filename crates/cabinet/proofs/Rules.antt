-- No rule makes up a record: for any P of an address and a number, if P holds of each record on the topic that a node holds and that it is told, it holds of each that the
-- node then holds, sends and reports. Only the ping-request step says a suspicion of its own, and only an ended timer a death.
-- Assumes nothing.
use mathlib.Core.List.{List, [], ◌∷◌}
use Rattle.std.proofs.Math.Option.{Option, none, some}
use Rattle.std.specs.Prelude.{ℕ, length}
use Rattle.model.specs.declared.Kind.{Kind}
use Rattle.model.specs.declared.Kind.TheVariants as kind
use Rattle.model.specs.declared.Fate.{Fate}
use Rattle.model.specs.declared.Fate.TheVariants.{Leaves, Stays, Absent}
use Rattle.model.specs.Answers.{Answer, done, refused}
use Rattle.model.specs.Words.{Address, Event, Nothing, Joined, Recovered, Suspected, Deceased, Gossip, Entry, unused, sends_of, Message, Action, Ping, PingReq, Ack, Timer, WaitState, SendingPing, WaitingForPingAck, SendingPingReq, WaitingForPingReqAck, Declaring}
use Rattle.model.specs.Limit.{limit_of}
use Rattle.model.specs.Choose.{terms_of, entry_of}
use Rattle.model.specs.Members.{pick_from}
use Rattle.model.specs.Node.{Disseminator, Node, Out, with_members, quiet, and_more, pushed, emit, lists, change, leave, spread}
use Rattle.model.specs.Handler.{Verdict, News, Silent, Emits, list_after, news_of, tell, act, item, gossip, admit, acked, answer_to, forwarded, handle}
use Rattle.model.specs.Detector.{pinged, send_ping, waited, ask_each, suspect, asked, pick_group, send_ping_req, declare, step, by_fate, timer_at, fate_at, freed, end_at}
use Rattle.laws.specs.After.{After, halts, gives, after-when, after_then}
use Rattle.laws_rules.specs.Judged as judged
use Rattle.laws_rules.specs.Judged.{pick_case, Judged, SenderJudged}
use Rattle.cabinet.specs.Each.{nil, cons}
use Rattle.cabinet.proofs.Each.{each_append, each-one}
use Rattle.cabinet.proofs.Heaps.{push-each, cleared-each, choose-each}
use Rattle.cabinet.specs.Cabinets.{Topic, deaths, suspicions, About, InGossip, InMessages}
use Rattle.cabinet.proofs.Passing.{joined_free, recovered_free, suspected-on, deceased-on}
use Rattle.cabinet.specs.Rules.{Heaps, Holds, Told, Does, Spreads, StepDoes, OwnSuspicion, OwnDeath}

-- of any answer
pub any : {B : Type 0} (x : Answer B) → After (λ _. Unit {0}) x
any (refused r) = halts
any (done b ds) = gives tt

module _ {A : Type 0} (address : Address A) (k : Topic) (P : A → ℕ → Type 0) where
  quiet-leaves : (s : Node A) (ds : List ℕ) → (Holds address k P) s → After (Told address k P) (quiet s ds)
  unfolding quiet
  quiet-leaves s ds h = gives (record { node = h; said = nil })

  pushed-holds : (on : _) (j : Kind) (g : Gossip A) (d : Disseminator A) (ds : List ℕ) → About k P g.event → (Heaps address k P) d → After (Heaps address k P) (pushed address on j g d ds)
  unfolding pushed
  pushed-holds on kind.Alive g d ds p h =
      let c = cleared-each address (λ (g : Gossip A). About k P g.event) on kind.Alive g d.alive h.alive in
      after-when (λ _. halts) (λ _. gives (record { alive = push-each (λ (e : Entry A). About k P e.gossip.event) unused sends_of _ (entry_of address g) p c; deceased = h.deceased }))
  pushed-holds on kind.Deceased g d ds p h =
      let c = cleared-each address (λ (g : Gossip A). About k P g.event) on kind.Deceased g d.alive h.alive in
      after-when (λ _. halts) (λ _. gives (record { alive = c; deceased = push-each (λ (e : Entry A). About k P e.gossip.event) unused sends_of _ (entry_of address g) p h.deceased }))

  emit-leaves : (j : Kind) (g : Gossip A) (s : Node A) (ds : List ℕ) → About k P g.event → (Holds address k P) s → After (Told address k P) (emit address j g s ds)
  unfolding emit
  emit-leaves j g s ds p h =
      after_then (pushed-holds s.settings.collect j g s.disseminator ds p h) (λ d rest q. gives (record { node = q; said = each-one p }))

  -- what a verdict says
  abbrev NewsHas : News A → Type 0
  NewsHas Silent = Unit {0}
  NewsHas (Emits j e) = About k P e

  tell-leaves : (n : News A) (s : Node A) (ds : List ℕ) → NewsHas n → (Holds address k P) s → After (Told address k P) (tell address n s ds)
  tell-leaves Silent s ds p h = quiet-leaves s ds h
  tell-leaves (Emits j e) s ds p h = emit-leaves j (record { event = e }) s ds p h

  act-leaves : (v : Verdict A) (s : Node A) (ds : List ℕ) → NewsHas (news_of address v s.own) → (Holds address k P) s → After (Told address k P) (act address v s ds)
  unfolding act
  act-leaves v s ds p h = after_then (any (list_after address v s.members ds)) (λ m rest _. tell-leaves (news_of address v s.own) _ rest p h)

  -- a Suspected and a Deceased gossip are passed on at the number that they came with
  judged-says : (own : A) {t : _} {d : Option ℕ} (e : Event A) (v : Verdict A) → Judged address own t d e v → About k P e → NewsHas (news_of address v own)
  unfolding news_of
  judged-says own _ _ judged.skipped p = tt
  judged-says own _ _ (judged.joined_at_end q) p = tt
  judged-says own _ _ (judged.joined_low least q l m) p = tt
  judged-says own _ _ (judged.joined_raises {a = a} {n = n} least q l m) p = joined_free P k own a _
  judged-says own _ _ (judged.joined-enters {a = a} {n = n} least q l) p = joined_free P k own a _
  judged-says own _ _ (judged.recovered_unknown l) p = tt
  judged-says own _ _ (judged.recovered_low l m) p = tt
  judged-says own _ _ (judged.recovered_recovers {a = a} {n = n} l m) p = recovered_free P k own a n
  judged-says own _ _ (judged.own-at_end o q) p = tt
  judged-says own _ _ (judged.own_refutes next o q) p = recovered_free P k own own next
  judged-says own _ _ (judged.suspected_unknown o l) p = tt
  judged-says own _ _ (judged.suspected_equal o l s q) p = tt
  judged-says own _ _ (judged.suspected_low o l m) p = tt
  judged-says own _ _ (judged.suspected_suspects {f = f} {a = a} {n = n} o l b) p = suspected-on P k f own a n p
  judged-says own _ _ (judged.deceased_unknown l) p = tt
  judged-says own _ _ (judged.deceased_low l m) p = tt
  judged-says own _ _ (judged.deceased_buries {f = f} {a = a} {n = n} l m) p = deceased-on P k f own a n p

  item-leaves : (e : Event A) (s : Node A) (ds : List ℕ) → About k P e → (Holds address k P) s → After (Told address k P) (item address e s ds)
  unfolding item
  item-leaves e s ds p h = act-leaves _ s ds (judged-says s.own e _ (judged.judged address s.own s.members.table _ e) p) h

  sender_says : (own a : A) {t : _} {d : Option ℕ} (v : Verdict A) → SenderJudged address own t d a v → NewsHas (news_of address v own)
  unfolding news_of
  sender_says own a _ (judged.listed_already l) = tt
  sender_says own a _ (judged.sender_at_end l q) = tt
  sender_says own a _ (judged.sender_enters n l q) = joined_free P k own a n

  admit-leaves : (a : A) (s : Node A) (ds : List ℕ) → (Holds address k P) s → After (Told address k P) (admit address a s ds)
  unfolding admit
  admit-leaves a s ds h = act-leaves _ s ds (sender_says s.own a _ (judged.sender_judged address s.own s.members.table _ a)) h

  more-leaves : {x : Answer (Out A)} (f : Node A → List ℕ → Answer (Out A)) → After (Told address k P) x → ((s : Node A) (ds : List ℕ) → (Holds address k P) s → After (Told address k P) (f s ds)) → After (Told address k P) (and_more x f)
  unfolding and_more
  more-leaves f h g =
      after_then h (λ o rest p. after_then (g o.node rest p.node) (λ o₂ rest₂ q. gives (record { node = q.node; said = each_append p.said q.said })))

  gossip-leaves : (gs : List (Gossip A)) (s : Node A) (ds : List ℕ) → InGossip k P gs → (Holds address k P) s → After (Told address k P) (gossip address gs s ds)
  gossip-leaves _ s ds nil h = quiet-leaves s ds h
  gossip-leaves _ s ds (cons {x = g} {l = gs} p ps) h = more-leaves (gossip address gs) (item-leaves g.event s ds p h) (λ s' rest h'. gossip-leaves gs s' rest ps h')

  -- an Ack without forward_to moves the list alone
  on-acked : (a : A) (s : Node A) → (Holds address k P) s → (Holds address k P) (acked address a s)
  unfolding acked change
  on-acked a s h = pick_case (Holds address k P) (lists address a s) _ _ (λ _. h) (λ _. h)

  spread-holds : (s : Node A) → (Holds address k P) s → (Spreads address k P) (spread address s)
  unfolding spread
  spread-holds s h =
      let c = choose-each address (λ (g : Gossip A). About k P g.event)
      (terms_of s.settings.max_selected s.settings.max_size (limit_of (length s.members.table) s.settings.send_constant))
      s.disseminator.alive s.disseminator.deceased h.alive h.deceased in
      record { node = record { alive = c.alive; deceased = c.deceased }; gossip = c.chosen }

  answer_does : (target : A) (action : Action A) (o : Out A) → (Told address k P) o → (Does address k P) (answer_to address target action o)
  unfolding answer_to
  answer_does target action o h = let c = spread-holds o.node h.node in record { node = c.node; messages = each-one c.gossip; events = h.said }

  -- a forwarded Ack has the gossip that came
  forwarded_does : (from : A) (to : Option A) (gs : List (Gossip A)) (o : Out A) → InGossip k P gs → (Told address k P) o → (Does address k P) (forwarded address from to gs o)
  unfolding forwarded
  forwarded_does from none gs o ps h = record { node = on-acked from o.node h.node; messages = nil; events = h.said }
  forwarded_does from (some to) gs o ps h = record { node = h.node; messages = each-one ps; events = h.said }

  pub handle_does : (action : Action A) (gs : List (Gossip A)) (s : Node A) (ds : List ℕ) → InGossip k P gs → (Holds address k P) s → After (Does address k P) (handle address action gs s ds)
  unfolding handle
  handle_does (Ping from by) gs s ds ps h =
      after_then (more-leaves (admit address from) (gossip-leaves gs s ds ps h) (λ s' rest h'. admit-leaves from s' rest h')) (λ o rest l. gives (answer_does _ _ o l))
  handle_does (PingReq from about) gs s ds ps h = after_then (gossip-leaves gs s ds ps h) (λ o rest l. gives (answer_does _ _ o l))
  handle_does (Ack from to) gs s ds ps h = after_then (gossip-leaves gs s ds ps h) (λ o rest l. gives (forwarded_does from to gs o ps l))

  pinged_does : (now : ℕ) (gs : List (Gossip A)) (s : Node A) (picks : List A) → InGossip k P gs → (Holds address k P) s → (Does address k P) (pinged address now gs s picks).effect
  unfolding pinged change
  pinged_does now gs s [] ps h = record { node = h; messages = nil; events = nil }
  pinged_does now gs s (a ∷ picks) ps h = record { node = h; messages = each-one ps; events = nil }

  ping_does : (now : ℕ) (s : Node A) (ds : List ℕ) → (Holds address k P) s → (StepDoes address k P) (send_ping address now s ds)
  unfolding send_ping
  ping_does now s ds h =
      let c = spread-holds s h in
      after_then (any (pick_from address.same address.blank s.own none 1 s.members ds))
      (λ p rest _. gives (pinged_does now (spread address s).gossip (with_members (spread address s).node p.members) p.picks c.gossip c.node))

  each_does : (a : A) (picks : List A) (s : Node A) (sent : List (Message A)) → InMessages k P sent → (Holds address k P) s → (Does address k P) (ask_each address a picks s sent)
  each_does a [] s sent ms h = record { node = h; messages = ms; events = nil }
  each_does a (b ∷ picks) s sent ms h = let c = spread-holds s h in each_does a picks (spread address s).node _ (each_append ms (each-one c.gossip)) c.node

  pub ask_does : (a : A) (n now : ℕ) (s : Node A) (ds : List ℕ) → About k P (Suspected s.own a n) → (Holds address k P) s → (StepDoes address k P) (send_ping_req address a n now s ds)
  unfolding send_ping_req suspect asked change
  ask_does a n now s ds q h =
      after_then (emit-leaves kind.Alive (record { event = Suspected s.own a n }) _ ds q h)
      (λ o rest l. after_then (any (pick_group address a o.node rest))
      (λ p rest₂ _.
      let e = each_does a p.picks (with_members o.node p.members) [] nil l.node in
      gives (record { node = e.node; messages = e.messages; events = l.said })))

  declare_does : (a : A) (n now : ℕ) (s : Node A) (ds : List ℕ) → (Holds address k P) s → (StepDoes address k P) (declare address a n now s ds)
  unfolding declare
  declare_does a n now s ds h = after-when (λ _. halts) (λ _. gives (record { node = h; messages = nil; events = nil }))

  waited_does : (a : A) (next : WaitState A) (now : ℕ) (s : Node A) (ds : List ℕ) → (Holds address k P) s → (StepDoes address k P) (waited address a next now s ds)
  unfolding waited
  waited_does a next now s ds h = gives (record { node = h; messages = nil; events = nil })

  pub step_does : (st : WaitState A) (now : ℕ) (s : Node A) (ds : List ℕ) → (OwnSuspicion address k P) st s.own → (Holds address k P) s → (StepDoes address k P) (step address st now s ds)
  step_does SendingPing now s ds d h = ping_does now s ds h
  step_does (WaitingForPingAck a n) now s ds d h = waited_does a _ now s ds h
  step_does (SendingPingReq a n) now s ds d h = ask_does a n now s ds d h
  step_does (WaitingForPingReqAck a n) now s ds d h = waited_does a _ now s ds h
  step_does (Declaring a n) now s ds d h = declare_does a n now s ds h

  fate-leaves : (v : Fate) (t : Timer A) (s : Node A) (ds : List ℕ) → (OwnDeath address k P) v t s.own → (Holds address k P) s → After (Told address k P) (by_fate address v t s ds)
  unfolding by_fate leave
  fate-leaves Leaves t s ds p h = emit-leaves kind.Deceased (record { event = Deceased s.own t.addr t.number }) _ ds p h
  fate-leaves Stays t s ds p h = quiet-leaves s ds h
  fate-leaves Absent t s ds p h = quiet-leaves s ds h

  pub end_leaves : (i : ℕ) (s : Node A) (ds : List ℕ) → (OwnDeath address k P) (fate_at address i s) (timer_at address i s) s.own → (Holds address k P) s → After (Told address k P) (end_at address i s ds)
  unfolding end_at
  end_leaves i s ds p h = fate-leaves (fate_at address i s) (timer_at address i s) (freed address i s) ds p h

module _ {A : Type 0} where
  -- where P holds, Q holds
  pub about-map : {P Q : A → ℕ → Type 0} (k : Topic) → ((x : A) (n : ℕ) → P x n → Q x n) → (e : Event A) → About k P e → About k Q e
  about-map deaths f Nothing p = tt
  about-map deaths f (Joined g x n) p = tt
  about-map deaths f (Recovered g x n) p = tt
  about-map deaths f (Suspected g x n) p = tt
  about-map deaths f (Deceased g x n) p = f x n p
  about-map suspicions f Nothing p = tt
  about-map suspicions f (Joined g x n) p = tt
  about-map suspicions f (Recovered g x n) p = tt
  about-map suspicions f (Suspected g x n) p = f x n p
  about-map suspicions f (Deceased g x n) p = tt
