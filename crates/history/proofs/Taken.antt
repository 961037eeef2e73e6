-- What a call collects: at each rule that pushes, those of the alive heap before it that met the condition go, and how many they are is told; else both heaps are 01's. For any type of address,
-- any node and any call.
-- Assumes nothing.
use Rattle.std.specs.Prelude.{◌≡◌, Bool, ℕ, ◌+◌}
use Rattle.std.proofs.Math.Path.{refl}
use Rattle.std.proofs.Common.{subst, arith}
use Rattle.std.proofs.Math.Bool.{true, false}
use mathlib.Core.List.{List, [], ◌∷◌, ◌++◌}
use Rattle.std.proofs.Math.Option.{Option, none, some}
use Rattle.model.specs.declared.Kind.{Kind}
use Rattle.model.specs.declared.Kind.TheVariants as kind
use Rattle.model.specs.declared.Cause.{Cause}
use Rattle.model.specs.declared.Fate.{Fate}
use Rattle.model.specs.declared.Fate.TheVariants.{Leaves, Stays, Absent}
use Rattle.model.specs.declared.Reply.{Reply}
use Rattle.model.specs.declared.Reply.TheVariants.{Done, Already, NotDue, Refuted, Gone, Refused, RefusedAt}
use Rattle.model.specs.Answers.{Answer, done, refused, and_then}
use Rattle.model.specs.Words.{Address, Event, Suspected, Deceased, Gossip, unused, sends_of, Action, Ping, PingReq, Ack, WaitState, SendingPing, WaitingForPingAck, SendingPingReq, WaitingForPingReqAck, Declaring, Wait, Timer, Departed}
use Rattle.model.specs.Heap.{push}
use Rattle.model.specs.Choose.{entry_of}
use Rattle.model.specs.Members as list
use Rattle.model.specs.Node.{Disseminator, Node, Out, Effect, Stored, loaded, with_heap, heap_of, with_members, with_lists, quiet, and_more, collecting, pushed, emit, lists, change, leave}
use Rattle.model.specs.Handler as handler
use Rattle.model.specs.Detector as D
use Rattle.model.specs.Calls as calls
use Rattle.laws.specs.After.{After, halts, gives, after-when, after_then}
use Rattle.history.specs.Moments.{Deed, Told, Sender, Added, Ended, Other, Moment, moment, silent, trace_then, stepped, trace_gossip, trace_spread, trace_admit, trace_ack, trace_message, trace_timer, ended_deed}
use Rattle.history.proofs.Worlds.{first_cases}
use Rattle.history.specs.Histories.{World, Call, Add, Receive, Step, Timer as TimerCall, Lends, outcome, moments_by, ending_at, rules_of, idle_of, moments}
use Rattle.history.specs.Taken.{heap_for, outdated_by, collected_in, heaps_after, Took, Takes, StepTakes, PushedAt, Pushed}

after_any : {B : Type 0} (x : Answer B) → After (λ _. Unit {0}) x
after_any (refused r) = halts
after_any (done b rest) = gives tt

module _ {A : Type 0} (address : Address A) where
  collected_append : (ms ns : List (Moment A)) → (collected_in address) (ms ++ ns) ≡ (collected_in address) ms + (collected_in address) ns
  collected_append [] ns = omega arith
  collected_append (m ∷ ms) ns = omega (arith, collected_append ms ns)

  heaps_of : (on : Bool) (k : Kind) (g : Gossip A) (d : Disseminator A)
      → let c = collecting address on k g d in with_heap k (push unused sends_of (heap_of k c) (entry_of address g)) c ≡ (heaps_after address) on k g d
  heaps_of on kind.Alive g d = refl
  heaps_of on kind.Deceased g d = refl

  emit_takes : (e : Event A) (s : Node A) (m : list.Members A) (ts : List (Timer A)) (gone : List (Departed A)) (ds : List ℕ)
      → (Takes address) s (emit address ((heap_for address) e) (record { event = e }) (record { settings = s.settings; own = s.own; members = m; disseminator = s.disseminator; timers = ts; departed = gone }) ds)
  unfolding emit pushed
  emit_takes e s m ts gone ds =
      let g : Gossip A = record { event = e } in
      let on = s.settings.collect in
      after_then {P = λ d. d ≡ (heaps_after address) on ((heap_for address) e) g s.disseminator} (after-when (λ _. halts) (λ _. gives (heaps_of on ((heap_for address) e) g s.disseminator)))
      (λ d rest p. gives (record { told = omega arith; heaps = p; settings = refl }))

  -- what a verdict emits goes to its heap
  abbrev Goes : handler.News A → Type 0
  Goes handler.Silent = Unit {0}
  Goes (handler.Emits k e) = (heap_for address) e ≡ k

  news-goes : (v : handler.Verdict A) (own : A) → Goes (handler.news_of address v own)
  unfolding handler.news_of
  news-goes handler.Skip own = tt
  news-goes handler.Unknown own = tt
  news-goes handler.Equal own = tt
  news-goes handler.Low own = tt
  news-goes handler.AtEnd own = tt
  news-goes (handler.Refute n) own = refl
  news-goes (handler.Enter a n) own = refl
  news-goes (handler.Raise a n) own = refl
  news-goes (handler.Recover a n) own = refl
  news-goes (handler.Suspect a n) own = refl
  news-goes (handler.Bury a n) own = refl

  quiet_takes : (s s' : Node A) (ds : List ℕ) → s'.disseminator ≡ s.disseminator → s'.settings ≡ s.settings → (Takes address) s (quiet s' ds)
  unfolding quiet
  quiet_takes s s' ds e f = gives {b = record { node = s'; said = []; collected = 0 }} (record { told = refl; heaps = e; settings = f })

  tell_takes : (w : handler.News A) (s : Node A) (m : list.Members A) (gone : List (Departed A)) (ds : List ℕ) → Goes w → (Takes address) s (handler.tell address w (with_lists s m gone) ds)
  tell_takes handler.Silent s m gone ds h = quiet_takes s (with_lists s m gone) ds refl refl
  tell_takes (handler.Emits k e) s m gone ds h = subst (λ (j : Kind). (Takes address) s (emit address j (record { event = e }) (with_lists s m gone) ds)) h (emit_takes e s m s.timers gone ds)

  act_takes : (v : handler.Verdict A) (s : Node A) (ds : List ℕ) → (Takes address) s (handler.act address v s ds)
  unfolding handler.act
  act_takes v s ds = after_then (after_any (handler.list_after address v s.members ds)) (λ m rest _. tell_takes (handler.news_of address v s.own) s m _ rest (news-goes v s.own))

  pub item_takes : (e : Event A) (s : Node A) (ds : List ℕ) → (Takes address) s (handler.item address e s ds)
  unfolding handler.item
  item_takes e s ds = act_takes _ s ds

  pub admit_takes : (a : A) (s : Node A) (ds : List ℕ) → (Takes address) s (handler.admit address a s ds)
  unfolding handler.admit
  admit_takes a s ds = act_takes _ s ds

  pub suspect_takes : (a : A) (n : ℕ) (s : Node A) (ds : List ℕ) → (Takes address) s (D.suspect address a n s ds)
  unfolding D.suspect change
  suspect_takes a n s ds = emit_takes (Suspected s.own a n) s _ _ _ ds

  pub end_takes : (i : ℕ) (s : Node A) (ds : List ℕ) → (Takes address) s (D.end_at address i s ds)
  unfolding D.end_at D.by_fate leave
  end_takes i s ds = by (D.fate_at address i s)
    where
      by : (v : Fate) → (Takes address) s (D.by_fate address v (D.timer_at address i s) (D.freed address i s) ds)
      by Leaves = emit_takes (Deceased s.own (D.timer_at address i s).addr (D.timer_at address i s).number) s _ _ _ ds
      by Stays = quiet_takes s (D.freed address i s) ds refl refl
      by Absent = quiet_takes s (D.freed address i s) ds refl refl

  -- ---- and its moments
  abbrev Counts : List (Moment A) → Answer (Out A) → Type 0
  Counts ms x = After (λ o. o.collected ≡ (collected_in address) ms) x

  one : (d : Deed A) (s : Node A) (x : Answer (Out A)) → (Takes address) s x → Counts (moment d s x) x
  one d s _ halts = halts
  one d s _ (gives {b = o} p) = gives {b = o} (omega (arith, p.told))

  -- one rule after another
  more : (ms : List (Moment A)) (x : Answer (Out A)) (l : Node A → List ℕ → List (Moment A)) (k : Node A → List ℕ → Answer (Out A)) → Counts ms x
      → ((s : Node A) (ds : List ℕ) → Counts (l s ds) (k s ds)) → Counts (ms ++ trace_then x l) (and_more x k)
  unfolding and_more
  more ms _ l k halts f = halts
  more ms _ l k (gives {b = o} {ds = rest} p) f =
      after_then (f o.node rest) (λ q rest₂ u. gives (omega (arith, p, u, collected_append ms (l o.node rest))))

  -- moments that collect nothing
  behind : (ms : List (Moment A)) (x : Answer (Out A)) (l : Node A → List ℕ → List (Moment A)) → ((s : Node A) (ds : List ℕ) → (collected_in address) (l s ds) ≡ 0) → Counts ms x → Counts (ms ++ trace_then x l) x
  behind ms _ l h halts = halts
  behind ms _ l h (gives {b = o} {ds = rest} p) = gives {b = o} (omega (arith, p, h o.node rest, collected_append ms (l o.node rest)))

  gossip-counts : (gs : List (Gossip A)) (s : Node A) (ds : List ℕ) → Counts (trace_gossip address gs s ds) (handler.gossip address gs s ds)
  unfolding quiet
  gossip-counts [] s ds = gives {b = record { node = s; said = []; collected = 0 }} refl
  gossip-counts (g ∷ gs) s ds =
      more (moment (Told g.event) s (handler.item address g.event s ds)) (handler.item address g.event s ds) (trace_gossip address gs) (handler.gossip address gs)
      (one (Told g.event) s (handler.item address g.event s ds) (item_takes g.event s ds)) (gossip-counts gs)

  abbrev CountsEffect : List (Moment A) → Answer (Effect A) → Type 0
  CountsEffect ms x = After (λ e. e.collected ≡ (collected_in address) ms) x

  admit-counts : (from : A) (s : Node A) (ds : List ℕ) → Counts (trace_admit address from s ds) (handler.admit address from s ds)
  admit-counts from s ds =
      behind (moment (Sender from) s (handler.admit address from s ds)) (handler.admit address from s ds) (λ s' rest. trace_spread address s') (λ s' rest. refl)
      (one (Sender from) s (handler.admit address from s ds) (admit_takes from s ds))

  handle-counts : (action : Action A) (gs : List (Gossip A)) (s : Node A) (ds : List ℕ) → CountsEffect (trace_message address action gs s ds) (handler.handle address action gs s ds)
  unfolding handler.handle handler.answer_to handler.forwarded
  handle-counts (Ping from by) gs s ds =
      after_then (more (trace_gossip address gs s ds) (handler.gossip address gs s ds) (trace_admit address from) (handler.admit address from) (gossip-counts gs s ds) (admit-counts from)) (λ o rest p. gives p)
  handle-counts (PingReq from suspect) gs s ds =
      after_then (behind (trace_gossip address gs s ds) (handler.gossip address gs s ds) (λ s' rest. trace_spread address s') (λ s' rest. refl) (gossip-counts gs s ds)) (λ o rest p. gives p)
  handle-counts (Ack from none) gs s ds =
      after_then (behind (trace_gossip address gs s ds) (handler.gossip address gs s ds) (λ s' rest. trace_ack address from none s') (λ s' rest. refl) (gossip-counts gs s ds)) (λ o rest p. gives p)
  handle-counts (Ack from (some to)) gs s ds =
      after_then (behind (trace_gossip address gs s ds) (handler.gossip address gs s ds) (λ s' rest. trace_ack address from (some to) s') (λ s' rest. refl) (gossip-counts gs s ds)) (λ o rest p. gives p)

  pinged_takes : (now : ℕ) (gs : List (Gossip A)) (s₀ s : Node A) (picks : List A) → (D.pinged address now gs s picks).effect.collected ≡ (outdated_by address) s₀ (D.pinged address now gs s picks).effect.events
  unfolding D.pinged
  pinged_takes now gs s₀ s [] = refl
  pinged_takes now gs s₀ s (a ∷ picks) = refl

  pub step_takes : (st : WaitState A) (now : ℕ) (s : Node A) (ds : List ℕ) → (StepTakes address) s (D.step address st now s ds)
  unfolding D.send_ping D.waited D.send_ping_req D.asked D.declare
  step_takes SendingPing now s ds = after_then (after_any (list.pick_from address.same address.blank s.own none 1 s.members ds)) (λ p rest _. gives (pinged_takes now _ s _ p.picks))
  step_takes (WaitingForPingAck a n) now s ds = gives refl
  step_takes (SendingPingReq a n) now s ds =
      after_then (suspect_takes a n s ds) (λ o rest q. after_then (after_any (D.pick_group address a o.node rest)) (λ p rest₂ _. gives q.told))
  step_takes (WaitingForPingReqAck a n) now s ds = gives refl
  step_takes (Declaring a n) now s ds = after-when (λ _. halts) (λ _. gives refl)

  step_counts : (s : Node A) (x : Answer (D.Stepped A)) → (StepTakes address) s x → After (λ e. e.effect.collected ≡ (collected_in address) (stepped s x)) x
  step_counts s _ halts = halts
  step_counts s _ (gives {b = e} p) = gives {b = e} (omega (arith, p))

  -- ---- the calls: a refused one collects nothing
  module _ (s : Stored A) where
    abbrev Agrees : List (Moment A) → List (Moment A) → calls.Outcome A → Type 0
    Agrees ms idle o = o.collected ≡ (collected_in address) (moments_by address o.reply ms idle)

    kept-agrees : (ms idle : List (Moment A)) (ds : List ℕ) (x : Answer (Effect A)) → CountsEffect ms x → Agrees ms idle (calls.kept address s ds x)
    kept-agrees ms idle ds _ halts = refl
    kept-agrees ms idle ds _ (gives p) = p

    message-agrees : (ms : List (Moment A)) (at : Cause) (ds : List ℕ) (x : Answer (Effect A)) → CountsEffect ms x → Agrees ms [] (calls.kept_message address s at ds x)
    message-agrees ms at ds _ halts = refl
    message-agrees ms at ds _ (gives p) = p

    step-agrees : (ms : List (Moment A)) (w : Wait A) (ds : List ℕ) (x : Answer (D.Stepped A)) → After (λ e. e.effect.collected ≡ (collected_in address) ms) x → Agrees ms [] (calls.step_of_kept address s w ds x).outcome
    step-agrees ms w ds _ halts = refl
    step-agrees ms w ds _ (gives p) = p

    end_agrees : (v : Fate) (ms : List (Moment A)) (x : Answer (Out A)) → Counts ms x → Agrees ms [] (calls.kept_end address s v (calls.reports address x))
    end_agrees v ms _ halts = refl
    end_agrees Leaves ms _ (gives p) = p
    end_agrees Stays ms _ (gives p) = p
    end_agrees Absent ms _ (gives p) = p

    add-agrees : (b : A) (n : ℕ) (ds : List ℕ) (x : Answer (list.Members A)) → let t = loaded s in
        Agrees (moment (Added b n) t (and_then x λ m rest. done (record { node = with_members t m; said = []; collected = 0 }) rest)) (silent (Added b n) t t)
        (calls.kept address s ds (and_then x λ m rest. done (record { node = with_members t m; messages = []; events = []; collected = 0 }) rest))
    add-agrees b n ds (refused r) = refl
    add-agrees b n ds (done m rest) = refl

    timer_agrees : (o : Option ℕ) → Agrees (ending_at address o (loaded s)) [] (calls.ends_at address s o)
    timer_agrees none = refl
    timer_agrees (some i) =
        end_agrees (D.fate_at address i (loaded s)) (trace_timer address i (loaded s)) (D.end_at address i (loaded s) [])
        (one (ended_deed address (D.timer_at address i (loaded s))) (loaded s) (D.end_at address i (loaded s) []) (end_takes i (loaded s) []))

  -- "The number collected is reported and equals the count of held events that met the condition."
  pub collected_is : (c : Call A) (w : World A) → (outcome address c w).outcome.collected ≡ (collected_in address) (moments address c w)
  unfolding calls.add_peer calls.message calls.detect calls.end_timer loaded
  collected_is (Add b n ds) w =
      let s = w.node in
      let t = loaded s in
      first_cases (Agrees s (moment (Added b n) t (and_then (list.add address.same b n t.members ds) λ m rest. done (record { node = with_members t m; said = []; collected = 0 }) rest)) (silent (Added b n) t t))
      (calls.add_tests address s b) (calls.refuses s) _ (λ r. refl)
      (λ _. elim (lists address b t) as (λ u. Agrees s (moment (Added b n) t (and_then (list.add address.same b n t.members ds) λ m rest. done (record { node = with_members t m; said = []; collected = 0 }) rest)) (silent (Added b n) t t)
      (calls.or_already u s (calls.kept address s ds (calls.joins address b n t ds)))) [
        | true ↦ refl
        | false ↦ add-agrees s b n ds (list.add address.same b n t.members ds)
      ])
  collected_is (Receive action gs ds lent) w =
      let s = w.node in
      first_cases (Agrees s (trace_message address action gs (loaded s) ds) []) (calls.message_tests address s action gs lent) (calls.refuses s) _ (λ r. refl)
      (λ _. message-agrees s (trace_message address action gs (loaded s) ds) _ ds (handler.handle address action gs (loaded s) ds) (handle-counts action gs (loaded s) ds))
  collected_is (Step now ds lent) w =
      let s = w.node in
      let ms : List (Moment A) = stepped (loaded s) (D.step address w.wait.state now (loaded s) ds) in
      first_cases (λ (o : calls.StepOutcome A). Agrees s ms [] o.outcome) (calls.step_tests address s w.wait lent) (λ r. record { outcome = calls.refuses s r; wait = w.wait }) _ (λ r. refl)
      (λ _. elim (D.due s.settings w.wait now) as (λ u. Agrees s ms [] (calls.when_due u s w.wait (calls.step_of_kept address s w.wait ds (D.step address w.wait.state now (loaded s) ds))).outcome) [
        | true ↦ step-agrees s ms w.wait ds (D.step address w.wait.state now (loaded s) ds) (step_counts (loaded s) (D.step address w.wait.state now (loaded s) ds) (step_takes w.wait.state now (loaded s) ds))
        | false ↦ refl
      ])
  collected_is (TimerCall now lent) w =
      let s = w.node in
      first_cases (Agrees s (ending_at address (D.first_over address (loaded s).settings.suspect_timeout now (loaded s).timers) (loaded s)) []) (calls.timer_tests address s lent) (calls.refuses s) _ (λ r. refl)
      (λ _. timer_agrees s (D.first_over address (loaded s).settings.suspect_timeout now (loaded s).timers))
  collected_is (Lends wait) w = refl

  pushed_at : (d : Deed A) (s : Node A) (o : Out A) → (Took address) s o → (PushedAt address) d s o.said o.node
  pushed_at (Told e) s o p = p.heaps
  pushed_at (Sender a) s o p = p.heaps
  pushed_at (Added a n) s o p = p.heaps
  pushed_at (Ended a n) s o p = p.heaps
  pushed_at Other s o p = tt

  pushed-one : (d : Deed A) (s : Node A) (x : Answer (Out A)) → (Takes address) s x → (Pushed address) (moment d s x)
  pushed-one d s _ halts = tt
  pushed-one d s _ (gives {b = o} p) = (pushed_at d s o p, tt)

  pushed-append : (ms ns : List (Moment A)) → (Pushed address) ms → (Pushed address) ns → (Pushed address) (ms ++ ns)
  pushed-append [] ns p q = q
  pushed-append (m ∷ ms) ns p q = (p.0, pushed-append ms ns p.1 q)

  pushed_then : (x : Answer (Out A)) (l : Node A → List ℕ → List (Moment A)) → ((s : Node A) (ds : List ℕ) → (Pushed address) (l s ds)) → (Pushed address) (trace_then x l)
  pushed_then (refused r) l f = tt
  pushed_then (done o rest) l f = f o.node rest

  pushed-gossip : (gs : List (Gossip A)) (s : Node A) (ds : List ℕ) → (Pushed address) (trace_gossip address gs s ds)
  pushed-gossip [] s ds = tt
  pushed-gossip (g ∷ gs) s ds =
      let x = handler.item address g.event s ds in
      pushed-append (moment (Told g.event) s x) (trace_then x (trace_gossip address gs)) (pushed-one (Told g.event) s x (item_takes g.event s ds))
      (pushed_then x (trace_gossip address gs) (pushed-gossip gs))

  pushed-admit : (from : A) (s : Node A) (ds : List ℕ) → (Pushed address) (trace_admit address from s ds)
  pushed-admit from s ds =
      let x = handler.admit address from s ds in
      pushed-append (moment (Sender from) s x) (trace_then x (λ s' rest. trace_spread address s')) (pushed-one (Sender from) s x (admit_takes from s ds))
      (pushed_then x (λ s' rest. trace_spread address s') (λ s' rest. (tt, tt)))

  pushed_ack : (from : A) (to : Option A) (s : Node A) → (Pushed address) (trace_ack address from to s)
  pushed_ack from none s = (tt, tt)
  pushed_ack from (some to) s = tt

  pushed-behind : (gs : List (Gossip A)) (s : Node A) (ds : List ℕ) (l : Node A → List ℕ → List (Moment A)) → ((s' : Node A) (rest : List ℕ) → (Pushed address) (l s' rest))
      → (Pushed address) (trace_gossip address gs s ds ++ trace_then (handler.gossip address gs s ds) l)
  pushed-behind gs s ds l f =
      pushed-append (trace_gossip address gs s ds) (trace_then (handler.gossip address gs s ds) l) (pushed-gossip gs s ds) (pushed_then (handler.gossip address gs s ds) l f)

  pushed-message : (action : Action A) (gs : List (Gossip A)) (s : Node A) (ds : List ℕ) → (Pushed address) (trace_message address action gs s ds)
  pushed-message (Ping from by) gs s ds = pushed-behind gs s ds (trace_admit address from) (pushed-admit from)
  pushed-message (PingReq from suspect) gs s ds = pushed-behind gs s ds (λ s' rest. trace_spread address s') (λ s' rest. (tt, tt))
  pushed-message (Ack from to) gs s ds = pushed-behind gs s ds (λ s' rest. trace_ack address from to s') (λ s' rest. pushed_ack from to s')

  pushed-step : (s : Node A) (x : Answer (D.Stepped A)) → (Pushed address) (stepped s x)
  pushed-step s (refused r) = tt
  pushed-step s (done e rest) = (tt, tt)

  pushed_end : (o : Option ℕ) (s : Node A) → (Pushed address) (ending_at address o s)
  pushed_end none s = tt
  pushed_end (some i) s = pushed-one (ended_deed address (D.timer_at address i s)) s (D.end_at address i s []) (end_takes i s [])

  pushed-rules : (c : Call A) (s : Node A) (w : Wait A) → (Pushed address) (rules_of address c s w)
  pushed-rules (Add b n ds) s w =
      pushed-one (Added b n) s (and_then (list.add address.same b n s.members ds) λ m rest. done (record { node = with_members s m; said = []; collected = 0 }) rest)
      (after_then (after_any (list.add address.same b n s.members ds)) (λ m rest _. gives {b = record { node = with_members s m; said = []; collected = 0 }} {ds = rest} (record { told = refl; heaps = refl; settings = refl })))
  pushed-rules (Receive action gs ds lent) s w = pushed-message action gs s ds
  pushed-rules (Step now ds lent) s w = pushed-step s (D.step address w.state now s ds)
  pushed-rules (TimerCall now lent) s w = pushed_end (D.first_over address s.settings.suspect_timeout now s.timers) s
  pushed-rules (Lends wait) s w = tt

  pushed_idle : (c : Call A) (s : Node A) → (Pushed address) (idle_of address c s)
  pushed_idle (Add b n ds) s = (refl, tt)
  pushed_idle (Receive action gs ds lent) s = tt
  pushed_idle (Step now ds lent) s = tt
  pushed_idle (TimerCall now lent) s = tt
  pushed_idle (Lends wait) s = tt

  pushed-by : (r : Reply) (ran idle : List (Moment A)) → (Pushed address) ran → (Pushed address) idle → (Pushed address) (moments_by address r ran idle)
  pushed-by (Done used) ran idle p q = p
  pushed-by Already ran idle p q = q
  pushed-by NotDue ran idle p q = tt
  pushed-by Refuted ran idle p q = p
  pushed-by Gone ran idle p q = p
  pushed-by (Refused r) ran idle p q = tt
  pushed-by (RefusedAt r at) ran idle p q = tt

  pub heaps_are : (c : Call A) (w : World A) → (Pushed address) (moments address c w)
  heaps_are c w =
      pushed-by (outcome address c w).outcome.reply (rules_of address c (loaded w.node) w.wait) (idle_of address c (loaded w.node))
      (pushed-rules c (loaded w.node) w.wait) (pushed_idle c (loaded w.node))
