-- No call makes up a record: what it holds, sends and reports after it, it held or was told before it, but for the suspicion of a ping-request step and the death of an
-- ended timer.
-- Assumes nothing.
use Rattle.std.specs.Prelude.{◌≡◌, ℕ}
use Rattle.std.proofs.Math.Path.{refl}
use Rattle.std.proofs.Common.{sym, subst}
use Rattle.std.proofs.Math.Bool.{true, false}
use mathlib.Core.List.{List, []}
use Rattle.std.proofs.Math.Option.{Option, none, some}
use Rattle.model.specs.declared.Cause.{Cause}
use Rattle.model.specs.declared.Reply.{Reply}
use Rattle.model.specs.declared.Fate.{Fate}
use Rattle.model.specs.declared.Fate.TheVariants.{Leaves, Stays, Absent}
use Rattle.model.specs.Answers.{Answer, done, refused, and_then}
use Rattle.model.specs.Bounds.{Room, heap_places}
use Rattle.model.specs.Words.{Address, Gossip, unused, Action, Timer as Running, Wait, WaitState, SendingPing, WaitingForPingAck, SendingPingReq, WaitingForPingReqAck, Declaring}
use Rattle.model.specs.Members.{Members, add}
use Rattle.model.specs.Node.{Node, Out, Effect, Stored, loaded, stored, with_members, quiet, pushed, emit, lists, leave}
use Rattle.model.specs.Handler.{stops_at}
use Rattle.model.specs.Detector.{Stepped, send_ping, waited, suspect, asked, pick_group, send_ping_req, declare, step, due, first_over, timer_at, fate_at, freed, by_fate, end_at}
use Rattle.model.specs.Calls.{Outcome, StepOutcome, refuses, unchanged, or_already, when_due, kept, kept_message, step_of_kept, kept_end, joins, add_tests, message_tests, step_tests, timer_tests, add_peer, message, detect, reports, ends_at, end_timer}
use Rattle.laws.specs.After.{After, halts, gives, given, after_then}
use Rattle.laws.specs.Pad.{take_pad}
use Rattle.history.specs.Histories.{World, Call, Add, Receive, Step, Timer, Lends, outcome}
use Rattle.history.proofs.Worlds.{first_cases}
use Rattle.cabinet.specs.Each.{nil}
use Rattle.cabinet.specs.Cabinets.{Topic, deaths, InGossip, InMessages}
use Rattle.cabinet.specs.Rules.{Holds, Told, Does, StepDoes, OwnSuspicion, OwnDeath}
use Rattle.cabinet.proofs.Rules.{any, handle_does, step_does, end_leaves}
use Rattle.cabinet.specs.Calls.{Tells, SaysBy, Gives, AsksHave, EndsHave, OwnHave}

module _ {A : Type 0} where
  -- a ping-request step went on to wait
  abbrev AskedTo : WaitState A → WaitState A → Type 0
  AskedTo SendingPing st = Unit {0}
  AskedTo (WaitingForPingAck a n) st = Unit {0}
  AskedTo (SendingPingReq a n) st = st ≡ WaitingForPingReqAck a n
  AskedTo (WaitingForPingReqAck a n) st = Unit {0}
  AskedTo (Declaring a n) st = Unit {0}

module _ {A : Type 0} (address : Address A) where
  fate-says : (v : Fate) (t : Running A) (s : Node A) (ds : List ℕ) → After (λ o. SaysBy v t s.own o.said) (by_fate address v t s ds)
  unfolding by_fate emit leave quiet
  fate-says Leaves t s ds = after_then (any (pushed address _ _ _ _ ds)) (λ d rest _. gives refl)
  fate-says Stays t s ds = gives refl
  fate-says Absent t s ds = gives refl

  pub end_says : (i : ℕ) (s : Node A) (ds : List ℕ) → After (λ o. SaysBy (fate_at address i s) (timer_at address i s) s.own o.said) (end_at address i s ds)
  unfolding end_at
  end_says i s ds = fate-says (fate_at address i s) (timer_at address i s) (freed address i s) ds

  asked_to : (st : WaitState A) (now : ℕ) (s : Node A) (ds : List ℕ) → After (λ e. AskedTo st e.wait.state) (step address st now s ds)
  unfolding send_ping_req asked
  asked_to SendingPing now s ds = any (send_ping address now s ds)
  asked_to (WaitingForPingAck a n) now s ds = any (waited address a (SendingPingReq a n) now s ds)
  asked_to (SendingPingReq a n) now s ds = after_then (any (suspect address a n s ds)) (λ o rest _. after_then (any (pick_group address a o.node rest)) (λ p rest₂ _. gives refl))
  asked_to (WaitingForPingReqAck a n) now s ds = any (waited address a (Declaring a n) now s ds)
  asked_to (Declaring a n) now s ds = any (declare address a n now s ds)

module _ {A : Type 0} (address : Address A) (k : Topic) (P : A → ℕ → Type 0) where
  said-by : (st st' : WaitState A) (own : A) → AskedTo st st' → (AsksHave address k P) st st' own → OwnSuspicion address k P st own
  said-by SendingPing st own p q = tt
  said-by (WaitingForPingAck a n) st own p q = tt
  said-by (SendingPingReq a n) st own p q = q p
  said-by (WaitingForPingReqAck a n) st own p q = tt
  said-by (Declaring a n) st own p q = tt

  -- the rows hold what was stored
  stored-holds : (s : Node A) → Holds address k P s → Holds address k P (loaded (stored address s))
  unfolding loaded stored
  stored-holds s h =
      record {
        alive = rw (take_pad heap_places (unused {A = A}) s.disseminator.alive) h.alive;
        deceased = rw (take_pad heap_places (unused {A = A}) s.disseminator.deceased) h.deceased;
      }

  stays : (reply : Reply) (s : Stored A) → Holds address k P (loaded s) → (Gives address k P) (unchanged reply s)
  stays reply s h = record { node = h; messages = nil; events = nil }

  kept_gives : (s : Stored A) (ds : List ℕ) {x : Answer (Effect A)} → Holds address k P (loaded s) → After (Does address k P) x → (Gives address k P) (kept address s ds x)
  kept_gives s ds h halts = record { node = h; messages = nil; events = nil }
  kept_gives s ds h (gives {b = e} d) = record { node = stored-holds e.node d.node; messages = d.messages; events = d.events }

  message-kept : (s : Stored A) (at : Cause) (ds : List ℕ) {x : Answer (Effect A)} → Holds address k P (loaded s) → After (Does address k P) x → (Gives address k P) (kept_message address s at ds x)
  message-kept s at ds h halts = record { node = h; messages = nil; events = nil }
  message-kept s at ds h (gives {b = e} d) = record { node = stored-holds e.node d.node; messages = d.messages; events = d.events }

  step_gives : (s : Stored A) (w : Wait A) (now : ℕ) (ds : List ℕ) → Holds address k P (loaded s)
      → let o = step_of_kept address s w ds (step address w.state now (loaded s) ds) in (AsksHave address k P) w.state o.wait.state (loaded s).own → (Gives address k P) o.outcome
  step_gives s w now ds h = from (step address w.state now (loaded s) ds) (λ d. step_does address k P w.state now (loaded s) ds d h) (asked_to address w.state now (loaded s) ds)
    where
      from : (x : Answer (Stepped A)) → (OwnSuspicion address k P w.state (loaded s).own → StepDoes address k P x) → After (λ e. AskedTo w.state e.wait.state) x
          → (AsksHave address k P) w.state (step_of_kept address s w ds x).wait.state (loaded s).own → (Gives address k P) (step_of_kept address s w ds x).outcome
      from (refused r) f g d = record { node = h; messages = nil; events = nil }
      from (done e rest) f g d =
          let q = given (f (said-by w.state e.wait.state (loaded s).own (given g) d)) in
          record { node = stored-holds e.effect.node q.node; messages = q.messages; events = q.events }

  timer_gives : (s : Stored A) (o : Option ℕ) → Holds address k P (loaded s) → (EndsHave address k P) (loaded s).own (ends_at address s o) → (Gives address k P) (ends_at address s o)
  timer_gives s none h d = record { node = h; messages = nil; events = nil }
  timer_gives s (some i) h d =
      from (fate_at address i (loaded s)) (timer_at address i (loaded s)) (end_at address i (loaded s) []) (end_says address i (loaded s) []) (λ p. end_leaves address k P i (loaded s) [] p h) d
    where
      told : (v : Fate) (o : Out A) → Told address k P o → (Gives address k P) (kept_end address s v (done (record { node = o.node; messages = []; events = o.said; collected = o.collected }) []))
      told v o q = record { node = stored-holds o.node q.node; messages = nil; events = q.said }

      from : (v : Fate) (t : Running A) (x : Answer (Out A)) → After (λ o. SaysBy v t (loaded s).own o.said) x → (OwnDeath address k P v t (loaded s).own → After (Told address k P) x)
          → (EndsHave address k P) (loaded s).own (kept_end address s v (reports address x)) → (Gives address k P) (kept_end address s v (reports address x))
      from v t (refused r) e f d = record { node = h; messages = nil; events = nil }
      from Leaves t (done o rest) e f d = told Leaves o (given (f (d t.addr t.number (given e))))
      from Stays t (done o rest) e f d = told Stays o (given (f tt))
      from Absent t (done o rest) e f d = told Absent o (given (f tt))

  add_gives : (a : A) (n : ℕ) (ds : List ℕ) (s : Stored A) → Holds address k P (loaded s) → (Gives address k P) (add_peer address s a n ds)
  unfolding add_peer
  add_gives a n ds s h =
      first_cases (Gives address k P) (add_tests address s a) (refuses s) _
      (λ r. stays _ s h)
      (λ _.
      elim (lists address a (loaded s)) as (λ u. (Gives address k P) (or_already u s (kept address s ds (joins address a n (loaded s) ds)))) [
        | true ↦ stays _ s h
        | false ↦ kept_gives s ds h (after_then (any (add address.same a n (loaded s).members ds)) (λ m rest _. gives (record { node = h; messages = nil; events = nil })))
      ])

  message_gives : (action : Action A) (gs : List (Gossip A)) (ds : List ℕ) (lent : Room) (s : Stored A) → InGossip k P gs → Holds address k P (loaded s) → (Gives address k P) (message address s action gs ds lent)
  unfolding message
  message_gives action gs ds lent s p h =
      first_cases (Gives address k P) (message_tests address s action gs lent) (refuses s) _ (λ r. stays _ s h)
      (λ _. message-kept s (stops_at address gs (loaded s) ds) ds h (handle_does address k P action gs (loaded s) ds p h))

  detect_gives : (tick : ℕ) (ds : List ℕ) (lent : Room) (s : Stored A) (w : Wait A) → Holds address k P (loaded s)
      → (AsksHave address k P) w.state (detect address s w tick ds lent).wait.state (loaded s).own → (Gives address k P) (detect address s w tick ds lent).outcome
  unfolding detect
  detect_gives tick ds lent s w h =
      first_cases (λ (o : StepOutcome A). (AsksHave address k P) w.state o.wait.state (loaded s).own → (Gives address k P) o.outcome) (step_tests address s w lent) (λ r. record { outcome = refuses s r; wait = w }) _
      (λ r _. stays _ s h)
      (λ _.
      elim (due s.settings w tick) as (λ u. let o = when_due u s w (step_of_kept address s w ds (step address w.state tick (loaded s) ds)) in (AsksHave address k P) w.state o.wait.state (loaded s).own → (Gives address k P) o.outcome) [
        | true ↦ step_gives s w tick ds h
        | false ↦ λ _. stays _ s h
      ])

  end_gives : (tick : ℕ) (lent : Room) (s : Stored A) → Holds address k P (loaded s) → (EndsHave address k P) (loaded s).own (end_timer address s tick lent) → (Gives address k P) (end_timer address s tick lent)
  unfolding end_timer
  end_gives tick lent s h =
      first_cases (λ (o : Outcome A). (EndsHave address k P) (loaded s).own o → (Gives address k P) o) (timer_tests address s lent) (refuses s) _ (λ r _. stays _ s h)
      (λ _. timer_gives s (first_over address s.settings.suspect_timeout tick (loaded s).timers) h)

  pub call_gives : (c : Call A) (w : World A) → Tells k P c → Holds address k P (loaded w.node) → (OwnHave address k P) c w → (Gives address k P) (outcome address c w).outcome
  call_gives (Add a n ds) w p h own = add_gives a n ds w.node h
  call_gives (Receive action gs ds lent) w p h own = message_gives action gs ds lent w.node p h
  call_gives (Step tick ds lent) w p h own = detect_gives tick ds lent w.node w.wait h own
  call_gives (Timer tick lent) w p h own = end_gives tick lent w.node h own
  call_gives (Lends wait) w p h own = stays _ w.node h

module _ {A : Type 0} (address : Address A) where
  -- neither an add nor a timer call sends anything
  pub add-sends : (s : Stored A) (a : A) (n : ℕ) (ds : List ℕ) → (add_peer address s a n ds).messages ≡ []
  unfolding add_peer
  add-sends s a n ds =
      first_cases (λ (o : Outcome A). o.messages ≡ []) (add_tests address s a) (refuses s) _
      (λ r. refl)
      (λ _.
      elim (lists address a (loaded s)) as (λ u. (or_already u s (kept address s ds (joins address a n (loaded s) ds))).messages ≡ []) [
        | true ↦ refl
        | false ↦ added (add address.same a n (loaded s).members ds)
      ])
    where
      added : (x : Answer (Members A)) → (kept address s ds (and_then x λ m rest. done (record { node = with_members (loaded s) m; messages = []; events = []; collected = 0 }) rest)).messages ≡ []
      added (refused r) = refl
      added (done m rest) = refl

  pub timer_sends : (tick : ℕ) (lent : Room) (s : Stored A) → (end_timer address s tick lent).messages ≡ []
  unfolding end_timer
  timer_sends tick lent s =
      first_cases (λ (o : Outcome A). o.messages ≡ []) (timer_tests address s lent) (refuses s) _ (λ r. refl) (λ _. at-end (first_over address s.settings.suspect_timeout tick (loaded s).timers))
    where
      told : (v : Fate) (x : Answer (Out A)) → (kept_end address s v (reports address x)).messages ≡ []
      told v (refused r) = refl
      told v (done o rest) = refl

      at-end : (o : Option ℕ) → (ends_at address s o).messages ≡ []
      at-end none = refl
      at-end (some i) = told (fate_at address i (loaded s)) (end_at address i (loaded s) [])

  -- a step says no death of its own
  no_death : (P : A → ℕ → Type 0) (st st' : WaitState A) (own : A) → AsksHave address deaths P st st' own
  no_death P SendingPing st own = tt
  no_death P (WaitingForPingAck a n) st own = tt
  no_death P (SendingPingReq a n) st own = λ _. tt
  no_death P (WaitingForPingReqAck a n) st own = tt
  no_death P (Declaring a n) st own = tt

  -- a death that a call sends it held or was told before it
  pub call-sends : (P : A → ℕ → Type 0) (c : Call A) (w : World A) → Tells deaths P c → Holds address deaths P (loaded w.node) → InMessages deaths P (outcome address c w).outcome.messages
  call-sends P (Add a n ds) w p h = (add_gives address deaths P a n ds w.node h).messages
  call-sends P (Receive action gs ds lent) w p h = (message_gives address deaths P action gs ds lent w.node p h).messages
  call-sends P (Step tick ds lent) w p h = (detect_gives address deaths P tick ds lent w.node w.wait h (no_death P w.wait.state _ _)).messages
  call-sends P (Timer tick lent) w p h = subst (InMessages deaths P) (sym (timer_sends tick lent w.node)) nil
  call-sends P (Lends wait) w p h = nil
