-- The row of running timers over a call: a declaration puts one behind it, an ended timer's place is freed, and every other call leaves it as it is.
-- Assumes nothing.
use Rattle.std.specs.Prelude.{◌≡◌, ◌⊎◌, ℕ}
use Rattle.std.proofs.Math.Path.{refl}
use Rattle.std.proofs.Common.{◌∙◌, inr}
use Rattle.std.proofs.Math.Bool.{true, false}
use mathlib.Core.List.{List, [], ◌∷◌, ◌++◌}
use Rattle.std.proofs.Math.Logic.{inl}
use Rattle.std.proofs.Math.Option.{Option, none, some}
use Rattle.model.specs.declared.Cause.{Cause}
use Rattle.model.specs.declared.Fate.{Fate}
use Rattle.model.specs.declared.Fate.TheVariants.{Leaves, Stays, Absent}
use Rattle.model.specs.declared.Kind.{Kind}
use Rattle.model.specs.declared.Kind.TheVariants as kind
use Rattle.model.specs.Bounds.{Room, timer_places}
use Rattle.model.specs.Rows.{remove_at}
use Rattle.model.specs.Answers.{Answer}
use Rattle.model.specs.Words.{Address, Event, Gossip, Message, Action, Ping, PingReq, Ack, Timer as Running, WaitState, SendingPing, WaitingForPingAck, SendingPingReq, WaitingForPingReqAck, Declaring, no_timer}
use Rattle.model.specs.Members.{add, pick_from}
use Rattle.model.specs.Node.{Node, Out, Effect, loaded, stored, with_members, and_more, quiet, pushed, emit, lists, change, leave, spread}
use Rattle.model.specs.Handler as handler
use Rattle.model.specs.Detector as D
use Rattle.model.specs.Detector.{Stepped, enters}
use Rattle.model.specs.Calls as calls
use Rattle.laws.specs.After.{After, halts, gives, after-when, after_then}
use Rattle.laws.specs.Pad.{take_pad}
use Rattle.laws_rules.specs.Judged.{pick_case}
use Rattle.history.specs.Histories.{World, Call, Add, Receive, Step, Timer, Lends, outcome}
use Rattle.history.proofs.Worlds.{first_cases}
use Rattle.cabinet.specs.Cabinets.{StepAt, if_ended, over_at, freed_by}
use Rattle.cabinet.proofs.Rules.{any}
use Rattle.cabinet.proofs.Waiting.{due-at}
use Rattle.cabinet.specs.Rows.{Row, same, starts, frees}

module _ {A : Type 0} (address : Address A) where
  abbrev Alone : List (Running A) → Answer (Out A) → Type 0
  Alone ts x = After (λ o. o.node.timers ≡ ts) x

  emit-alone : (k : Kind) (g : Gossip A) (s : Node A) (ds : List ℕ) → Alone s.timers (emit address k g s ds)
  unfolding emit
  emit-alone k g s ds = after_then (any (pushed address _ k g _ ds)) (λ d rest _. gives refl)

  quiet-alone : (s : Node A) (ds : List ℕ) → Alone s.timers (quiet s ds)
  unfolding quiet
  quiet-alone s ds = gives refl

  tell-alone : (n : handler.News A) (s : Node A) (ds : List ℕ) → Alone s.timers (handler.tell address n s ds)
  tell-alone handler.Silent s ds = quiet-alone s ds
  tell-alone (handler.Emits k e) s ds = emit-alone k _ s ds

  act-alone : (v : handler.Verdict A) (s : Node A) (ds : List ℕ) → Alone s.timers (handler.act address v s ds)
  unfolding handler.act
  act-alone v s ds = after_then (any (handler.list_after address v s.members ds)) (λ m rest _. tell-alone (handler.news_of address v s.own) _ rest)

  item-alone : (e : Event A) (s : Node A) (ds : List ℕ) → Alone s.timers (handler.item address e s ds)
  unfolding handler.item
  item-alone e s ds = act-alone _ s ds

  more-alone : (ts : List (Running A)) (x : Answer (Out A)) (k : Node A → List ℕ → Answer (Out A)) → Alone ts x → ((s : Node A) (ds : List ℕ) → Alone s.timers (k s ds)) → Alone ts (and_more x k)
  unfolding and_more
  more-alone ts _ k halts f = halts
  more-alone ts _ k (gives {b = o} {ds = rest} e) f = after_then (f o.node rest) (λ q rest₂ v. gives (v ∙ e))

  gossip-alone : (gs : List (Gossip A)) (s : Node A) (ds : List ℕ) → Alone s.timers (handler.gossip address gs s ds)
  gossip-alone [] s ds = quiet-alone s ds
  gossip-alone (g ∷ gs) s ds = more-alone s.timers _ (handler.gossip address gs) (item-alone g.event s ds) (gossip-alone gs)

  admit-alone : (a : A) (s : Node A) (ds : List ℕ) → Alone s.timers (handler.admit address a s ds)
  unfolding handler.admit
  admit-alone a s ds = act-alone _ s ds

  acked-alone : (a : A) (s : Node A) → (handler.acked address a s).timers ≡ s.timers
  unfolding handler.acked change
  acked-alone a s = pick_case (λ (x : Node A). x.timers ≡ s.timers) (lists address a s) _ _ (λ _. refl) (λ _. refl)

  message-alone : (action : Action A) (gs : List (Gossip A)) (s : Node A) (ds : List ℕ) → After (λ e. e.node.timers ≡ s.timers) (handler.handle address action gs s ds)
  unfolding handler.handle handler.answer_to handler.forwarded spread
  message-alone (Ping from by) gs s ds = after_then (more-alone s.timers _ (handler.admit address from) (gossip-alone gs s ds) (admit-alone from)) (λ o rest e. gives e)
  message-alone (PingReq from about) gs s ds = after_then (gossip-alone gs s ds) (λ o rest e. gives e)
  message-alone (Ack from none) gs s ds = after_then (gossip-alone gs s ds) (λ o rest e. gives (acked-alone from o.node ∙ e))
  message-alone (Ack from (some to)) gs s ds = after_then (gossip-alone gs s ds) (λ o rest e. gives e)

  -- the detector: only a declaration
  abbrev SameRow : Node A → Answer (Stepped A) → Type 0
  SameRow s x = After (λ e. e.effect.node.timers ≡ s.timers) x

  pinged-alone : (now : ℕ) (gs : List (Gossip A)) (s : Node A) (picks : List A) → (D.pinged address now gs s picks).effect.node.timers ≡ s.timers
  unfolding D.pinged change
  pinged-alone now gs s [] = refl
  pinged-alone now gs s (a ∷ picks) = refl

  asking-alone : (a : A) (picks : List A) (s : Node A) (sent : List (Message A)) → (D.ask_each address a picks s sent).node.timers ≡ s.timers
  unfolding spread
  asking-alone a [] s sent = refl
  asking-alone a (x ∷ picks) s sent = asking-alone a picks (spread address s).node _

  ping_alone : (now : ℕ) (s : Node A) (ds : List ℕ) → SameRow s (D.send_ping address now s ds)
  unfolding D.send_ping spread
  ping_alone now s ds =
      after_then (any (pick_from address.same address.blank s.own none 1 s.members ds))
      (λ p rest _. gives (pinged-alone now (spread address s).gossip (with_members (spread address s).node p.members) p.picks))

  ask_alone : (a : A) (n now : ℕ) (s : Node A) (ds : List ℕ) → SameRow s (D.send_ping_req address a n now s ds)
  unfolding D.send_ping_req D.suspect D.asked change
  ask_alone a n now s ds =
      after_then (emit-alone kind.Alive _ _ ds)
      (λ o rest e. after_then (any (D.pick_group address a o.node rest)) (λ p rest₂ _. gives (asking-alone a p.picks (with_members o.node p.members) [] ∙ e)))

  waited-alone : (a : A) (next : WaitState A) (now : ℕ) (s : Node A) (ds : List ℕ) → SameRow s (D.waited address a next now s ds)
  unfolding D.waited
  waited-alone a next now s ds = gives refl

  -- a timer's end frees its place, whatever its fate
  fate-alone : (v : Fate) (t : Running A) (s : Node A) → Alone s.timers (D.by_fate address v t s [])
  unfolding D.by_fate leave
  fate-alone Leaves t s = emit-alone kind.Deceased _ _ []
  fate-alone Stays t s = quiet-alone s []
  fate-alone Absent t s = quiet-alone s []

  end_frees : (i : ℕ) (s : Node A) → Alone (remove_at s.timers i) (D.end_at address i s [])
  unfolding D.end_at
  end_frees i s = fate-alone (D.fate_at address i s) (D.timer_at address i s) (D.freed address i s)

  stored_row : (s : Node A) → (loaded (stored address s)).timers ≡ s.timers
  unfolding loaded stored
  stored_row s = take_pad timer_places (no_timer address) s.timers

  module _ (w : World A) where
    abbrev row : List (Running A)
    row = (loaded w.node).timers

    kept_row : (ds : List ℕ) {x : Answer (Effect A)} → After (λ e. e.node.timers ≡ (loaded w.node).timers) x → (loaded (calls.kept address w.node ds x).node).timers ≡ (loaded w.node).timers
    kept_row ds halts = refl
    kept_row ds (gives {b = e} q) = stored_row e.node ∙ q

    message-row : (at : Cause) (ds : List ℕ) {x : Answer (Effect A)} → After (λ e. e.node.timers ≡ (loaded w.node).timers) x
        → (loaded (calls.kept_message address w.node at ds x).node).timers ≡ (loaded w.node).timers
    message-row at ds halts = refl
    message-row at ds (gives {b = e} q) = stored_row e.node ∙ q

    module _ (now : ℕ) (ds : List ℕ) (c : Call A) (is : StepAt now c) (none-freed : freed_by address c w ≡ none) where
      same_step : {x : Answer (Stepped A)} → SameRow (loaded w.node) x → (Row address) c w (calls.step_of_kept address w.node w.wait ds x)
      same_step halts = same none-freed refl
      same_step (gives {b = e} q) = same none-freed (stored_row e.effect.node ∙ q)

      new-step : (a : A) (n : ℕ) {x : Answer (Stepped A)} → w.wait.state ≡ Declaring a n → D.due w.node.settings w.wait now ≡ true
          → After (λ e. (e.wait ≡ enters SendingPing now) × (e.effect.node.timers ≡ (loaded w.node).timers ++ (record { addr = a; number = n; since = now } ∷ []))) x
          → (Row address) c w (calls.step_of_kept address w.node w.wait ds x)
      new-step a n q d halts = same none-freed refl
      new-step a n q d (gives {b = e} v) =
          starts (record { addr = a; number = n; since = now }) none-freed (record { call = is; found = q; due = due-at w now (Declaring a n) q d; left = v.0 })
          (stored_row e.effect.node ∙ v.1)

      step_row : (st : WaitState A) → w.wait.state ≡ st → D.due w.node.settings w.wait now ≡ true
          → (Row address) c w (calls.step_of_kept address w.node w.wait ds (D.step address st now (loaded w.node) ds))
      unfolding D.declare
      step_row SendingPing q d = same_step (ping_alone now (loaded w.node) ds)
      step_row (WaitingForPingAck a n) q d = same_step (waited-alone a (SendingPingReq a n) now (loaded w.node) ds)
      step_row (SendingPingReq a n) q d = same_step (ask_alone a n now (loaded w.node) ds)
      step_row (WaitingForPingReqAck a n) q d = same_step (waited-alone a (Declaring a n) now (loaded w.node) ds)
      step_row (Declaring a n) q d = new-step a n q d (after-when (λ _. halts) (λ _. gives (refl, refl)))

  -- by what a timer call gave
  abbrev EndRow : World A → Option ℕ → calls.Outcome A → Type 0
  EndRow w o r = ((if_ended r.reply o ≡ none) × ((loaded r.node).timers ≡ (loaded w.node).timers)) ⊎ ((i : ℕ) × (if_ended r.reply o ≡ some i) × ((loaded r.node).timers ≡ remove_at (loaded w.node).timers i))

  end_row : (w : World A) (i : ℕ) (v : Fate) {x : Answer (Out A)} → Alone (remove_at (loaded w.node).timers i) x → EndRow w (some i) (calls.kept_end address w.node v (calls.reports address x))
  end_row w i v halts = inl (refl, refl)
  end_row w i Leaves (gives {b = o} q) = inr (i, refl, stored_row o.node ∙ q)
  end_row w i Stays (gives {b = o} q) = inr (i, refl, stored_row o.node ∙ q)
  end_row w i Absent (gives {b = o} q) = inr (i, refl, stored_row o.node ∙ q)

  ends-row : (w : World A) (o : Option ℕ) → EndRow w o (calls.ends_at address w.node o)
  ends-row w none = inl (refl, refl)
  ends-row w (some i) = end_row w i (D.fate_at address i (loaded w.node)) (end_frees i (loaded w.node))

  timer_row : (now : ℕ) (lent : Room) (w : World A) → EndRow w (over_at address now w) (calls.end_timer address w.node now lent)
  unfolding calls.end_timer
  timer_row now lent w =
      first_cases (EndRow w (over_at address now w)) (calls.timer_tests address w.node lent) (calls.refuses w.node) _ (λ r. inl (refl, refl)) (λ _. ends-row w (over_at address now w))

  pub call-row : (c : Call A) (w : World A) → (Row address) c w (outcome address c w)
  unfolding calls.add_peer calls.message calls.detect
  call-row (Add a n ds) w =
      same refl
      (first_cases (λ (o : calls.Outcome A). (loaded o.node).timers ≡ (loaded w.node).timers) (calls.add_tests address w.node a) (calls.refuses w.node) _
      (λ r. refl)
      (λ _.
      elim (lists address a (loaded w.node)) as (λ u. (loaded (calls.or_already u w.node (calls.kept address w.node ds (calls.joins address a n (loaded w.node) ds))).node).timers ≡ (loaded w.node).timers) [
        | true ↦ refl
        | false ↦ kept_row w ds (after_then (any (add address.same a n (loaded w.node).members ds)) (λ m rest _. gives refl))
      ]))
  call-row (Receive action gs ds lent) w =
      same refl
      (first_cases (λ (o : calls.Outcome A). (loaded o.node).timers ≡ (loaded w.node).timers) (calls.message_tests address w.node action gs lent) (calls.refuses w.node) _
      (λ r. refl)
      (λ _. message-row w (handler.stops_at address gs (loaded w.node) ds) ds (message-alone action gs (loaded w.node) ds)))
  call-row (Step now ds lent) w =
      first_cases ((Row address) (Step now ds lent) w) (calls.step_tests address w.node w.wait lent) (λ r. record { outcome = calls.refuses w.node r; wait = w.wait }) _
      (λ r. same refl refl)
      (λ _.
      (elim (D.due w.node.settings w.wait now) as (λ u. D.due w.node.settings w.wait now ≡ u
      → (Row address) (Step now ds lent) w (calls.when_due u w.node w.wait (calls.step_of_kept address w.node w.wait ds (D.step address w.wait.state now (loaded w.node) ds)))) [
        | true ↦ λ d. step_row w now ds (Step now ds lent) refl refl w.wait.state refl d
        | false ↦ λ d. same refl refl
      ]) refl)
  call-row (Timer now lent) w = by (timer_row now lent w)
    where
      by : EndRow w (over_at address now w) (calls.end_timer address w.node now lent) → (Row address) (Timer now lent) w (outcome address (Timer now lent) w)
      by (inl (p, q)) = same p q
      by (inr (i, p, q)) = frees i p q
  call-row (Lends wait) w = same refl refl
