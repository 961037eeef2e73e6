-- With collecting off no call collects: the number that it tells is 0, and each rule leaves the heaps as 01 pushes. For any type of address, any node and any call.
-- Assumes nothing.
use Rattle.std.specs.Prelude.{◌≡◌, Bool, ℕ}
use Rattle.std.proofs.Math.Path.{refl, ap}
use Rattle.std.proofs.Common.{◌∙◌, arith}
use Rattle.std.proofs.Math.Bool.{true, false}
use mathlib.Core.List.{List, [], ◌∷◌}
use Rattle.std.proofs.Math.Option.{Option, none, some}
use Rattle.model.specs.declared.Kind.{Kind}
use Rattle.model.specs.declared.Kind.TheVariants as kind
use Rattle.model.specs.declared.Cause.{Cause}
use Rattle.model.specs.declared.Settings.{Settings}
use Rattle.model.specs.declared.Fate.{Fate}
use Rattle.model.specs.Answers.{Answer, done, refused, and_then}
use Rattle.model.specs.Words.{Address, Gossip, unused, sends_of, Action, Ping, PingReq, Ack, Wait}
use Rattle.model.specs.Heap.{push}
use Rattle.model.specs.Choose.{entry_of}
use Rattle.model.specs.Members as list
use Rattle.model.specs.Collect.{collects, cleared}
use Rattle.model.specs.Node.{Disseminator, Node, Out, Effect, Stored, loaded, with_heap, heap_of, with_members, quiet, and_more, lists}
use Rattle.model.specs.Handler as handler
use Rattle.model.specs.Detector as D
use Rattle.model.specs.Calls as calls
use Rattle.laws.specs.After.{After, halts, gives, after_map, after_then}
use Rattle.history.proofs.Worlds.{first_cases}
use Rattle.history.specs.Histories.{World, Call, Add, Receive, Step, Timer, Lends, outcome}
use Rattle.history.specs.Taken.{heap_for, heaps_after, outdated_by, Takes}
use Rattle.history.proofs.Taken.{item_takes, admit_takes, end_takes, step_takes}
use Rattle.history.specs.Uncollected.{Off}

module _ {A : Type 0} (address : Address A) where
  -- 01's push: the heap that the event goes to has one more, and the other is as it was
  pub off_heaps : (k : Kind) (g : Gossip A) (d : Disseminator A) → heaps_after address false k g d ≡ with_heap k (push unused sends_of (heap_of k d) (entry_of address g)) d
  unfolding collects cleared
  off_heaps kind.Alive g d = refl
  off_heaps kind.Deceased g d = refl

  none_outdated : (s : Node A) (gs : List (Gossip A)) → (Off address) s → outdated_by address s gs ≡ 0
  unfolding collects
  none_outdated s [] e = refl
  none_outdated s (g ∷ gs) e =
      omega (arith, ap (λ (on : Bool). collects address on (heap_for address g.event) g s.disseminator.alive) e, none_outdated s gs e)

  -- a rule tells 0, and collecting is off after it
  abbrev Idle : Answer (Out A) → Type 0
  Idle x = After (λ o. (o.collected ≡ 0) × (Off address) o.node) x

  rule_idle : (s : Node A) (x : Answer (Out A)) → (Off address) s → Takes address s x → Idle x
  rule_idle s x e p = after_map (λ o q. (q.told ∙ none_outdated s o.said e, ap (λ (t : Settings). t.collect) q.settings ∙ e)) p

  more_idle : (x : Answer (Out A)) (k : Node A → List ℕ → Answer (Out A)) → Idle x → ((s : Node A) (ds : List ℕ) → (Off address) s → Idle (k s ds)) → Idle (and_more x k)
  unfolding and_more
  more_idle x k p f = after_then p (λ o rest q. after_then (f o.node rest q.1) (λ u rest₂ v. gives (omega (arith, q.0, v.0), v.1)))

  gossip_idle : (gs : List (Gossip A)) (s : Node A) (ds : List ℕ) → (Off address) s → Idle (handler.gossip address gs s ds)
  unfolding quiet
  gossip_idle [] s ds e = gives {b = record { node = s; said = []; collected = 0 }} (refl, e)
  gossip_idle (g ∷ gs) s ds e =
      more_idle (handler.item address g.event s ds) (handler.gossip address gs) (rule_idle s (handler.item address g.event s ds) e (item_takes address g.event s ds)) (gossip_idle gs)

  abbrev IdleEffect : Answer (Effect A) → Type 0
  IdleEffect x = After (λ e. e.collected ≡ 0) x

  handle_idle : (action : Action A) (gs : List (Gossip A)) (s : Node A) (ds : List ℕ) → (Off address) s → IdleEffect (handler.handle address action gs s ds)
  unfolding handler.handle handler.answer_to handler.forwarded
  handle_idle (Ping from by) gs s ds e =
      after_then
      (more_idle (handler.gossip address gs s ds) (handler.admit address from) (gossip_idle gs s ds e) (λ s' rest e'. rule_idle s' (handler.admit address from s' rest) e' (admit_takes address from s' rest)))
      (λ o rest p. gives p.0)
  handle_idle (PingReq from suspect) gs s ds e = after_then (gossip_idle gs s ds e) (λ o rest p. gives p.0)
  handle_idle (Ack from none) gs s ds e = after_then (gossip_idle gs s ds e) (λ o rest p. gives p.0)
  handle_idle (Ack from (some to)) gs s ds e = after_then (gossip_idle gs s ds e) (λ o rest p. gives p.0)

  -- ---- the calls
  module _ (s : Stored A) where
    kept_idle : (ds : List ℕ) (x : Answer (Effect A)) → IdleEffect x → (calls.kept address s ds x).collected ≡ 0
    kept_idle ds _ halts = refl
    kept_idle ds _ (gives p) = p

    message_idle : (at : Cause) (ds : List ℕ) (x : Answer (Effect A)) → IdleEffect x → (calls.kept_message address s at ds x).collected ≡ 0
    message_idle at ds _ halts = refl
    message_idle at ds _ (gives p) = p

    step_idle : (w : Wait A) (ds : List ℕ) (x : Answer (D.Stepped A)) → After (λ e. e.effect.collected ≡ 0) x → (calls.step_of_kept address s w ds x).outcome.collected ≡ 0
    step_idle w ds _ halts = refl
    step_idle w ds _ (gives p) = p

    end_idle : (v : Fate) (x : Answer (Out A)) → Idle x → (calls.kept_end address s v (calls.reports address x)).collected ≡ 0
    end_idle v _ halts = refl
    end_idle v _ (gives p) = p.0

    timer_idle : (o : Option ℕ) → (Off address) (loaded s) → (calls.ends_at address s o).collected ≡ 0
    timer_idle none e = refl
    timer_idle (some i) e = end_idle (D.fate_at address i (loaded s)) (D.end_at address i (loaded s) []) (rule_idle (loaded s) (D.end_at address i (loaded s) []) e (end_takes address i (loaded s) []))

    add_idle : (b : A) (n : ℕ) (ds : List ℕ) (x : Answer (list.Members A))
        → (calls.kept address s ds (and_then x λ m rest. done (record { node = with_members (loaded s) m; messages = []; events = []; collected = 0 }) rest)).collected ≡ 0
    add_idle b n ds (refused r) = refl
    add_idle b n ds (done m rest) = refl

  -- "Off, nothing is taken, and the number collected is 0."
  pub off-collects-none : (c : Call A) (w : World A) → w.node.settings.collect ≡ false → (outcome address c w).outcome.collected ≡ 0
  unfolding calls.add_peer calls.message calls.detect calls.end_timer loaded
  off-collects-none (Add b n ds) w e =
      let s = w.node in
      first_cases (λ (o : calls.Outcome A). o.collected ≡ 0) (calls.add_tests address s b) (calls.refuses s) _ (λ r. refl)
      (λ _. elim (lists address b (loaded s)) as (λ u. (calls.or_already u s (calls.kept address s ds (calls.joins address b n (loaded s) ds))).collected ≡ 0) [
        | true ↦ refl
        | false ↦ add_idle s b n ds (list.add address.same b n (loaded s).members ds)
      ])
  off-collects-none (Receive action gs ds lent) w e =
      let s = w.node in
      first_cases (λ (o : calls.Outcome A). o.collected ≡ 0) (calls.message_tests address s action gs lent) (calls.refuses s) _ (λ r. refl)
      (λ _. message_idle s _ ds (handler.handle address action gs (loaded s) ds) (handle_idle action gs (loaded s) ds e))
  off-collects-none (Step now ds lent) w e =
      let s = w.node in
      let x = D.step address w.wait.state now (loaded s) ds in
      first_cases (λ (o : calls.StepOutcome A). o.outcome.collected ≡ 0) (calls.step_tests address s w.wait lent) (λ r. record { outcome = calls.refuses s r; wait = w.wait }) _ (λ r. refl)
      (λ _. elim (D.due s.settings w.wait now) as (λ u. (calls.when_due u s w.wait (calls.step_of_kept address s w.wait ds x)).outcome.collected ≡ 0) [
        | true ↦ step_idle s w.wait ds x (after_map (λ t p. p ∙ none_outdated (loaded s) t.effect.events e) (step_takes address w.wait.state now (loaded s) ds))
        | false ↦ refl
      ])
  off-collects-none (Timer now lent) w e =
      let s = w.node in
      first_cases (λ (o : calls.Outcome A). o.collected ≡ 0) (calls.timer_tests address s lent) (calls.refuses s) _ (λ r. refl)
      (λ _. timer_idle s (D.first_over address (loaded s).settings.suspect_timeout now (loaded s).timers) e)
  off-collects-none (Lends wait) w e = refl
