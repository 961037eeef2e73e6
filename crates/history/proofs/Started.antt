-- "Timers stand in starting order, which isn't checked": the timers of every node that a history made stand in the order in which the history's declarations started them.
-- Assumes nothing.
use Rattle.std.specs.Prelude.{◌≡◌, Bool, ℕ, zero, suc, ◌<◌, length}
use Rattle.std.proofs.Math.Path.{refl, sym}
use Rattle.std.proofs.Common.{◌∙◌, subst}
use Rattle.std.proofs.Math.Bool.{true, false}
use mathlib.Core.List.{List, [], ◌∷◌, ◌++◌, append-nil, append_assoc}
use Rattle.std.proofs.Math.Option.{Option, none, some}
use Rattle.std.proofs.lemmas.Bool.{not-false}
use Rattle.model.specs.declared.Cause.{Cause}
use Rattle.model.specs.declared.Fate.{Fate}
use Rattle.model.specs.declared.Fate.TheVariants.{Leaves, Stays, Absent}
use Rattle.model.specs.declared.Kind.{Kind}
use Rattle.model.specs.declared.Kind.TheVariants as kind
use Rattle.model.specs.Rows.{pick, every, remove_at}
use Rattle.laws.specs.Bools.{and_split}
use Rattle.model.specs.Answers.{Answer, done, refused, and_then}
use Rattle.laws.specs.After.{After, halts, gives, after-when, after_then, after_both}
use Rattle.model.specs.Words.{Address, Lawful, Event, Gossip, Message, Action, Ping, PingReq, Ack, Timer, Wait, WaitState, SendingPing, WaitingForPingAck, SendingPingReq, WaitingForPingReqAck, Declaring}
use Rattle.model.specs.Members.{Members, Picked, pick_from}
use Rattle.model.specs.Node.{Node, Out, Effect, Stored, loaded, stored, fresh, with_members, with_lists, and_more, quiet, pushed, emit, lists, change, leave, spread}
use Rattle.model.specs.Handler as handler
use Rattle.model.specs.Detector as D
use Rattle.model.specs.Detector.{Stepped}
use Rattle.model.specs.Sound.{valid_gossip}
use Rattle.laws_node.specs.Good.{Good, loaded-stored}
use Rattle.laws_rules.specs.Keeps.{Keeps, add-keeps}
use Rattle.laws_rules.specs.KeepsCalls.{handle-keeps, step_keeps, end_keeps, first_over_in}
use Rattle.model.specs.Calls as calls
use Rattle.history.specs.Beginnings.{Beginning, Creation, Restart, Gave}
use Rattle.history.specs.Ledger.{Tally, tally}
use Rattle.history.specs.Histories.{World, Call, Add, Receive, Step, Lends, outcome, world_of, run, moments, start}
use Rattle.history.specs.Histories as history
use Rattle.history.specs.Worlds.{Stands, stands}
use Rattle.history.proofs.Worlds.{call-stands, first_cases}
use Rattle.history.proofs.Demand3 as demand3
use Rattle.history.specs.Started.{Within, declared, if_kept, started_in, started, end, skip, keep}

-- ---- lists within lists
within_refl : {B : Type 0} (l : List B) → Within l l
within_refl [] = end
within_refl (x ∷ l) = keep (within_refl l)

within_trans : {B : Type 0} {l k j : List B} → Within l k → Within k j → Within l j
within_trans p end = p
within_trans p (skip q) = skip (within_trans p q)
within_trans (skip p) (keep q) = skip (within_trans p q)
within_trans (keep p) (keep q) = keep (within_trans p q)

within_more : {B : Type 0} {l k : List B} (j : List B) → Within l k → Within (l ++ j) (k ++ j)
within_more j end = within_refl j
within_more j (skip p) = skip (within_more j p)
within_more j (keep p) = keep (within_more j p)

within_front : {B : Type 0} (l k : List B) → Within l (l ++ k)
within_front [] [] = end
within_front [] (x ∷ k) = skip (within_front [] k)
within_front (x ∷ l) k = keep (within_front l k)

within_removed : {B : Type 0} (l : List B) (i : ℕ) → Within (remove_at l i) l
within_removed [] i = end
within_removed (x ∷ l) zero = skip (within_refl l)
within_removed (x ∷ l) (suc i) = keep (within_removed l i)

-- ---- rules that leave the timers alone
module _ {A : Type 0} (address : Address A) where
  abbrev Alone : List (Timer A) → Answer (Out A) → Type 0
  Alone ts x = After (λ o. o.node.timers ≡ ts) x

  emit-alone : (k : Kind) (g : Gossip A) (s : Node A) (ds : List ℕ) → Alone s.timers (emit address k g s ds)
  unfolding emit pushed
  emit-alone k g s ds = after_then {P = λ _. Unit {0}} (after-when (λ _. halts) (λ _. gives tt)) (λ d rest _. gives refl)

  quiet-alone : (s : Node A) (ds : List ℕ) → Alone s.timers (quiet s ds)
  unfolding quiet
  quiet-alone s ds = gives refl

  tell-alone : (n : handler.News A) (s : Node A) (ds : List ℕ) → Alone s.timers (handler.tell address n s ds)
  tell-alone handler.Silent s ds = quiet-alone s ds
  tell-alone (handler.Emits k e) s ds = emit-alone k _ s ds

  act-alone : (v : handler.Verdict A) (s : Node A) (ds : List ℕ) → Alone s.timers (handler.act address v s ds)
  unfolding handler.act
  act-alone v s ds = from (handler.list_after address v s.members ds)
    where
      from : (x : Answer (Members A)) → Alone s.timers (and_then x λ m rest. handler.tell address (handler.news_of address v s.own) (with_lists s m (handler.row_after address v s.members.table s.departed)) rest)
      from (refused r) = halts
      from (done m rest) = tell-alone (handler.news_of address v s.own) (with_lists s m (handler.row_after address v s.members.table s.departed)) rest

  item-alone : (e : Event A) (s : Node A) (ds : List ℕ) → Alone s.timers (handler.item address e s ds)
  unfolding handler.item
  item-alone e s ds = act-alone _ s ds

  more-alone : (ts : List (Timer A)) (x : Answer (Out A)) (k : Node A → List ℕ → Answer (Out A)) → Alone ts x → ((s : Node A) (ds : List ℕ) → Alone s.timers (k s ds)) → Alone ts (and_more x k)
  unfolding and_more
  more-alone ts _ k halts f = halts
  more-alone ts _ k (gives {b = o} {ds = rest} e) f = after_then (f o.node rest) (λ q rest₂ v. gives (v ∙ e))

  gossip-alone : (gs : List (Gossip A)) (s : Node A) (ds : List ℕ) → Alone s.timers (handler.gossip address gs s ds)
  gossip-alone [] s ds = quiet-alone s ds
  gossip-alone (g ∷ gs) s ds = more-alone s.timers _ (handler.gossip address gs) (item-alone g.event s ds) (gossip-alone gs)

  admit-alone : (a : A) (s : Node A) (ds : List ℕ) → Alone s.timers (handler.admit address a s ds)
  unfolding handler.admit
  admit-alone a s ds = act-alone _ s ds

  -- the list may be replaced or not
  picked_alone : (u : Bool) (s : Node A) (m : Members A) → (pick u (with_members s m) s).timers ≡ s.timers
  picked_alone true s m = refl
  picked_alone false s m = refl

  acked-alone : (a : A) (s : Node A) → (handler.acked address a s).timers ≡ s.timers
  unfolding handler.acked change
  acked-alone a s = picked_alone (lists address a s) s _

  message-alone : (action : Action A) (gs : List (Gossip A)) (s : Node A) (ds : List ℕ) → After (λ e. e.node.timers ≡ s.timers) (handler.handle address action gs s ds)
  unfolding handler.handle handler.answer_to handler.forwarded spread
  message-alone (Ping from by) gs s ds = after_then (more-alone s.timers _ (handler.admit address from) (gossip-alone gs s ds) (admit-alone from)) (λ o rest e. gives e)
  message-alone (PingReq from about) gs s ds = after_then (gossip-alone gs s ds) (λ o rest e. gives e)
  message-alone (Ack from none) gs s ds = after_then (gossip-alone gs s ds) (λ o rest e. gives (acked-alone from o.node ∙ e))
  message-alone (Ack from (some to)) gs s ds = after_then (gossip-alone gs s ds) (λ o rest e. gives e)

  -- ---- the detector
  abbrev Starts : WaitState A → ℕ → Node A → Answer (Stepped A) → Type 0
  Starts st now s x = After (λ e. e.effect.node.timers ≡ s.timers ++ declared address st now) x

  pinged-alone : (now : ℕ) (gs : List (Gossip A)) (s : Node A) (picks : List A) → (D.pinged address now gs s picks).effect.node.timers ≡ s.timers
  unfolding D.pinged change
  pinged-alone now gs s [] = refl
  pinged-alone now gs s (a ∷ picks) = refl

  asking-alone : (a : A) (picks : List A) (s : Node A) (sent : List (Message A)) → (D.ask_each address a picks s sent).node.timers ≡ s.timers
  unfolding spread
  asking-alone a [] s sent = refl
  asking-alone a (x ∷ picks) s sent = asking-alone a picks (spread address s).node _

  ping_starts : (now : ℕ) (s : Node A) (ds : List ℕ) → Starts SendingPing now s (D.send_ping address now s ds)
  unfolding D.send_ping spread
  ping_starts now s ds = from (pick_from address.same address.blank s.own none 1 s.members ds)
    where
      from : (x : Answer (Picked A))
          → Starts SendingPing now s (and_then x λ p rest. done (D.pinged address now (spread address s).gossip (with_members (spread address s).node p.members) p.picks) rest)
      from (refused r) = halts
      from (done p rest) = gives (pinged-alone now _ _ p.picks ∙ sym (append-nil s.timers))

  ask_starts : (a : A) (n now : ℕ) (s : Node A) (ds : List ℕ) → Starts (SendingPingReq a n) now s (D.send_ping_req address a n now s ds)
  unfolding D.send_ping_req D.suspect D.asked change
  ask_starts a n now s ds = after_then (emit-alone kind.Alive _ _ ds) (λ o rest e. from o e (D.pick_group address a o.node rest))
    where
      from : (o : Out A) → o.node.timers ≡ s.timers → (x : Answer (Picked A)) → Starts (SendingPingReq a n) now s (and_then x λ p rest₂. done (D.asked address a n now o p) rest₂)
      from o e (refused r) = halts
      from o e (done p rest₂) = gives (asking-alone a p.picks (with_members o.node p.members) [] ∙ e ∙ sym (append-nil s.timers))

  step_starts : (st : WaitState A) (now : ℕ) (s : Node A) (ds : List ℕ) → Starts st now s (D.step address st now s ds)
  unfolding D.waited D.declare
  step_starts SendingPing now s ds = ping_starts now s ds
  step_starts (WaitingForPingAck a n) now s ds = gives (sym (append-nil s.timers))
  step_starts (SendingPingReq a n) now s ds = ask_starts a n now s ds
  step_starts (WaitingForPingReqAck a n) now s ds = gives (sym (append-nil s.timers))
  step_starts (Declaring a n) now s ds = after-when (λ _. halts) (λ _. gives refl)

  fate-alone : (v : Fate) (t : Timer A) (s : Node A) → Alone s.timers (D.by_fate address v t s [])
  unfolding D.by_fate leave
  fate-alone Leaves t s = emit-alone kind.Deceased _ _ []
  fate-alone Stays t s = quiet-alone s []
  fate-alone Absent t s = quiet-alone s []

  end_removes : (i : ℕ) (s : Node A) → Alone (remove_at s.timers i) (D.end_at address i s [])
  unfolding D.end_at
  end_removes i s = fate-alone (D.fate_at address i s) (D.timer_at address i s) (D.freed address i s)

module _ {A : Type 0} (address : Address A) (lawful : Lawful address) (s : Node A) (w : Wait A) (g : Good address s) where
  abbrev seen : Node A
  seen = loaded (stored address s)

  good : Good address seen
  good = rw (loaded-stored address lawful s g.whole) g

  abbrev here : World A
  here = record { node = stored address s; wait = w }

  -- the timers after a call stand within those before it and the one that it started
  abbrev Follows : List (Timer A) → calls.Outcome A → Type 0
  Follows new o = Within (loaded o.node).timers (seen.timers ++ new)

  stayed : (new : List (Timer A)) → Within seen.timers (seen.timers ++ new)
  stayed new = within_front seen.timers new

  kept_follows : (new : List (Timer A)) (s' : Node A) → Good address s' → Within s'.timers (seen.timers ++ new) → Within (loaded (stored address s')).timers (seen.timers ++ new)
  kept_follows new s' k p = subst (λ (x : Node A). Within x.timers (seen.timers ++ new)) (sym (loaded-stored address lawful s' k.whole)) p

  effect_follows : (ds : List ℕ) {x : Answer (Effect A)} → After (λ e. Keeps address seen e.node × Within e.node.timers (seen.timers ++ [])) x → Follows [] (calls.kept address (stored address s) ds x)
  effect_follows ds halts = stayed []
  effect_follows ds (gives {b = e} q) = kept_follows [] e.node q.0.good q.1

  message_follows : (at : Cause) (ds : List ℕ) {x : Answer (Effect A)} → After (λ e. Keeps address seen e.node × Within e.node.timers (seen.timers ++ [])) x
      → Follows [] (calls.kept_message address (stored address s) at ds x)
  message_follows at ds halts = stayed []
  message_follows at ds (gives {b = e} {ds = rest} q) = effect_follows ds (gives {b = e} {ds = rest} q)

  same_within : {ts : List (Timer A)} → ts ≡ seen.timers → Within ts (seen.timers ++ [])
  same_within {ts} e = subst (λ (x : List (Timer A)). Within x (seen.timers ++ [])) (sym e) (within_front seen.timers [])

  abbrev StepFollows : ℕ → calls.StepOutcome A → Type 0
  StepFollows now o = Follows (if_kept address o.outcome.reply (declared address w.state now)) o.outcome

  step_follows : (now : ℕ) (ds : List ℕ) {x : Answer (Stepped A)} → After (λ e. Keeps address seen e.effect.node × (e.effect.node.timers ≡ seen.timers ++ declared address w.state now)) x
      → StepFollows now (calls.step_of_kept address (stored address s) w ds x)
  step_follows now ds halts = stayed []
  step_follows now ds (gives {b = e} q) = kept_follows (declared address w.state now) e.effect.node q.0.good (subst (λ (x : List (Timer A)). Within x (seen.timers ++ declared address w.state now)) (sym q.1) (within_refl _))

  add_follows : (b : A) (n : ℕ) (ds : List ℕ) {x : Answer (Members A)} → After (λ m. Keeps address seen (with_members seen m)) x
      → Follows [] (calls.kept address (stored address s) ds (and_then x λ m rest. done (record { node = with_members seen m; messages = []; events = []; collected = 0 }) rest))
  add_follows b n ds halts = stayed []
  add_follows b n ds (gives {b = m} q) = kept_follows [] (with_members seen m) q.good (same_within refl)

  end_follows : (v : Fate) {x : Answer (Effect A)} → After (λ e. Keeps address seen e.node × Within e.node.timers (seen.timers ++ [])) x → Follows [] (calls.kept_end address (stored address s) v x)
  end_follows v halts = stayed []
  end_follows v (gives {b = e} q) = kept_follows [] e.node q.0.good q.1

  timer_follows : (o : Option ℕ) → ((i : ℕ) → o ≡ some i → i < length seen.timers) → Follows [] (calls.ends_at address (stored address s) o)
  timer_follows none h = stayed []
  timer_follows (some i) h =
      end_follows (D.fate_at address i seen)
      (after_then
      (after_both (λ o x y. (x, subst (λ (ts : List (Timer A)). Within ts (seen.timers ++ [])) (sym y) (within_trans (within_removed seen.timers i) (within_front seen.timers []))))
      (end_keeps address lawful i seen [] good (h i refl)) (end_removes address i seen))
      (λ o rest q. gives q))

  call_follows : (c : Call A) → Follows (started_in address c here) (outcome address c here).outcome
  unfolding calls.add_peer calls.message calls.detect calls.end_timer loaded
  call_follows (Add b n ds) =
      first_cases (Follows []) (calls.add_tests address (stored address s) b) (calls.refuses (stored address s)) _ (λ r. stayed [])
      (λ p.
      (elim (lists address b seen) as (λ u. lists address b seen ≡ u → Follows [] (calls.or_already u (stored address s) (calls.kept address (stored address s) ds (calls.joins address b n seen ds)))) [
        | true ↦ λ e. stayed []
        | false ↦ λ e. add_follows b n ds (add-keeps address lawful b n seen ds good (not-false (address.valid b) p.1.0) e)
      ]) refl)
  call_follows (Receive action gs ds lent) =
      first_cases (Follows []) (calls.message_tests address (stored address s) action gs lent) (calls.refuses (stored address s)) _ (λ r. stayed [])
      (λ p.
      let v = and_split (calls.valid_action address action) (every (valid_gossip address) gs) (not-false _ p.1.1.1.0) in
      message_follows _ ds (after_both (λ e x y. (x, same_within y)) (handle-keeps address lawful action gs seen ds good v.0 v.1) (message-alone address action gs seen ds)))
  call_follows (Step now ds lent) =
      first_cases (StepFollows now) (calls.step_tests address (stored address s) w lent) (λ r. record { outcome = calls.refuses (stored address s) r; wait = w }) _ (λ r. stayed [])
      (λ p.
      elim (D.due (stored address s).settings w now) as (λ u. StepFollows now (calls.when_due u (stored address s) w (calls.step_of_kept address (stored address s) w ds (D.step address w.state now seen ds)))) [
        | true ↦ step_follows now ds (after_both (λ e x y. (x, y)) (step_keeps address lawful w.state now seen ds good (not-false (calls.valid_state address w.state) p.1.1.0)) (step_starts address w.state now seen ds))
        | false ↦ stayed []
      ])
  call_follows (Lends wait) = stayed []
  call_follows (history.Timer now lent) =
      first_cases (Follows []) (calls.timer_tests address (stored address s) lent) (calls.refuses (stored address s)) _ (λ r. stayed [])
      (λ p. timer_follows _ (first_over_in address lawful seen.settings.suspect_timeout now seen.timers))

module _ {A : Type 0} (address : Address A) (lawful : Lawful address) (a own : A) where
  call_within : (t : Tally) (c : Call A) (w : World A) → Stands address lawful a own t w → Within (loaded (outcome address c w).outcome.node).timers ((loaded w.node).timers ++ started_in address c w)
  call_within t c _ (stands s w g k) = call_follows address lawful s w g c

  runs_within : (h : List (Call A)) (w : World A) (t : Tally) → Stands address lawful a own t w → Within (loaded (run address h w).node).timers ((loaded w.node).timers ++ started address h w)
  runs_within [] w t k = within_front _ []
  runs_within (c ∷ h) w t k =
      let w' = world_of address (outcome address c w) in
      let rest = started address h w' in
      rw (sym (append_assoc (loaded w.node).timers (started_in address c w) rest))
      (within_trans (runs_within h w' (tally address a (moments address c w) t) (call-stands address lawful a own t c w k).stands) (within_more rest (call_within t c w k)))

module _ {A : Type 0} (address : Address A) (lawful : Lawful address) (tick : ℕ) where
  pub in_starting_order : (b : Beginning A) (node : Stored A) → Gave address b node → (h : List (Call A)) → Within (loaded (run address h (start address b tick)).node).timers (started address h (start address b tick))
  unfolding loaded stored fresh
  in_starting_order (Creation settings own n) node gave h =
      runs_within address lawful own own h (start address (Creation settings own n) tick) _ (demand3.stood address lawful (Creation settings own n) tick node gave [] own)
  in_starting_order (Restart settings own rows position) node gave h =
      runs_within address lawful own own h (start address (Restart settings own rows position) tick) _ (demand3.stood address lawful (Restart settings own rows position) tick node gave [] own)
