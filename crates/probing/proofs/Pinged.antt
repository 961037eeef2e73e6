-- Nobody is left unprobed, over histories: in a stretch in which nobody comes or goes and no ping request runs, 2n - 1 pings reach each of n peers.
-- Assumes nothing.
use Rattle.std.proofs.Math.Path.{◌≡◌, refl, ap}
use Rattle.std.proofs.Common.{sym, ◌∙◌, subst, arith}
use Rattle.std.specs.Prelude.{◌⊎◌, Bool, ◌&&◌, ℕ, ◌+◌, ◌-◌, ◌*◌, ◌≤◌, ◌<◌, length, drop}
use Rattle.std.proofs.Math.Logic.{inl, inr, ⊎_elim}
use Rattle.std.proofs.Math.Bool.{true, false}
use mathlib.Core.List.{List, [], ◌∷◌}
use Rattle.std.proofs.Math.Option.{Option, none, some}
use Rattle.std.proofs.lemmas.Bool.{not-false}
use Rattle.model.specs.declared.Cause.{Cause}
use Rattle.model.specs.declared.Reply.TheVariants.{NotDue}
use Rattle.model.specs.declared.State.TheVariants as state
use Rattle.model.specs.declared.Fate.{Fate}
use Rattle.model.specs.declared.Fate.TheVariants.{Leaves, Stays, Absent}
use Rattle.model.specs.Rows.{one, has, occurs, every}
use Rattle.laws.specs.Bools.{and_split}
use Rattle.laws.specs.Counts.{has_is}
use Rattle.model.specs.Answers.{Answer, done, refused, and_then}
use Rattle.laws.specs.After.{After, halts, gives, after_then, after_both, after-when}
use Rattle.model.specs.Words.{Address, Lawful, Member, Gossip, Message, Wait, WaitState, SendingPing, WaitingForPingAck, SendingPingReq, WaitingForPingReqAck, Declaring}
use Rattle.model.specs.Members.{Members, Picked, addrs, listed, pick_from}
use Rattle.model.specs.Node.{Node, Effect, Stored, loaded, stored, with_members, lists, numbered, change, spread}
use Rattle.model.specs.Detector.{Stepped, pinged, send_ping, waited, declare, step as step_rule, due, first_over, fate_at}
use Rattle.model.specs.Sound.{valid_gossip}
use Rattle.model.specs.Calls.{Outcome, StepOutcome, unchanged, refuses, or_already, when_due, kept, kept_message, step_of_kept, kept_end, joins, add_tests, message_tests, step_tests, timer_tests, add_peer, message, detect, ends_at, end_timer, valid_action, valid_state}
use Rattle.laws_list.specs.Whole.{Whole, update-whole}
use Rattle.laws_node.specs.Good.{Good, loaded-stored}
use Rattle.laws_rules.specs.Keeps.{Keeps, add-keeps}
use Rattle.laws_rules.specs.KeepsCalls.{handle-keeps, step_keeps, end_keeps, first_over_in}
use Rattle.history.specs.Moments.{Moment, Added, moment, silent, trace_timer, trace_add, trace_message}
use Rattle.history.specs.Beginnings.{Beginning, Gave}
use Rattle.history.specs.Ledger.{Tally}
use Rattle.history.proofs.Demand3 as demand3
use Rattle.history.specs.Histories.{World, Call, Add, Receive, Step, Timer, Lends, outcome, world_of, run, ending_at, moments_by, moments, trace, start}
use Rattle.history.specs.Worlds.{Stands, stands}
use Rattle.history.proofs.Worlds.{call-stands, first_cases}
use Rattle.probing.specs.Probed.{away, Ready, Nearer}
use Rattle.probing.proofs.Probed.{pick_nearer, away_pos, away-most, has_left, has_right}
use Rattle.probing.specs.Still.{Listing, NobodyMoves, Still}
use Rattle.probing.proofs.Still.{nobody_split, still, update_still, message_settles, timer_traced, add-moves}
use Rattle.probing.specs.Stretch.{has_run, is_ping, is_request, pings_in, pings_of, requests_in, requests_of, pinged_by, pinged_along}
use Rattle.probing.specs.Pinged.{same, At, far, Nears, seen, count, own}

module _ {A : Type 0} (address : Address A) (lawful : Lawful address) (own b : A) (n : ℕ) (other : address.same own b ≡ false) where
  still_at : (m m' : Members A) → Still address m m' → Whole (same address lawful own b n other) m' → (At address lawful own b n other) m → (At address lawful own b n other) m'
  still_at m m' s w r =
      record {
        whole = w;
        mine = ap (occurs (same address lawful own b n other) own) s.addresses ∙ r.mine;
        there = ap (occurs (same address lawful own b n other) b) s.addresses ∙ r.there;
        many = ap length s.order ∙ r.many;
      }

  still_far : (m m' : Members A) → Still address m m' → (far address lawful own b n other) m' ≡ (far address lawful own b n other) m
  still_far m m' s = λ i. away (same address lawful own b n other) lawful.test address.blank own b n (drop (s.position i) (s.order i))

  rests : (m m' : Members A) (messages : List (Message A)) → (At address lawful own b n other) m → Whole (same address lawful own b n other) m' → Still address m m' → (Nears address lawful own b n other) m 0 messages m'
  rests m m' messages r w s = record { at = still_at m m' s w r; nearer = inr (omega (arith, still_far m m' s)) }

  -- ---- a ping
  abbrev Pings : Members A → Stepped A → Type 0
  Pings m e = (Nears address lawful own b n other) m 1 e.effect.messages e.effect.node.members

  pinged_nears : (now : ℕ) (gs : List (Gossip A)) (m : Members A) (s : Node A) (p : Picked A) → s.members ≡ p.members → Nearer (same address lawful own b n other) lawful.test address.blank own b n m p
      → Pings m (pinged address now gs s p.picks)
  unfolding pinged change
  pinged_nears now gs m s p e c =
      let x = c.one_picked.0 in
      rw c.one_picked.1
      (let t = update_still address lawful (record { addr = x; state = state.Pending; number = numbered address x s }) s.members in
      record {
        at = still_at s.members _ t (update-whole (same address lawful own b n other) lawful.test _ s.members (rw e c.ready.whole)) (rw e c.ready);
        nearer =
            ⊎_elim (λ z. inl (ap (has (same address lawful own b n other) b) (sym c.one_picked.1) ∙ z))
            (λ z. inr (omega (arith, still_far s.members _ t, ap (far address lawful own b n other) e)))
            c.nearer;
      })

  ping_nears : (now : ℕ) (s : Node A) (ds : List ℕ) → s.own ≡ own → 0 < n → (At address lawful own b n other) s.members → After (Pings s.members) (send_ping address now s ds)
  unfolding send_ping spread
  ping_nears now s ds o pos r =
      after_then
      (subst (λ (a : A). After (Nearer (same address lawful own b n other) lawful.test address.blank own b n s.members) (pick_from (same address lawful own b n other) address.blank a none 1 s.members ds)) (sym o)
      (pick_nearer (same address lawful own b n other) lawful.test address.blank own b n s.members ds pos r other))
      (λ p rest c. gives (pinged_nears now _ s.members (with_members (spread address s).node p.members) p refl c))

  -- ---- every call, on rows that hold a good node
  module _ (s : Node A) (w : Wait A) (g : Good address s) (mine : s.own ≡ own) (pos : 0 < n) where
    seen_is : (seen address lawful own b n other s w g mine pos) ≡ s
    seen_is = loaded-stored address lawful s g.whole

    good : Good address (seen address lawful own b n other s w g mine pos)
    good = rw seen_is g

    abbrev here : World A
    here = record { node = stored address s; wait = w }

    abbrev whole : Whole (same address lawful own b n other) (seen address lawful own b n other s w g mine pos).members
    whole = good.whole

    module _ (r : (At address lawful own b n other) (seen address lawful own b n other s w g mine pos).members) where
      -- what an outcome comes to
      abbrev Goes : ℕ → Outcome A → Type 0
      Goes count o = (Nears address lawful own b n other) (seen address lawful own b n other s w g mine pos).members count o.messages (loaded o.node).members

      stayed : (messages : List (Message A)) → (Nears address lawful own b n other) (seen address lawful own b n other s w g mine pos).members 0 messages (seen address lawful own b n other s w g mine pos).members
      stayed messages = rests (seen address lawful own b n other s w g mine pos).members (seen address lawful own b n other s w g mine pos).members messages r whole (still address (seen address lawful own b n other s w g mine pos).members)

      -- a good node was stored
      goes-stored : (count : ℕ) (messages : List (Message A)) (s' : Node A) → Good address s' → (Nears address lawful own b n other) (seen address lawful own b n other s w g mine pos).members count messages s'.members → (Nears address lawful own b n other) (seen address lawful own b n other s w g mine pos).members count messages (loaded (stored address s')).members
      goes-stored count messages s' k p = subst (λ (x : Node A). (Nears address lawful own b n other) (seen address lawful own b n other s w g mine pos).members count messages x.members) (sym (loaded-stored address lawful s' k.whole)) p

      effect_goes : (ds : List ℕ) (ms idle : List (Moment A)) {x : Answer (Effect A)} → After (λ e. Keeps address (seen address lawful own b n other s w g mine pos) e.node × (NobodyMoves address ms → Still address (seen address lawful own b n other s w g mine pos).members e.node.members)) x
          → NobodyMoves address (moments_by address (kept address (stored address s) ds x).reply ms idle) → Goes 0 (kept address (stored address s) ds x)
      effect_goes ds ms idle halts h = stayed []
      effect_goes ds ms idle (gives {b = e} q) h = goes-stored 0 e.messages e.node q.0.good (rests (seen address lawful own b n other s w g mine pos).members e.node.members e.messages r q.0.good.whole (q.1 h))

      message-goes : (at : Cause) (ds : List ℕ) (ms : List (Moment A)) {x : Answer (Effect A)} → After (λ e. Keeps address (seen address lawful own b n other s w g mine pos) e.node × (NobodyMoves address ms → Still address (seen address lawful own b n other s w g mine pos).members e.node.members)) x
          → NobodyMoves address (moments_by address (kept_message address (stored address s) at ds x).reply ms []) → Goes 0 (kept_message address (stored address s) at ds x)
      message-goes at ds ms halts h = stayed []
      message-goes at ds ms (gives {b = e} {ds = rest} q) h = effect_goes ds ms [] (gives {b = e} {ds = rest} q) h

      add_goes : (a : A) (k : ℕ) (ds : List ℕ) (idle : List (Moment A)) {x : Answer (Members A)} → After (λ m. Keeps address (seen address lawful own b n other s w g mine pos) (with_members (seen address lawful own b n other s w g mine pos) m) × (Listing address (seen address lawful own b n other s w g mine pos).members m → Still address (seen address lawful own b n other s w g mine pos).members m)) x
          → NobodyMoves address
          (moments_by address (kept address (stored address s) ds (and_then x λ m rest. done (record { node = with_members (seen address lawful own b n other s w g mine pos) m; messages = []; events = []; collected = 0 }) rest)).reply
          (moment (Added a k) (seen address lawful own b n other s w g mine pos) (and_then x λ m rest. done (record { node = with_members (seen address lawful own b n other s w g mine pos) m; said = []; collected = 0 }) rest))
          idle)
          → Goes 0 (kept address (stored address s) ds (and_then x λ m rest. done (record { node = with_members (seen address lawful own b n other s w g mine pos) m; messages = []; events = []; collected = 0 }) rest))
      add_goes a k ds idle halts h = stayed []
      add_goes a k ds idle (gives {b = m} {ds = rest} q) h =
          effect_goes ds (silent (Added a k) (seen address lawful own b n other s w g mine pos) (with_members (seen address lawful own b n other s w g mine pos) m)) [] (gives {b = record { node = with_members (seen address lawful own b n other s w g mine pos) m; messages = []; events = []; collected = 0 }} {ds = rest} (q.0, λ j. q.1 j.0)) h

      end_goes : (v : Fate) (ms : List (Moment A)) {x : Answer (Effect A)} → After (λ e. Keeps address (seen address lawful own b n other s w g mine pos) e.node × (NobodyMoves address ms → Still address (seen address lawful own b n other s w g mine pos).members e.node.members)) x
          → NobodyMoves address (moments_by address (kept_end address (stored address s) v x).reply ms []) → Goes 0 (kept_end address (stored address s) v x)
      end_goes v ms halts h = stayed []
      end_goes Leaves ms (gives {b = e} q) h = goes-stored 0 e.messages e.node q.0.good (rests (seen address lawful own b n other s w g mine pos).members e.node.members e.messages r q.0.good.whole (q.1 h))
      end_goes Stays ms (gives {b = e} q) h = goes-stored 0 e.messages e.node q.0.good (rests (seen address lawful own b n other s w g mine pos).members e.node.members e.messages r q.0.good.whole (q.1 h))
      end_goes Absent ms (gives {b = e} q) h = goes-stored 0 e.messages e.node q.0.good (rests (seen address lawful own b n other s w g mine pos).members e.node.members e.messages r q.0.good.whole (q.1 h))

      timer_goes : (o : Option ℕ) → ((i : ℕ) → o ≡ some i → i < length (seen address lawful own b n other s w g mine pos).timers)
          → NobodyMoves address (moments_by address (ends_at address (stored address s) o).reply (ending_at address o (seen address lawful own b n other s w g mine pos)) []) → Goes 0 (ends_at address (stored address s) o)
      timer_goes none h j = stayed []
      timer_goes (some i) h j =
          end_goes (fate_at address i (seen address lawful own b n other s w g mine pos)) (trace_timer address i (seen address lawful own b n other s w g mine pos))
          (after_then (after_both (λ o x y. (x, y.1)) (end_keeps address lawful i (seen address lawful own b n other s w g mine pos) [] good (h i refl)) (timer_traced address lawful i (seen address lawful own b n other s w g mine pos) whole)) (λ o rest q. gives q))
          j

      abbrev asked : WaitState A → StepOutcome A → ℕ
      asked st o = one (is_request st && has_run o.outcome.reply)

      abbrev StepGoes : WaitState A → StepOutcome A → Type 0
      StepGoes st o = asked st o ≡ 0 → Goes ((count address lawful own b n other s w g mine pos r) st o) o.outcome

      none-counted : (u : Bool) → one (u && false) ≡ 0
      none-counted true = refl
      none-counted false = refl

      not_run : (st : WaitState A) (o : StepOutcome A) → has_run o.outcome.reply ≡ false → Goes 0 o.outcome → StepGoes st o
      not_run st o e p _ = subst (λ (k : ℕ). Goes k o.outcome) (sym (ap (λ (u : Bool). one (is_ping st && u)) e ∙ none-counted (is_ping st))) p

      ping_goes : (ds : List ℕ) {x : Answer (Stepped A)} → After (λ e. Keeps address (seen address lawful own b n other s w g mine pos) e.effect.node × Pings (seen address lawful own b n other s w g mine pos).members e) x → StepGoes SendingPing (step_of_kept address (stored address s) w ds x)
      ping_goes ds halts _ = stayed []
      ping_goes ds (gives {b = e} q) _ = goes-stored 1 e.effect.messages e.effect.node q.0.good q.1

      other_goes : (st : WaitState A) → is_ping st ≡ false → (ds : List ℕ) {x : Answer (Stepped A)} → After (λ e. Keeps address (seen address lawful own b n other s w g mine pos) e.effect.node × Still address (seen address lawful own b n other s w g mine pos).members e.effect.node.members) x
          → StepGoes st (step_of_kept address (stored address s) w ds x)
      other_goes st f ds halts _ = rw f (stayed [])
      other_goes st f ds (gives {b = e} q) _ = rw f (goes-stored 0 e.effect.messages e.effect.node q.0.good (rests (seen address lawful own b n other s w g mine pos).members e.effect.node.members e.effect.messages r q.0.good.whole q.1))

      step-goes : (st : WaitState A) (now : ℕ) (ds : List ℕ) → valid_state address st ≡ true → StepGoes st (step_of_kept address (stored address s) w ds (step_rule address st now (seen address lawful own b n other s w g mine pos) ds))
      unfolding waited declare
      step-goes SendingPing now ds v =
          ping_goes ds (after_both (λ e x y. (x, y)) (step_keeps address lawful SendingPing now (seen address lawful own b n other s w g mine pos) ds good v) (ping_nears now (seen address lawful own b n other s w g mine pos) ds (ap (λ (x : Node A). x.own) seen_is ∙ mine) pos r))
      step-goes (WaitingForPingAck a k) now ds v =
          other_goes (WaitingForPingAck a k) refl ds (after_both (λ e x y. (x, y)) (step_keeps address lawful (WaitingForPingAck a k) now (seen address lawful own b n other s w g mine pos) ds good v) (gives (still address (seen address lawful own b n other s w g mine pos).members)))
      step-goes (SendingPingReq a k) now ds v = asks (step_rule address (SendingPingReq a k) now (seen address lawful own b n other s w g mine pos) ds)
        where
          asks : (x : Answer (Stepped A)) → StepGoes (SendingPingReq a k) (step_of_kept address (stored address s) w ds x)
          asks (refused x) = not_run (SendingPingReq a k) (record { outcome = refuses (stored address s) x; wait = w }) refl (stayed [])
          asks (done e rest) = λ h. let z : ◌≡◌ {A = ℕ} 1 0 = h in absurd (omega arith)
      step-goes (WaitingForPingReqAck a k) now ds v =
          other_goes (WaitingForPingReqAck a k) refl ds (after_both (λ e x y. (x, y)) (step_keeps address lawful (WaitingForPingReqAck a k) now (seen address lawful own b n other s w g mine pos) ds good v) (gives (still address (seen address lawful own b n other s w g mine pos).members)))
      step-goes (Declaring a k) now ds v =
          other_goes (Declaring a k) refl ds
          (after_both (λ e x y. (x, y)) (step_keeps address lawful (Declaring a k) now (seen address lawful own b n other s w g mine pos) ds good v) (after-when (λ _. halts) (λ _. gives (still address (seen address lawful own b n other s w g mine pos).members))))

      call-goes : (c : Call A) → NobodyMoves address (moments address c here) → requests_in address c here ≡ 0 → Goes (pings_in address c here) (outcome address c here).outcome
      unfolding add_peer message detect end_timer loaded
      call-goes (Add a k ds) h _ =
          first_cases (λ (o : Outcome A). NobodyMoves address (moments_by address o.reply (trace_add address a k (seen address lawful own b n other s w g mine pos) ds) (silent (Added a k) (seen address lawful own b n other s w g mine pos) (seen address lawful own b n other s w g mine pos))) → Goes 0 o) (add_tests address (stored address s) a) (refuses (stored address s)) _
          (λ _ _. stayed [])
          (λ p.
          (elim (lists address a (seen address lawful own b n other s w g mine pos)) as (λ u. lists address a (seen address lawful own b n other s w g mine pos) ≡ u → let o = or_already u (stored address s) (kept address (stored address s) ds (joins address a k (seen address lawful own b n other s w g mine pos) ds)) in
          NobodyMoves address (moments_by address o.reply (trace_add address a k (seen address lawful own b n other s w g mine pos) ds) (silent (Added a k) (seen address lawful own b n other s w g mine pos) (seen address lawful own b n other s w g mine pos))) → Goes 0 o) [
            | true ↦ λ e _. stayed []
            | false ↦ λ e. add_goes a k ds (silent (Added a k) (seen address lawful own b n other s w g mine pos) (seen address lawful own b n other s w g mine pos))
                (after_both (λ m x y. (x, y.1)) (add-keeps address lawful a k (seen address lawful own b n other s w g mine pos) ds good (not-false (address.valid a) p.1.0) e) (add-moves address lawful a k (seen address lawful own b n other s w g mine pos).members ds whole e))
          ]) refl)
          h
      call-goes (Receive action gs ds lent) h _ =
          first_cases (λ (o : Outcome A). NobodyMoves address (moments_by address o.reply (trace_message address action gs (seen address lawful own b n other s w g mine pos) ds) []) → Goes 0 o) (message_tests address (stored address s) action gs lent) (refuses (stored address s)) _
          (λ _ _. stayed [])
          (λ p.
          let v = and_split (valid_action address action) (every (valid_gossip address) gs) (not-false _ p.1.1.1.0) in
          message-goes _ ds (trace_message address action gs (seen address lawful own b n other s w g mine pos) ds)
          (after_both (λ e x y. (x, y)) (handle-keeps address lawful action gs (seen address lawful own b n other s w g mine pos) ds good v.0 v.1) (message_settles address lawful action gs (seen address lawful own b n other s w g mine pos) ds whole)))
          h
      call-goes (Step now ds lent) _ q =
          first_cases (StepGoes w.state) (step_tests address (stored address s) w lent) (λ x. record { outcome = refuses (stored address s) x; wait = w }) _
          (λ x. not_run w.state (record { outcome = refuses (stored address s) x; wait = w }) refl (stayed []))
          (λ p.
          elim (due (stored address s).settings w now) as (λ u. StepGoes w.state (when_due u (stored address s) w (step_of_kept address (stored address s) w ds (step_rule address w.state now (seen address lawful own b n other s w g mine pos) ds)))) [
            | true ↦ step-goes w.state now ds (not-false (valid_state address w.state) p.1.1.0)
            | false ↦ not_run w.state (record { outcome = unchanged NotDue (stored address s); wait = w }) refl (stayed [])
          ])
          q
      call-goes (Lends wait) _ _ = stayed []
      call-goes (Timer now lent) h _ =
          first_cases (λ (o : Outcome A). NobodyMoves address (moments_by address o.reply (ending_at address (first_over address (seen address lawful own b n other s w g mine pos).settings.suspect_timeout now (seen address lawful own b n other s w g mine pos).timers) (seen address lawful own b n other s w g mine pos)) []) → Goes 0 o) (timer_tests address (stored address s) lent) (refuses (stored address s)) _
          (λ _ _. stayed [])
          (λ p. timer_goes (first_over address (seen address lawful own b n other s w g mine pos).settings.suspect_timeout now (seen address lawful own b n other s w g mine pos).timers) (first_over_in address lawful (seen address lawful own b n other s w g mine pos).settings.suspect_timeout now (seen address lawful own b n other s w g mine pos).timers))
          h

  -- ---- every history
  nears : (t : Tally) (c : Call A) (w : World A) → Stands address lawful own own t w → 0 < n → (At address lawful own b n other) (loaded w.node).members → NobodyMoves address (moments address c w) → requests_in address c w ≡ 0
      → (Nears address lawful own b n other) (loaded w.node).members (pings_in address c w) (outcome address c w).outcome.messages (loaded (outcome address c w).outcome.node).members
  nears t c _ (stands s w g k) pos r h q = call-goes s w g k.mine pos r c h q

  reached : (h : List (Call A)) (w : World A) (t : Tally) → Stands address lawful own own t w → 0 < n → (At address lawful own b n other) (loaded w.node).members → NobodyMoves address (trace address h w) → requests_of address h w ≡ 0
      → (far address lawful own b n other) (loaded w.node).members ≤ pings_of address h w → has (same address lawful own b n other) b (pinged_along address h w) ≡ true
  reached [] w t k pos r m q f = absurd (omega (arith, away_pos (same address lawful own b n other) lawful.test address.blank own b n (drop (loaded w.node).members.position (loaded w.node).members.order) pos other))
  reached (c ∷ h) w t k pos r m q f =
      let w' = world_of address (outcome address c w) in
      let two = nobody_split address (moments address c w) (trace address h w') m in
      let p = nears t c w k pos r two.0 (omega (arith, q)) in
      ⊎_elim
      (λ z. has_left (same address lawful own b n other) lawful.test address.blank own b (pinged_by address c w) (pinged_along address h w') z)
      (λ z. has_right (same address lawful own b n other) lawful.test address.blank own b (pinged_by address c w) (pinged_along address h w')
      (reached h w' _ (call-stands address lawful own own t c w k).stands pos p.at two.1 (omega (arith, q)) (omega (arith, z, f))))
      p.nearer

module _ {A : Type 0} (address : Address A) (lawful : Lawful address) (begins : Beginning A) (tick : ℕ) (first : Stored A) (gave : Gave address begins first) (earlier : List (Call A)) where
  -- where the stretch begins
  abbrev from : World A
  from = run address earlier (start address begins tick)

  abbrev listed_now : List (Member A)
  listed_now = (loaded from.node).members.table

  -- "among any 2n − 1 picks in a row each peer is picked at least once when own address is listed, whatever the draws": take any stretch of a history in which no
  -- address comes or goes and no ping-request step ran, own address and n peers listed. If the detector pinged 2n − 1 times in it, each peer was pinged
  pub nobody_unprobed : (stretch : List (Call A)) (n : ℕ) (b : A) → length listed_now ≡ n + 1 → listed address.same (own address lawful begins tick first gave earlier) listed_now ≡ true
      → listed address.same b listed_now ≡ true → address.same (own address lawful begins tick first gave earlier) b ≡ false → NobodyMoves address (trace address stretch from) → requests_of address stretch from ≡ 0
      → 2 * n - 1 ≤ pings_of address stretch from → has address.same b (pinged_along address stretch from) ≡ true
  nobody_unprobed stretch n b many mine there other still₁ none-asked enough =
      let k = demand3.stood address lawful begins tick first gave earlier (own address lawful begins tick first gave earlier) in
      let w : Whole address.same (loaded from.node).members = whole-of k in
      let once : (a : A) → listed address.same a listed_now ≡ true → occurs address.same a (addrs listed_now) ≡ 1 = λ a e. has_is address.same a (addrs listed_now) (w.once a) ∙ ap one e in
      let r : Ready address.same lawful.test address.blank (own address lawful begins tick first gave earlier) b n (loaded from.node).members =
      record { whole = w; mine = once (own address lawful begins tick first gave earlier) mine; there = once b there; many = w.long ∙ many ∙ omega arith } in
      let a = away-most address.same lawful.test address.blank (own address lawful begins tick first gave earlier) b n (loaded from.node).members r other in
      reached address lawful (own address lawful begins tick first gave earlier) b n other stretch from _ k a.0 r still₁ none-asked (omega (arith, a.1, enough))
    where
      whole-of : {t : Tally} {v : World A} → Stands address lawful (own address lawful begins tick first gave earlier) (own address lawful begins tick first gave earlier) t v → Whole address.same (loaded v.node).members
      whole-of (stands s _ g _) = rw (loaded-stored address lawful s g.whole) g.whole
