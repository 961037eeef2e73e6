-- Whatever comes in between: in no history does the detector ping more than so often while the alive heap stays full. Messages, adds, timers, steps of every state, lent wait records
-- and refused calls may stand between the pings; collecting is off.
-- Assumes nothing.
use Rattle.std.specs.Prelude.{◌≡◌, Bool, ◌&&◌, ℕ, zero, suc, ◌+◌, ◌-◌, ◌*◌, ◌≤◌, ◌<◌, max}
use Rattle.std.proofs.Math.Path.{refl, ap, subst}
use Rattle.std.proofs.Common.{sym, ◌∙◌, le_trans}
use Rattle.std.proofs.Math.Bool.{true, false}
use mathlib.Core.List.{List, [], ◌∷◌}
use Rattle.std.proofs.Math.Option.{Option, none, some}
use native.Mathlib.Omega.{arith}
use Rattle.std.proofs.Math.Nat.{pow-le-pow_left}
use Rattle.std.proofs.Math.ListN.{length}
use Rattle.std.proofs.lemmas.Bool.{not-false}
use Rattle.model.specs.declared.Kind.{Kind}
use Rattle.model.specs.declared.Kind.TheVariants as kind
use Rattle.model.specs.declared.State.TheVariants as state
use Rattle.model.specs.declared.Fate.{Fate}
use Rattle.model.specs.declared.Fate.TheVariants.{Leaves, Stays, Absent}
use Rattle.model.specs.declared.Reply.TheVariants.{NotDue}
use Rattle.model.specs.declared.Cause.{Cause}
use Rattle.model.specs.Rows.{one, pick, every}
use Rattle.model.specs.Answers.{Answer, done, refused, and_then}
use Rattle.model.specs.Words.{Address, Lawful, Entry, Gossip, Deceased, Action, Ping, PingReq, Ack, Wait, WaitState, SendingPing, WaitingForPingAck, SendingPingReq, WaitingForPingReqAck, Declaring}
use Rattle.model.specs.Words as words
use Rattle.model.specs.Limit.{limit_of}
use Rattle.model.specs.Choose.{Terms, terms_of}
use Rattle.model.specs.Collect.{collects, cleared}
use Rattle.model.specs.Members.{Members, Picked, pick_from}
use Rattle.model.specs.Node.{Node, Out, Effect, Disseminator, Stored, loaded, stored, with_members, with_lists, quiet, and_more, pushed, emit, lists, numbered, change, leave, spread}
use Rattle.model.specs.Handler.{Verdict, News, Silent, Emits, list_after, row_after, news_of, tell, act, item, gossip, admit, acked, answer_to, forwarded, handle}
use Rattle.model.specs.Detector.{Stepped, due, pinged, send_ping, waited, declare, step, first_over, timer_at, fate_at, freed, by_fate, end_at}
use Rattle.model.specs.Sound.{sound, valid_gossip}
use Rattle.model.specs.Calls.{Outcome, StepOutcome, unchanged, refuses, or_already, when_due, kept, kept_message, step_of_kept, kept_end, joins, add_tests, message_tests, step_tests, timer_tests, add_peer, message, detect, ends_at, end_timer, valid_action, valid_state}
use Rattle.laws.specs.After.{After, halts, gives, after_map, after-when, after_then, after_both}
use Rattle.laws.specs.Bools.{and_split}
use Rattle.laws.specs.Ranges.{ranges}
use Rattle.laws_choose.specs.LimitLaws.{least_power_reaches, least_power-least, limit_most}
use Rattle.laws_node.specs.Good.{Good, FullRows, sound_good, loaded-stored, stored_loaded}
use Rattle.laws_rules.specs.Keeps.{Keeps, add-keeps}
use Rattle.laws_rules.specs.KeepsCalls.{handle-keeps, step_keeps, end_keeps, first_over_in}
use Rattle.history.specs.Histories.{World, Call, Add, Receive, Step, Timer, Lends, outcome, world_of}
use Rattle.history.proofs.Worlds.{first_cases}
use Rattle.probing.specs.Stretch.{has_run, is_ping, pings_in, pings_of}
use Rattle.supply.specs.Owed.{owed}
use Rattle.supply.proofs.Owed.{owed-least, owed-full, choose_adds_none, choose_pays_more, choose_takes, entries_fit}
use Rattle.supply.specs.Drains.{limit_at}
use Rattle.supply.proofs.Drains.{used-of, least_size_of}
use Rattle.supply.proofs.Wedged.{emit-full, request_full}
use Rattle.supply.specs.Meanwhile.{FullAlong}

-- no limit of a node is above that of 64 listed
pub limit_at_64 : (n c : ℕ) → n ≤ 64 → limit_of n c ≤ limit_of 64 c
unfolding limit_of
limit_at_64 zero c h = omega arith
limit_at_64 (suc n) c h = omega (arith, least_power-least (suc n) c _ (le_trans (pow-le-pow_left h c) (least_power_reaches 64 c)))

after_any : {B : Type 0} (x : Answer B) → After (λ _. Unit {0}) x
after_any (refused r) = halts
after_any (done b ds) = gives tt

one_and : (u v : Bool) → one (u && v) ≤ one u
one_and true true = omega arith
one_and true false = omega arith
one_and false v = omega arith

module _ {A : Type 0} (address : Address A) where
  -- the alive heap and the settings stand
  abbrev Rests : Node A → Node A → Type 0
  Rests s s' = (s'.disseminator.alive ≡ s.disseminator.alive) × (s'.settings ≡ s.settings)

  -- the terms of a node's choosing
  abbrev chooses : Node A → Terms
  chooses s = terms_of s.settings.max_selected s.settings.max_size (limit_at address s)

  cleared-off : (on : Bool) (k : Kind) (g : Gossip A) (h : List (Entry A)) → on ≡ false → cleared address on k g h ≡ h
  unfolding cleared collects
  cleared-off on k g h e = rw e refl

  -- ---- a full alive heap: nothing comes into it
  module _ (s : Node A) (off : s.settings.collect ≡ false) (full : 128 ≤ length s.disseminator.alive) where
    emit_rests : (k : Kind) (g : Gossip A) (s' : Node A) (ds : List ℕ) → Rests s s' → After (λ o. Rests s o.node) (emit address k g s' ds)
    unfolding emit pushed
    emit_rests kind.Alive g s' ds r =
        subst (After (λ (o : Out A). Rests s o.node)) (sym (emit-full address g s' ds (ap (λ c. c.collect) r.1 ∙ off) (subst (λ (h : List (Entry A)). 128 ≤ length h) (sym r.0) full))) halts
    emit_rests kind.Deceased g s' ds r =
        after_then {P = λ (d : Disseminator A). d.alive ≡ s'.disseminator.alive}
        (after-when (λ _. halts) (λ _. gives (cleared-off s'.settings.collect kind.Deceased g s'.disseminator.alive (ap (λ c. c.collect) r.1 ∙ off))))
        (λ d rest e. gives (e ∙ r.0, r.1))

    tell_rests : (n : News A) (s' : Node A) (ds : List ℕ) → Rests s s' → After (λ o. Rests s o.node) (tell address n s' ds)
    unfolding quiet
    tell_rests Silent s' ds r = gives r
    tell_rests (Emits k e) s' ds r = emit_rests k (record { event = e }) s' ds r

    act_rests : (v : Verdict A) (s' : Node A) (ds : List ℕ) → Rests s s' → After (λ o. Rests s o.node) (act address v s' ds)
    unfolding act
    act_rests v s' ds r =
        after_then (after_any (list_after address v s'.members ds))
        (λ m rest _. tell_rests (news_of address v s'.own) (with_lists s' m (row_after address v s'.members.table s'.departed)) rest r)

    gossip_rests : (gs : List (Gossip A)) (s' : Node A) (ds : List ℕ) → Rests s s' → After (λ o. Rests s o.node) (gossip address gs s' ds)
    unfolding quiet and_more item
    gossip_rests [] s' ds r = gives r
    gossip_rests (g ∷ gs) s' ds r = after_then (act_rests _ s' ds r) (λ o rest p. after_then (gossip_rests gs o.node rest p) (λ q rest₂ v. gives v))

    admit_rests : (a : A) (s' : Node A) (ds : List ℕ) → Rests s s' → After (λ o. Rests s o.node) (admit address a s' ds)
    unfolding admit
    admit_rests a s' ds r = act_rests _ s' ds r

    -- ---- and what goes out of it pays
    module _ (most : ℕ) where
      abbrev Owes : Node A → Type 0
      Owes s' = owed most s'.disseminator.alive ≤ owed most s.disseminator.alive

      rests_owes : (s' : Node A) → Rests s s' → Owes s'
      rests_owes s' r = subst (λ (h : List (Entry A)). owed most h ≤ owed most s.disseminator.alive) (sym r.0) (omega arith)

      spread_owes : (s' : Node A) → Rests s s' → Owes (spread address s').node
      unfolding spread
      spread_owes s' r =
          omega (arith, choose_adds_none address most (chooses s') s'.disseminator.alive s'.disseminator.deceased, rests_owes s' r)

      acked_rests : (a : A) (s' : Node A) → Rests s s' → Rests s (acked address a s')
      unfolding acked change
      acked_rests a s' r =
          elim (lists address a s') as (λ u. Rests s (pick u (change address a state.Alive (numbered address a s') s') s')) [
            | true ↦ r
            | false ↦ r
          ]

      handle_owes : (action : Action A) (gs : List (Gossip A)) (ds : List ℕ) → After (λ e. Owes e.node) (handle address action gs s ds)
      unfolding handle answer_to forwarded and_more
      handle_owes (Ping from by) gs ds =
          after_then {P = λ (o : Out A). Rests s o.node}
          (after_then (gossip_rests gs s ds (refl, refl)) (λ o rest p. after_then (admit_rests from o.node rest p) (λ q rest₂ v. gives v)))
          (λ o rest p. gives (spread_owes o.node p))
      handle_owes (PingReq from suspect) gs ds = after_then (gossip_rests gs s ds (refl, refl)) (λ o rest p. gives (spread_owes o.node p))
      handle_owes (Ack from none) gs ds = after_then (gossip_rests gs s ds (refl, refl)) (λ o rest p. gives (rests_owes (acked address from o.node) (acked_rests from o.node p)))
      handle_owes (Ack from (some to)) gs ds = after_then (gossip_rests gs s ds (refl, refl)) (λ o rest p. gives (rests_owes o.node p))

      fate_owes : (v : Fate) (t : words.Timer A) (s' : Node A) (ds : List ℕ) → Rests s s' → After (λ o. Owes o.node) (by_fate address v t s' ds)
      unfolding by_fate leave quiet
      fate_owes Leaves t s' ds r =
          after_map (λ o p. rests_owes o.node p)
          (emit_rests kind.Deceased (record { event = Deceased s'.own t.addr t.number }) (leave address t.addr t.number s') ds r)
      fate_owes Stays t s' ds r = gives (rests_owes s' r)
      fate_owes Absent t s' ds r = gives (rests_owes s' r)

      end_owes : (i : ℕ) (ds : List ℕ) → After (λ o. Owes o.node) (end_at address i s ds)
      unfolding end_at
      end_owes i ds = fate_owes (fate_at address i s) (timer_at address i s) (freed address i s) ds (refl, refl)

  -- ---- a step, with its ping
  module _ (texts : (a : A) → address.valid a ≡ true → address.chars a ≤ 47) (s : Node A) (g : Good address s) (off : s.settings.collect ≡ false)
      (full : 128 ≤ length s.disseminator.alive) (most : ℕ) (bound : limit_at address s ≤ most) where
    spread_pays : owed most (spread address s).node.disseminator.alive + 1 ≤ owed most s.disseminator.alive
    unfolding spread terms_of
    spread_pays =
        let r = ranges s.settings g.settings in
        let some-taken = choose_takes address (chooses s) s.disseminator.alive s.disseminator.deceased
        (entries_fit address texts kind.Alive s.settings.max_size s.disseminator.alive (least_size_of s.settings g.settings) (g.heaps kind.Alive).entries)
        (omega (arith, r.least_selected)) (omega arith) in
        omega (arith, some-taken, choose_pays_more address most (chooses s) s.disseminator.alive s.disseminator.deceased bound)

    -- so much less is owed after a step
    abbrev StepOwes : WaitState A → Stepped A → Type 0
    StepOwes st e = owed most e.effect.node.disseminator.alive + one (is_ping st) ≤ owed most s.disseminator.alive

    pinged-alive : (now : ℕ) (gs : List (Gossip A)) (s' : Node A) (picks : List A) → (pinged address now gs s' picks).effect.node.disseminator ≡ s'.disseminator
    unfolding pinged change
    pinged-alive now gs s' [] = refl
    pinged-alive now gs s' (a ∷ picks) = refl

    nothing_paid : owed most s.disseminator.alive + 0 ≤ owed most s.disseminator.alive
    nothing_paid = omega arith

    step_owes : (st : WaitState A) (now : ℕ) (ds : List ℕ) → After (StepOwes st) (step address st now s ds)
    unfolding send_ping waited declare
    step_owes SendingPing now ds =
        after_then {B = Picked A} (after_any (pick_from address.same address.blank s.own none 1 s.members ds))
        (λ p rest _. gives
        (subst (λ (d : Disseminator A). owed most d.alive + 1 ≤ owed most s.disseminator.alive)
        (sym (pinged-alive now (spread address s).gossip (with_members (spread address s).node p.members) p.picks)) spread_pays))
    step_owes (WaitingForPingAck a n) now ds = gives nothing_paid
    step_owes (SendingPingReq a n) now ds = subst (After (StepOwes (SendingPingReq a n))) (sym (request_full address a n now s ds off full)) halts
    step_owes (WaitingForPingReqAck a n) now ds = gives nothing_paid
    step_owes (Declaring a n) now ds = after-when (λ _. halts) (λ _. gives nothing_paid)

  -- ---- calls
  module _ (lawful : Lawful address) (texts : (a : A) → address.valid a ≡ true → address.chars a ≤ 47) (most : ℕ) where
    -- a call that pinged n times, from the rows of s: they hold a good node still, and owe so much less
    record Goes (s : Node A) (n : ℕ) (o : Outcome A) : Type 0 where
      after : Node A
      is : o.node ≡ stored address after
      good : Good address after
      settings : after.settings ≡ s.settings
      owes : owed most after.disseminator.alive + n ≤ owed most s.disseminator.alive

    module _ (s : Node A) (w : Wait A) (g : Good address s) (off : s.settings.collect ≡ false) (full : 128 ≤ length s.disseminator.alive) (bound : limit_at address s ≤ most) where
      -- the node as the call reads it
      abbrev seen : Node A
      seen = loaded (stored address s)

      seen_is : seen ≡ s
      seen_is = loaded-stored address lawful s g.whole

      good_seen : Good address seen
      good_seen = subst (Good address) (sym seen_is) g

      off-seen : seen.settings.collect ≡ false
      off-seen = subst (λ (x : Node A). x.settings.collect ≡ false) (sym seen_is) off

      full-seen : 128 ≤ length seen.disseminator.alive
      full-seen = subst (λ (x : Node A). 128 ≤ length x.disseminator.alive) (sym seen_is) full

      bound_seen : limit_at address seen ≤ most
      bound_seen = subst (λ (x : Node A). limit_at address x ≤ most) (sym seen_is) bound

      abbrev here : World A
      here = record { node = stored address s; wait = w }

      stayed : (o : Outcome A) → o.node ≡ stored address s → Goes s 0 o
      stayed o e = record { after = s; is = e; good = g; settings = refl; owes = omega arith }

      moved : (n : ℕ) (o : Outcome A) (y : Node A) → o.node ≡ stored address y → Keeps address seen y → owed most y.disseminator.alive + n ≤ owed most seen.disseminator.alive → Goes s n o
      moved n o y e k h =
          record {
            after = y;
            is = e;
            good = k.good;
            settings = k.settings ∙ ap (λ (x : Node A). x.settings) seen_is;
            owes = subst (λ (x : Node A). owed most y.disseminator.alive + n ≤ owed most x.disseminator.alive) seen_is h;
          }

      kept_goes : (at : Cause) (ds : List ℕ) {x : Answer (Effect A)} → After (λ e. Keeps address seen e.node × (owed most e.node.disseminator.alive ≤ owed most seen.disseminator.alive)) x
          → Goes s 0 (kept_message address (stored address s) at ds x)
      kept_goes at ds halts = stayed _ refl
      kept_goes at ds (gives {b = e} q) = moved 0 _ e.node refl q.0 (omega (arith, q.1))

      add_goes : (ds : List ℕ) {x : Answer (Members A)} → After (λ m. Keeps address seen (with_members seen m)) x
          → Goes s 0 (kept address (stored address s) ds (and_then x λ m rest. done (record { node = with_members seen m; messages = []; events = []; collected = 0 }) rest))
      add_goes ds halts = stayed _ refl
      add_goes ds (gives {b = m} q) = moved 0 _ (with_members seen m) refl q (omega arith)

      end_goes : (v : Fate) {x : Answer (Effect A)} → After (λ e. Keeps address seen e.node × (owed most e.node.disseminator.alive ≤ owed most seen.disseminator.alive)) x
          → Goes s 0 (kept_end address (stored address s) v x)
      end_goes v halts = stayed _ refl
      end_goes v (gives {b = e} q) = moved 0 _ e.node refl q.0 (omega (arith, q.1))

      timer_goes : (o : Option ℕ) → ((i : ℕ) → o ≡ some i → i < length seen.timers) → Goes s 0 (ends_at address (stored address s) o)
      timer_goes none h = stayed _ refl
      timer_goes (some i) h =
          end_goes (fate_at address i seen)
          (after_then (after_both (λ o x y. (x, y)) (end_keeps address lawful i seen [] good_seen (h i refl)) (end_owes seen off-seen full-seen most i [])) (λ o rest q. gives q))

      -- of a step: it counts as a ping if it is one and ran
      abbrev StepGoes : StepOutcome A → Type 0
      StepGoes o = Goes s (one (is_ping w.state && has_run o.outcome.reply)) o.outcome

      idle : (n : ℕ) (o : Outcome A) → n ≡ 0 → o.node ≡ stored address s → Goes s n o
      idle n o z e = subst (λ (k : ℕ). Goes s k o) (sym z) (stayed o e)

      not_run : (u : Bool) → one (u && false) ≡ 0
      not_run true = refl
      not_run false = refl

      step-goes : (ds : List ℕ) {x : Answer (Stepped A)} → After (λ e. Keeps address seen e.effect.node × StepOwes texts seen good_seen off-seen full-seen most bound_seen w.state e) x
          → StepGoes (step_of_kept address (stored address s) w ds x)
      step-goes ds halts = idle _ _ (not_run (is_ping w.state)) refl
      step-goes ds (gives {b = e} q) = moved _ _ e.effect.node refl q.0 (omega (arith, q.1, one_and (is_ping w.state) true))

      call-goes : (c : Call A) → Goes s (pings_in address c here) (outcome address c here).outcome
      unfolding add_peer message detect end_timer loaded
      call-goes (Add a n ds) =
          first_cases (λ (o : Outcome A). Goes s 0 o) (add_tests address (stored address s) a) (refuses (stored address s)) _
          (λ r. stayed _ refl)
          (λ p.
          (elim (lists address a seen) as (λ u. lists address a seen ≡ u → Goes s 0 (or_already u (stored address s) (kept address (stored address s) ds (joins address a n seen ds)))) [
            | true ↦ λ e. stayed _ refl
            | false ↦ λ e. add_goes ds (add-keeps address lawful a n seen ds good_seen (not-false (address.valid a) p.1.0) e)
          ]) refl)
      call-goes (Receive action gs ds lent) =
          first_cases (λ (o : Outcome A). Goes s 0 o) (message_tests address (stored address s) action gs lent) (refuses (stored address s)) _
          (λ r. stayed _ refl)
          (λ p.
          let v = and_split (valid_action address action) (every (valid_gossip address) gs) (not-false _ p.1.1.1.0) in
          kept_goes _ ds (after_both (λ e x y. (x, y)) (handle-keeps address lawful action gs seen ds good_seen v.0 v.1) (handle_owes seen off-seen full-seen most action gs ds)))
      call-goes (Step now ds lent) =
          first_cases StepGoes (step_tests address (stored address s) w lent) (λ r. record { outcome = refuses (stored address s) r; wait = w }) _
          (λ r. idle _ _ (not_run (is_ping w.state)) refl)
          (λ p.
          elim (due (stored address s).settings w now) as (λ u. StepGoes (when_due u (stored address s) w (step_of_kept address (stored address s) w ds (step address w.state now seen ds)))) [
            | true ↦ step-goes ds
                (after_both (λ e x y. (x, y)) (step_keeps address lawful w.state now seen ds good_seen (not-false (valid_state address w.state) p.1.1.0))
                (step_owes texts seen good_seen off-seen full-seen most bound_seen w.state now ds))
            | false ↦ idle _ (unchanged NotDue (stored address s)) (not_run (is_ping w.state)) refl
          ])
      call-goes (Timer now lent) =
          first_cases (λ (o : Outcome A). Goes s 0 o) (timer_tests address (stored address s) lent) (refuses (stored address s)) _
          (λ r. stayed _ refl)
          (λ p. timer_goes (first_over address seen.settings.suspect_timeout now seen.timers) (first_over_in address lawful seen.settings.suspect_timeout now seen.timers))
      call-goes (Lends wait) = stayed _ refl

    -- ---- a stretch: each ping of it was owed, and the 128 that are held in the end are owed still
    pings-owed : (h : List (Call A)) (s : Node A) (w : Wait A) → Good address s → s.settings.collect ≡ false → limit_of 64 s.settings.send_constant ≤ most
        → (FullAlong address) h (record { node = stored address s; wait = w }) → 128 + pings_of address h (record { node = stored address s; wait = w }) ≤ owed most s.disseminator.alive
    pings-owed [] s w g off b f = omega (arith, f, used-of address s, owed-least most s.disseminator.alive)
    pings-owed (c ∷ h) s w g off b f =
        let before : World A = record { node = stored address s; wait = w } in
        let bound : limit_at address s ≤ most = le_trans (limit_at_64 (length s.members.table) s.settings.send_constant g.whole.few) b in
        let k = call-goes s w g off (omega (arith, f.0, used-of address s)) bound c in
        let next : World A = record { node = stored address k.after; wait = (outcome address c before).wait } in
        let to : world_of address (outcome address c before) ≡ next = ap (λ (n : Stored A). record { node = n; wait = (outcome address c before).wait }) k.is in
        let rest : 128 + pings_of address h next ≤ owed most k.after.disseminator.alive =
        pings-owed h k.after (outcome address c before).wait k.good (ap (λ x. x.collect) k.settings ∙ off)
        (subst (λ (n : ℕ). n ≤ most) (sym (ap (λ x. limit_of 64 x.send_constant) k.settings)) b) (subst ((FullAlong address) h) to f.1) in
        let same-pings : pings_of address h (world_of address (outcome address c before)) ≡ pings_of address h next = ap (pings_of address h) to in
        omega (arith, rest, k.owes, same-pings)

  -- ---- of a sound node
  module _ (lawful : Lawful address) (texts : (a : A) → address.valid a ≡ true → address.chars a ≤ 47) where
    -- while the alive heap stays full, the detector pings no more than so often, whatever comes in between
    pub pings_while_full : (h : List (Call A)) (w : World A) → FullRows w.node → sound address w.node ≡ true → w.node.settings.collect ≡ false → (FullAlong address) h w
        → pings_of address h w ≤ 128 * (max 1 (limit_of 64 w.node.settings.send_constant) - 1)
    unfolding loaded
    pings_while_full h w f p off full =
        let most = limit_of 64 w.node.settings.send_constant in
        let s = loaded w.node in
        let g = sound_good address lawful w.node f p in
        let e : stored address s ≡ w.node = stored_loaded address lawful w.node f p in
        let to : w ≡ record { node = stored address s; wait = w.wait } = ap (λ (n : Stored A). record { node = n; wait = w.wait }) (sym e) in
        let owing : 128 + pings_of address h (record { node = stored address s; wait = w.wait }) ≤ owed most s.disseminator.alive =
        pings-owed lawful texts most h s w.wait g off (omega arith) (subst ((FullAlong address) h) to full) in
        omega (arith, owing, owed-full most s.disseminator.alive (g.heaps kind.Alive).few, ap (pings_of address h) to)

    -- 2817 pings, and the heap had room at some time
    pub room_meanwhile : (h : List (Call A)) (w : World A) → FullRows w.node → sound address w.node ≡ true → w.node.settings.collect ≡ false → 2817 ≤ pings_of address h w → (FullAlong address) h w → ⊥
    unfolding loaded
    room_meanwhile h w f p off many full =
        let g = sound_good address lawful w.node f p in
        omega (
          arith,
          pings_while_full h w f p off full,
          limit_most 64 w.node.settings.send_constant (omega arith) (ranges w.node.settings g.settings).constant,
        )
