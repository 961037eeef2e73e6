-- Of every call on rows that hold a good node: its moments lead from the node before it to the node after it, what they said is what it reported, and their deeds are its own.
-- Assumes nothing.
use Rattle.std.specs.Prelude.{◌≡◌, refl, ℕ, ◌+◌, ◌<◌, length, get_or}
use Rattle.std.proofs.Math.Path.{ap, subst}
use Rattle.std.proofs.Common.{sym, ◌∙◌, arith}
use Rattle.std.proofs.Math.Bool.{true, false}
use mathlib.Core.List.{List, [], ◌∷◌, ◌++◌, append-nil, append_assoc}
use Rattle.std.proofs.Math.Option.{Option, none, some}
use Rattle.std.proofs.lemmas.Bool.{not-false}
use Rattle.model.specs.declared.Cause.{Cause}
use Rattle.model.specs.declared.Fate.{Fate}
use Rattle.model.specs.declared.Fate.TheVariants.{Leaves, Stays, Absent}
use Rattle.model.specs.Rows.{every}
use Rattle.laws.specs.Bools.{and_split}
use Rattle.model.specs.Answers.{Answer, done, refused, and_then}
use Rattle.laws.specs.After.{After, halts, gives, after_map, after_then, after_both}
use Rattle.model.specs.Words.{Address, Lawful, Gossip, Action, Ping, PingReq, Ack, Wait, WaitState, SendingPing, WaitingForPingAck, SendingPingReq, WaitingForPingReqAck, Declaring, no_timer}
use Rattle.model.specs.Members.{Members, Picked, pick_from}
use Rattle.model.specs.Node.{Node, Out, Effect, loaded, stored, with_members, and_more, quiet, lists, spread}
use Rattle.model.specs.Handler.{item, gossip, admit, acked, answer_to, forwarded, handle}
use Rattle.model.specs.Detector as D
use Rattle.model.specs.Detector.{Stepped, pinged, send_ping, due, first_over, fate_at, end_at}
use Rattle.model.specs.Sound.{valid_gossip}
use Rattle.laws_node.specs.Good.{Good, loaded-stored}
use Rattle.laws_rules.specs.Keeps.{Keeps, add-keeps}
use Rattle.laws_rules.specs.KeepsCalls.{handle-keeps, step_keeps, end_keeps, first_over_in}
use Rattle.model.specs.Calls.{Outcome, StepOutcome, refuses, or_already, when_due, kept, kept_message, step_of_kept, kept_end, joins, add_tests, message_tests, step_tests, timer_tests, add_peer, message, detect, ends_at, end_timer, valid_action, valid_state}
use Rattle.history.specs.Moments.{Deed, Told, Sender, Added, Other, Moment, moment, silent, stepped, trace_then, trace_gossip, trace_spread, trace_admit, trace_ack, trace_message, trace_step, trace_add, trace_timer, ended_deed}
use Rattle.history.specs.Histories.{World, Call, Add, Receive, Step, Timer, Lends, outcome, ending_at, moments_by, moments}
use Rattle.history.specs.Tells.{targets, PingGoes, Leads, said_by, deeds_in, Tells, records, message_deeds, timer_deeds, asked_by, deeds_of}
use Rattle.history.proofs.Worlds.{first_cases}

module _ {A : Type 0} where
  leads-on : (s s' s'' : Node A) (ms ns : List (Moment A)) → Leads s ms s' → Leads s' ns s'' → Leads s (ms ++ ns) s''
  leads-on s s' s'' [] ns p q = subst (λ (x : Node A). Leads x ns s'') (sym p) q
  leads-on s s' s'' (m ∷ ms) ns p q = (p.0, leads-on m.after s' s'' ms ns p.1 q)

  said-on : (ms ns : List (Moment A)) → said_by (ms ++ ns) ≡ said_by ms ++ said_by ns
  said-on [] ns = refl
  said-on (m ∷ ms) ns = ap (λ (l : List (Gossip A)). m.said ++ l) (said-on ms ns) ∙ sym (append_assoc m.said (said_by ms) (said_by ns))

  deeds_on : (ms ns : List (Moment A)) → deeds_in (ms ++ ns) ≡ deeds_in ms ++ deeds_in ns
  deeds_on [] ns = refl
  deeds_on (m ∷ ms) ns = ap (λ (l : List (Deed A)). m.deed ∷ l) (deeds_on ms ns)

  on : {s s' s'' : Node A} {ms ns : List (Moment A)} {gs hs : List (Gossip A)} {ds es : List (Deed A)} → Tells s ms s' gs ds → Tells s' ns s'' hs es → Tells s (ms ++ ns) s'' (gs ++ hs) (ds ++ es)
  on {s} {s'} {s''} {ms} {ns} p q =
      record {
        leads = leads-on s s' s'' ms ns p.leads q.leads;
        says = said-on ms ns ∙ (λ i. p.says i ++ q.says i);
        asks = deeds_on ms ns ∙ (λ i. p.asks i ++ q.asks i);
      }

  none_said : (s : Node A) → Tells s [] s [] []
  none_said s = record { leads = refl; says = refl; asks = refl }

  silently : (d : Deed A) (s s' : Node A) → Tells s (silent d s s') s' [] (d ∷ [])
  silently d s s' = record { leads = (refl, refl); says = refl; asks = refl }

  as_said : {s s' : Node A} {ms : List (Moment A)} {gs hs : List (Gossip A)} {ds : List (Deed A)} → gs ≡ hs → Tells s ms s' gs ds → Tells s ms s' hs ds
  as_said e p = record { leads = p.leads; says = p.says ∙ e; asks = p.asks }

  as_asked : {s s' : Node A} {ms : List (Moment A)} {gs : List (Gossip A)} {ds es : List (Deed A)} → ds ≡ es → Tells s ms s' gs ds → Tells s ms s' gs es
  as_asked e p = record { leads = p.leads; says = p.says; asks = p.asks ∙ e }

  -- what a rule gave
  abbrev TellsOut : Node A → List (Moment A) → List (Deed A) → Answer (Out A) → Type 0
  TellsOut s ms ds x = After (λ o. Tells s ms o.node o.said ds) x

  one : (d : Deed A) (s : Node A) (x : Answer (Out A)) → TellsOut s (moment d s x) (d ∷ []) x
  one d s (refused r) = halts
  one d s (done o rest) = gives (record { leads = (refl, refl); says = append-nil o.said; asks = refl })

  more : (s : Node A) (ms : List (Moment A)) (ds es : List (Deed A)) (x : Answer (Out A)) (l : Node A → List ℕ → List (Moment A)) (k : Node A → List ℕ → Answer (Out A)) → TellsOut s ms ds x
      → ((s' : Node A) (rest : List ℕ) → TellsOut s' (l s' rest) es (k s' rest)) → TellsOut s (ms ++ trace_then x l) (ds ++ es) (and_more x k)
  unfolding and_more
  more s ms ds es _ l k halts f = halts
  more s ms ds es _ l k (gives {b = o} {ds = rest} p) f = after_then (f o.node rest) (λ q rest₂ v. gives (on p v))

  -- what follows says nothing
  abbrev TellsEffect : Node A → List (Moment A) → List (Deed A) → Answer (Effect A) → Type 0
  TellsEffect s ms ds x = After (λ e. Tells s ms e.node e.events ds) x

  ends_with : (s : Node A) (ms : List (Moment A)) (ds es : List (Deed A)) (x : Answer (Out A)) (l : Node A → List ℕ → List (Moment A)) (f : Out A → Effect A) → TellsOut s ms ds x
      → ((o : Out A) (rest : List ℕ) → Tells o.node (l o.node rest) (f o).node [] es × ((f o).events ≡ o.said)) → TellsEffect s (ms ++ trace_then x l) (ds ++ es) (and_then x λ o rest. done (f o) rest)
  ends_with s ms ds es _ l f halts g = halts
  ends_with s ms ds es _ l f (gives {b = o} {ds = rest} p) g =
      let q = g o rest in
      gives (as_said (append-nil o.said ∙ sym q.1) (on p q.0))

module _ {A : Type 0} (address : Address A) where
  gossip-tells : (gs : List (Gossip A)) (s : Node A) (ds : List ℕ) → TellsOut s (trace_gossip address gs s ds) (records gs) (gossip address gs s ds)
  unfolding quiet
  gossip-tells [] s ds = gives (none_said s)
  gossip-tells (g ∷ gs) s ds =
      more s (moment (Told g.event) s (item address g.event s ds)) (Told g.event ∷ []) (records gs) (item address g.event s ds) (trace_gossip address gs) (gossip address gs)
      (one (Told g.event) s (item address g.event s ds)) (gossip-tells gs)

  -- a Ping: the records, the sender, and the choosing
  ping_tells : (from : A) (f : Out A → Effect A) (gs : List (Gossip A)) (s : Node A) (ds : List ℕ) → ((o : Out A) → ((f o).node ≡ (spread address o.node).node) × ((f o).events ≡ o.said))
      → TellsEffect s (trace_gossip address gs s ds ++ trace_then (gossip address gs s ds) (trace_admit address from)) (records gs ++ (Sender from ∷ Other ∷ []))
      (and_then (and_more (gossip address gs s ds) (admit address from)) λ o rest. done (f o) rest)
  unfolding and_more
  ping_tells from f gs s ds h = first (trace_gossip address gs s ds) (gossip address gs s ds) (gossip-tells gs s ds)
    where
      chosen : (o : Out A) → Tells o.node (trace_spread address o.node) (f o).node [] (Other ∷ [])
      chosen o = subst (λ (x : Node A). Tells o.node (trace_spread address o.node) x [] (Other ∷ [])) (sym (h o).0) (silently Other o.node (spread address o.node).node)

      second : (ms : List (Moment A)) (o : Out A) (x : Answer (Out A)) → Tells s ms o.node o.said (records gs) → TellsOut o.node (moment (Sender from) o.node x) (Sender from ∷ []) x
          → TellsEffect s (ms ++ (moment (Sender from) o.node x ++ trace_then x (λ s' rest. trace_spread address s'))) (records gs ++ (Sender from ∷ Other ∷ []))
          (and_then (and_then x λ p rest₂. done (record { node = p.node; said = o.said ++ p.said; collected = o.collected + p.collected }) rest₂) λ q rest. done (f q) rest)
      second ms o _ p halts = halts
      second ms o _ p (gives {b = q} {ds = rest} v) =
          let z : Out A = record { node = q.node; said = o.said ++ q.said; collected = o.collected + q.collected } in
          gives (as_said (ap (λ (l : List (Gossip A)). o.said ++ l) (append-nil q.said) ∙ sym (h z).1) (on p (on v (chosen z))))

      first : (ms : List (Moment A)) (x : Answer (Out A)) → TellsOut s ms (records gs) x
          → TellsEffect s (ms ++ trace_then x (trace_admit address from)) (records gs ++ (Sender from ∷ Other ∷ [])) (and_then (and_more x (admit address from)) λ o rest. done (f o) rest)
      first ms _ halts = halts
      first ms _ (gives {b = o} {ds = rest} p) = second ms o (admit address from o.node rest) p (one (Sender from) o.node (admit address from o.node rest))

  message-tells : (action : Action A) (gs : List (Gossip A)) (s : Node A) (ds : List ℕ) → TellsEffect s (trace_message address action gs s ds) (message_deeds action gs) (handle address action gs s ds)
  unfolding handle answer_to forwarded
  message-tells (Ping from by) gs s ds = ping_tells from _ gs s ds (λ o. (refl, refl))
  message-tells (PingReq from about) gs s ds =
      ends_with s (trace_gossip address gs s ds) (records gs) (Other ∷ []) (gossip address gs s ds) (λ s' rest. trace_spread address s') _ (gossip-tells gs s ds) (λ o rest. (silently Other o.node (spread address o.node).node, refl))
  message-tells (Ack from none) gs s ds =
      ends_with s (trace_gossip address gs s ds) (records gs) (Other ∷ []) (gossip address gs s ds) (λ s' rest. trace_ack address from none s') _ (gossip-tells gs s ds) (λ o rest. (silently Other o.node (acked address from o.node), refl))
  message-tells (Ack from (some to)) gs s ds =
      after_map (λ e p. as_asked (append-nil (records gs)) p)
      (ends_with s (trace_gossip address gs s ds) (records gs) [] (gossip address gs s ds) (λ s' rest. trace_ack address from (some to) s') (forwarded address from (some to) gs) (gossip-tells gs s ds) (λ o rest. (none_said o.node, refl)))

  -- the detector step
  step-tells : (s : Node A) (x : Answer (Stepped A)) → After (λ e. Tells s (stepped s x) e.effect.node e.effect.events (Other ∷ [])) x
  step-tells s (refused r) = halts
  step-tells s (done e rest) = gives (record { leads = (refl, refl); says = append-nil e.effect.events; asks = refl })

  -- whom the wait record names after a ping is the one that the Ping went to
  abbrev SentTo : Stepped A → Type 0
  SentTo e = (b : A) (n : ℕ) → e.wait.state ≡ WaitingForPingAck b n → targets e.effect.messages ≡ b ∷ []

  named : WaitState A → List A
  named SendingPing = []
  named (WaitingForPingAck a n) = a ∷ []
  named (SendingPingReq a n) = []
  named (WaitingForPingReqAck a n) = []
  named (Declaring a n) = []

  pinged-sent : (now : ℕ) (gs : List (Gossip A)) (s : Node A) (picks : List A) → SentTo (pinged address now gs s picks)
  unfolding pinged named
  pinged-sent now gs s [] b n e = ap named e
  pinged-sent now gs s (a ∷ picks) b n e = ap named e

  ping_sent : (now : ℕ) (s : Node A) (ds : List ℕ) → After SentTo (send_ping address now s ds)
  unfolding send_ping
  ping_sent now s ds = from (pick_from address.same address.blank s.own none 1 s.members ds)
    where
      from : (x : Answer (Picked A))
          → After SentTo (and_then x λ p rest. done (pinged address now (spread address s).gossip (with_members (spread address s).node p.members) p.picks) rest)
      from (refused r) = halts
      from (done p rest) = gives (pinged-sent now (spread address s).gossip (with_members (spread address s).node p.members) p.picks)

module _ {A : Type 0} (address : Address A) (lawful : Lawful address) (s : Node A) (w : Wait A) (g : Good address s) where
  -- the node that the rules run on: what is stored is loaded
  abbrev seen : Node A
  seen = loaded (stored address s)

  good : Good address seen
  good = rw (loaded-stored address lawful s g.whole) g

  -- a call that asks d tells its moments
  abbrev Passes : List (Moment A) → List (Deed A) → Outcome A → Type 0
  Passes ms d o = Tells seen ms (loaded o.node) o.events (asked_by address o.reply d)

  -- the node as it is stored is the node
  kept-as : {s' : Node A} {ms : List (Moment A)} {events : List (Gossip A)} {d : List (Deed A)} → Good address s' → Tells seen ms s' events d → Tells seen ms (loaded (stored address s')) events d
  kept-as {s'} {ms} {events} {d} k p = subst (λ (x : Node A). Tells seen ms x events d) (sym (loaded-stored address lawful s' k.whole)) p

  effect_passes : (ds : List ℕ) (ms idle : List (Moment A)) (d : List (Deed A)) {x : Answer (Effect A)} → After (λ e. Keeps address seen e.node × Tells seen ms e.node e.events d) x
      → Passes (moments_by address (kept address (stored address s) ds x).reply ms idle) d (kept address (stored address s) ds x)
  effect_passes ds ms idle d halts = none_said seen
  effect_passes ds ms idle d (gives {b = e} q) = kept-as q.0.good q.1

  message_passes : (at : Cause) (ds : List ℕ) (ms idle : List (Moment A)) (d : List (Deed A)) {x : Answer (Effect A)} → After (λ e. Keeps address seen e.node × Tells seen ms e.node e.events d) x
      → Passes (moments_by address (kept_message address (stored address s) at ds x).reply ms idle) d (kept_message address (stored address s) at ds x)
  message_passes at ds ms idle d halts = none_said seen
  message_passes at ds ms idle d (gives {b = e} {ds = rest} q) = effect_passes ds ms idle d (gives {b = e} {ds = rest} q)

  abbrev StepPasses : List (Moment A) → StepOutcome A → Type 0
  StepPasses ms o = Passes ms (Other ∷ []) o.outcome

  step_passes : (ds : List ℕ) (ms : List (Moment A)) {x : Answer (Stepped A)} → After (λ e. Keeps address seen e.effect.node × Tells seen ms e.effect.node e.effect.events (Other ∷ [])) x
      → StepPasses (moments_by address (step_of_kept address (stored address s) w ds x).outcome.reply ms []) (step_of_kept address (stored address s) w ds x)
  step_passes ds ms halts = none_said seen
  step_passes ds ms (gives {b = e} q) = kept-as q.0.good q.1

  add_passes : (b : A) (n : ℕ) (ds : List ℕ) {x : Answer (Members A)} → After (λ m. Keeps address seen (with_members seen m)) x
      → let o = kept address (stored address s) ds (and_then x λ m rest. done (record { node = with_members seen m; messages = []; events = []; collected = 0 }) rest) in
      Passes (moments_by address o.reply (moment (Added b n) seen (and_then x λ m rest. done (record { node = with_members seen m; said = []; collected = 0 }) rest)) (silent (Added b n) seen seen)) (Added b n ∷ []) o
  add_passes b n ds halts = none_said seen
  add_passes b n ds (gives {b = m} q) = kept-as q.good (silently (Added b n) seen (with_members seen m))

  end_passes : (v : Fate) (ms : List (Moment A)) (d : List (Deed A)) {x : Answer (Effect A)} → After (λ e. Keeps address seen e.node × Tells seen ms e.node e.events d) x
      → Passes (moments_by address (kept_end address (stored address s) v x).reply ms []) d (kept_end address (stored address s) v x)
  end_passes v ms d halts = none_said seen
  end_passes Leaves ms d (gives {b = e} q) = kept-as q.0.good q.1
  end_passes Stays ms d (gives {b = e} q) = kept-as q.0.good q.1
  end_passes Absent ms d (gives {b = e} q) = kept-as q.0.good q.1

  timer_passes : (o : Option ℕ) → ((i : ℕ) → o ≡ some i → i < length seen.timers)
      → Passes (moments_by address (ends_at address (stored address s) o).reply (ending_at address o seen) []) (timer_deeds address o seen) (ends_at address (stored address s) o)
  timer_passes none h = none_said seen
  timer_passes (some i) h =
      let t = get_or seen.timers i (no_timer address) in
      end_passes (fate_at address i seen) (trace_timer address i seen) (ended_deed address t ∷ [])
      (after_then
      (after_both (λ o x y. (x, y)) (end_keeps address lawful i seen [] good (h i refl)) (one (ended_deed address t) seen (end_at address i seen [])))
      (λ o rest q. gives q))

  abbrev here : World A
  here = record { node = stored address s; wait = w }

  -- the tie, of one call
  pub call-tells : (c : Call A)
      → Tells seen (moments address c here) (loaded (outcome address c here).outcome.node) (outcome address c here).outcome.events (deeds_of address c here)
  unfolding add_peer message detect end_timer loaded
  call-tells (Add b n ds) =
      first_cases (λ (o : Outcome A). Passes (moments_by address o.reply (trace_add address b n seen ds) (silent (Added b n) seen seen)) (Added b n ∷ []) o) (add_tests address (stored address s) b) (refuses (stored address s)) _
      (λ r. none_said seen)
      (λ p.
      (elim (lists address b seen) as (λ u. lists address b seen ≡ u → let o = or_already u (stored address s) (kept address (stored address s) ds (joins address b n seen ds)) in
      Passes (moments_by address o.reply (trace_add address b n seen ds) (silent (Added b n) seen seen)) (Added b n ∷ []) o) [
        | true ↦ λ e. silently (Added b n) seen seen
        | false ↦ λ e. add_passes b n ds (add-keeps address lawful b n seen ds good (not-false (address.valid b) p.1.0) e)
      ]) refl)
  call-tells (Receive action gs ds lent) =
      first_cases (λ (o : Outcome A). Passes (moments_by address o.reply (trace_message address action gs seen ds) []) (message_deeds action gs) o) (message_tests address (stored address s) action gs lent) (refuses (stored address s)) _
      (λ r. none_said seen)
      (λ p.
      let v = and_split (valid_action address action) (every (valid_gossip address) gs) (not-false _ p.1.1.1.0) in
      message_passes _ ds (trace_message address action gs seen ds) [] (message_deeds action gs)
      (after_both (λ e x y. (x, y)) (handle-keeps address lawful action gs seen ds good v.0 v.1) (message-tells address action gs seen ds)))
  call-tells (Step now ds lent) =
      first_cases (λ (o : StepOutcome A). StepPasses (moments_by address o.outcome.reply (trace_step address w.state now seen ds) []) o) (step_tests address (stored address s) w lent) (λ r. record { outcome = refuses (stored address s) r; wait = w }) _
      (λ r. none_said seen)
      (λ p.
      elim (due (stored address s).settings w now) as (λ u. let o = when_due u (stored address s) w (step_of_kept address (stored address s) w ds (D.step address w.state now seen ds)) in
      StepPasses (moments_by address o.outcome.reply (trace_step address w.state now seen ds) []) o) [
        | true ↦ step_passes ds (trace_step address w.state now seen ds)
            (after_both (λ e x y. (x, y)) (step_keeps address lawful w.state now seen ds good (not-false (valid_state address w.state) p.1.1.0)) (step-tells address seen (D.step address w.state now seen ds)))
        | false ↦ none_said seen
      ])
  call-tells (Lends wait) = none_said seen
  call-tells (Timer now lent) =
      let over = first_over address seen.settings.suspect_timeout now seen.timers in
      first_cases (λ (o : Outcome A). Passes (moments_by address o.reply (ending_at address over seen) []) (timer_deeds address over seen) o) (timer_tests address (stored address s) lent) (refuses (stored address s)) _
      (λ r. none_said seen)
      (λ p. timer_passes over (first_over_in address lawful seen.settings.suspect_timeout now seen.timers))

  -- a wait record that still sends a ping waits for no Ack
  still : {B : Type 0} {b : A} {n : ℕ} {st : WaitState A} → st ≡ SendingPing → st ≡ WaitingForPingAck b n → B
  still p q = let z : ◌≡◌ {A = ℕ} 0 1 = cc in absurd (omega arith)

  step-goes : (ds : List ℕ) (x : Answer (Stepped A)) → After (SentTo address) x → w.state ≡ SendingPing → (b : A) (n : ℕ)
      → (step_of_kept address (stored address s) w ds x).wait.state ≡ WaitingForPingAck b n → targets (step_of_kept address (stored address s) w ds x).outcome.messages ≡ b ∷ []
  step-goes ds _ halts p b n e = still p e
  step-goes ds _ (gives f) p b n e = f b n e

  -- the tie of a ping to its message
  pub ping_goes : (c : Call A) → PingGoes address c here
  unfolding detect loaded
  ping_goes c now ds lent b n q p =
      subst (λ (x : Call A). (outcome address x here).wait.state ≡ WaitingForPingAck b n → targets (outcome address x here).outcome.messages ≡ b ∷ []) (sym q)
      (first_cases (λ (o : StepOutcome A). o.wait.state ≡ WaitingForPingAck b n → targets o.outcome.messages ≡ b ∷ []) (step_tests address (stored address s) w lent) (λ r. record { outcome = refuses (stored address s) r; wait = w }) _
      (λ r e. still p e)
      (λ _.
      elim (due (stored address s).settings w now) as (λ u. let o = when_due u (stored address s) w (step_of_kept address (stored address s) w ds (D.step address w.state now seen ds)) in o.wait.state ≡ WaitingForPingAck b n → targets o.outcome.messages ≡ b ∷ []) [
        | true ↦ step-goes ds (D.step address w.state now seen ds) (rw p (ping_sent address now seen ds)) p b n
        | false ↦ λ e. still p e
      ]))
