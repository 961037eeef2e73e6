-- How a call moves the wait record: by the detector's states, one at a time, each step when it is due; and which timer it starts.
-- Assumes nothing.
use Rattle.std.specs.Prelude.{◌≡◌, Bool, length}
use Rattle.std.proofs.Math.Path.{refl, ap, sym}
use Rattle.std.proofs.Common.{◌∙◌, subst, arith, length-append, leb-true}
use Rattle.std.proofs.Math.Bool.{true, false}
use mathlib.Core.List.{List, [], ◌∷◌, ◌++◌}
use Rattle.std.proofs.Math.Option.{none, some}
use Prim.Native.Nat.{ℕ, ◌+◌, ◌-◌, ◌%◌, min}
use Rattle.std.proofs.Math.Nat.{zero-add}
use Rattle.model.specs.Bounds.{ticks}
use Rattle.model.specs.declared.State.TheVariants as state
use Rattle.model.specs.Answers.{Answer}
use Rattle.model.specs.Words.{Address, Lawful, is_alive, Suspected, Gossip, Message, Ping, PingReq, Wait, WaitState, SendingPing, WaitingForPingAck, SendingPingReq, WaitingForPingReqAck, Declaring}
use Rattle.model.specs.Members.{Members, held, listed, merged, update}
use Rattle.model.specs.Node.{Node, Out, loaded, with_members, pushed, emit, lists, numbered, state_of, change, spread}
use Rattle.model.specs.Detector.{Stepped, is_over, wait_of, enters, due, pinged, send_ping, waited, heard, ask_each, suspect, asked, pick_group, send_ping_req, declare, step}
use Rattle.model.specs.Calls.{StepOutcome, refuses, when_due, step_of_kept, step_tests, detect}
use Rattle.model.specs.Rows.{pick}
use Rattle.laws.specs.After.{After, halts, gives, after_map, after-when, after_then, after_both}
use Rattle.laws_list.specs.Whole.{Whole, update-whole}
use Rattle.laws_pick.specs.Picks.{pick_ends, after_drawn}
use Rattle.laws_list.specs.Held.{has-put}
use Rattle.history.specs.Histories.{World, Call, Add, Receive, Step, Timer, Lends, outcome}
use Rattle.history.proofs.Rules.{never}
use Rattle.history.proofs.Worlds.{first_cases}
use Rattle.cabinet.specs.Each.{Each, nil, cons}
use Rattle.cabinet.proofs.Each.{each_map, each_append, each-one}
use Rattle.cabinet.specs.Cabinets.{GoneBy, wait_in, StepAt, Silent, Peer, Request, asks_many}
use Rattle.cabinet.proofs.Rules.{any}
use Rattle.cabinet.proofs.Picking.{pick-listed}
use Rattle.cabinet.specs.Waiting.{Next, stays, rests, pings, unheard, asks, still}

-- a wait that is over by the rules is over in numbers
pub gone-by : (wait now since : ℕ) → is_over wait now since ≡ true → GoneBy wait since now
unfolding is_over
gone-by wait now since e = leb-true wait ((now + ticks - since) % ticks) e

-- a step that was due, by the state that it found
pub due-at : {A : Type 0} (w : World A) (now : ℕ) (st : WaitState A) → w.wait.state ≡ st → due w.node.settings w.wait now ≡ true
    → GoneBy (wait_in w.node.settings st) w.wait.since now
unfolding due
due-at {A} w now st e d = by st (subst (λ (x : WaitState A). is_over (wait_of w.node.settings x) now w.wait.since ≡ true) e d)
  where
    by : (x : WaitState A) → is_over (wait_of w.node.settings x) now w.wait.since ≡ true → GoneBy (wait_in w.node.settings x) w.wait.since now
    by SendingPing q = gone-by _ _ _ q
    by (WaitingForPingAck a n) q = gone-by _ _ _ q
    by (SendingPingReq a n) q = gone-by _ _ _ q
    by (WaitingForPingReqAck a n) q = gone-by _ _ _ q
    by (Declaring a n) q = gone-by _ _ _ q

module _ {A : Type 0} (address : Address A) (lawful : Lawful address) where
  -- by the state, what a step did
  data Moved (s : Node A) (now : ℕ) : WaitState A → Stepped A → Type 0 where
    m_rests : {st : WaitState A} {e : Stepped A} → e.wait.state ≡ SendingPing → Moved s now st e
    m_pings : {e : Stepped A} (x : A) (n : ℕ) (gs : List (Gossip A)) → e.wait ≡ enters (WaitingForPingAck x n) now → Peer address x s → numbered address x s ≡ n
        → e.effect.messages ≡ record { target = x; action = Ping s.own none; gossip = gs } ∷ [] → Moved s now SendingPing e
    m_unheard : {x : A} {n : ℕ} {e : Stepped A} → e.wait ≡ enters (SendingPingReq x n) now → Silent address x s → Moved s now (WaitingForPingAck x n) e
    m_asks : {x : A} {n : ℕ} {e : Stepped A} → e.wait ≡ enters (WaitingForPingReqAck x n) now → e.effect.events ≡ record { event = Suspected s.own x n } ∷ []
        → Each (Request address x s) e.effect.messages → length e.effect.messages ≡ asks_many address s → Moved s now (SendingPingReq x n) e
    m_still : {x : A} {n : ℕ} {e : Stepped A} → e.wait ≡ enters (Declaring x n) now → Silent address x s → Moved s now (WaitingForPingReqAck x n) e

  pinged-moves : (now : ℕ) (gs : List (Gossip A)) (s s' : Node A) (picks : List A) → s'.own ≡ s.own → s'.members.table ≡ s.members.table → Each (λ x. Peer address x s) picks
      → Moved s now SendingPing (pinged address now gs s' picks)
  unfolding pinged
  pinged-moves now gs s s' _ p q nil = m_rests refl
  pinged-moves now gs s s' _ p q (cons {x = a} l ls) =
      m_pings a (numbered address a s') gs refl l (ap (held address.same a) (sym q)) (ap (λ (o : A). record { target = a; action = Ping o none; gossip = gs } ∷ []) p)

  -- "Alive or absent gives SendingPing"
  silent_if : (x : A) (s : Node A) → heard address x s ≡ false → Silent address x s
  unfolding heard
  silent_if x s = by (lists address x s) refl
    where
      by : (u : Bool) → lists address x s ≡ u → pick u (is_alive (state_of address x s)) true ≡ false → Silent address x s
      by true e q = record { listed = e; state = q }
      by false e q = never (sym q)

  waited-moves : (a : A) (st next : WaitState A) (now : ℕ) (s : Node A) (ds : List ℕ) → ((e : Stepped A) → e.wait ≡ enters next now → Silent address a s → Moved s now st e)
      → After (Moved s now st) (waited address a next now s ds)
  unfolding waited
  waited-moves a st next now s ds f = gives (by (heard address a s) refl)
    where
      by : (u : Bool) → heard address a s ≡ u → Moved s now st (record { effect = record { node = s; messages = []; events = []; collected = 0 }; wait = enters (pick u SendingPing next) now })
      by true e = m_rests refl
      by false e = f _ refl (silent_if a s e)

  each-asks : (s₀ : Node A) (a : A) (picks : List A) (s : Node A) (sent : List (Message A)) → s.own ≡ s₀.own → Each (λ b. Peer address b s₀ × (address.same a b ≡ false)) picks
      → Each (Request address a s₀) sent → Each (Request address a s₀) (ask_each address a picks s sent).messages
  unfolding spread
  each-asks s₀ a _ s sent q nil ms = ms
  each-asks s₀ a _ s sent q (cons {x = b} {l = picks} p ps) ms =
      each-asks s₀ a picks (spread address s).node _ q ps (each_append ms (each-one (record { action = ap (λ (o : A). PingReq o a) q; to = p.0; apart = p.1 })))

  each-count : (a : A) (picks : List A) (s : Node A) (sent : List (Message A)) → length (ask_each address a picks s sent).messages ≡ length sent + length picks
  each-count a [] s sent = omega arith
  each-count a (b ∷ picks) s sent = omega (arith, each-count a picks (spread address s).node (sent ++ (record { target = b; action = PingReq s.own a; gossip = (spread address s).gossip } ∷ [])), length-append sent (record { target = b; action = PingReq s.own a; gossip = (spread address s).gossip } ∷ []))

  -- what the suspicion leaves: the own address, its report, and who is listed
  record Suspects (a : A) (n : ℕ) (s : Node A) (o : Out A) : Type 0 where
    own : o.node.own ≡ s.own
    settings : o.node.settings ≡ s.settings
    said : o.said ≡ record { event = Suspected s.own a n } ∷ []
    members : o.node.members ≡ update address.same (record { addr = a; state = state.Suspected; number = n }) s.members

  suspect-says : (a : A) (n : ℕ) (s : Node A) (ds : List ℕ) → After (Suspects a n s) (suspect address a n s ds)
  unfolding suspect emit change
  suspect-says a n s ds = after_then (any (pushed address _ _ _ _ ds)) (λ d rest _. gives (record { own = refl; settings = refl; said = refl; members = refl }))

  -- whom the group's pick gives
  not_passed : (own a b : A) (u : Bool) → address.same own b ≡ u → pick u true (address.same a b) ≡ false → (address.same own b ≡ false) × (address.same a b ≡ false)
  not_passed own a b true e q = never (sym q)
  not_passed own a b false e q = (e, q)

  group_asks : (a : A) (n : ℕ) (s : Node A) (o : Out A) (ds : List ℕ) → Whole address.same s.members → Suspects a n s o
      → After (λ p. Each (λ b. Peer address b s × (address.same a b ≡ false)) p.picks) (pick_group address a o.node ds)
  unfolding pick_group update
  group_asks a n s o ds w v =
      let m = update address.same (record { addr = a; state = state.Suspected; number = n }) s.members in
      let whole : Whole address.same o.node.members = rw v.members (update-whole address.same lawful.test (record { addr = a; state = state.Suspected; number = n }) s.members w) in
      after_map
      (λ p q. each_map
      (λ b g.
      let r = not_passed o.node.own a b (address.same o.node.own b) refl g.1 in (
        record {
          listed =
              sym (ap (λ (x : Members A). listed address.same b x.table) v.members ∙ has-put address.same lawful.test b (merged address.same (record { addr = a; state = state.Suspected; number = n }) s.members.table) s.members.table)
              ∙ g.0;
          other = ap (λ (x : A). address.same x b) (sym v.own) ∙ r.0;
        },
        r.1,
      ))
      q.1)
      (pick-listed address.same lawful.test address.blank o.node.own (some a) o.node.settings.ping_req_group_size o.node.members ds whole)

  -- and how many: as many as are wanted, of those that are listed but for two
  group_many : (a : A) (n : ℕ) (s : Node A) (o : Out A) (ds : List ℕ) → Whole address.same s.members → Suspects a n s o
      → After (λ p. length p.picks ≡ asks_many address s) (pick_group address a o.node ds)
  unfolding pick_group update
  group_many a n s o ds w v =
      let whole : Whole address.same o.node.members = rw v.members (update-whole address.same lawful.test (record { addr = a; state = state.Suspected; number = n }) s.members w) in
      after_map
      (λ p c. c.many ∙ zero-add _ ∙ (λ i. min (v.settings i).ping_req_group_size (length (v.members i).order - 2)) ∙ ap (λ (k : ℕ). min s.settings.ping_req_group_size (k - 2)) w.long)
      (after_drawn (pick_ends address.same address.blank o.node.own (some a) o.node.settings.ping_req_group_size o.node.members ds whole))

  step-moves : (st : WaitState A) (now : ℕ) (s : Node A) (ds : List ℕ) → Whole address.same s.members → After (Moved s now st) (step address st now s ds)
  unfolding send_ping send_ping_req asked declare spread
  step-moves SendingPing now s ds w =
      after_then (pick-listed address.same lawful.test address.blank s.own none 1 s.members ds w)
      (λ p rest q. gives (pinged-moves now (spread address s).gossip s (with_members (spread address s).node p.members) p.picks refl q.0 (each_map (λ x g. record { listed = g.0; other = g.1 }) q.1)))
  step-moves (WaitingForPingAck a n) now s ds w = waited-moves a _ _ now s ds (λ e q u. m_unheard q u)
  step-moves (SendingPingReq a n) now s ds w =
      after_then (suspect-says a n s ds)
      (λ o rest v. after_then {P = λ p. Each (λ b. Peer address b s × (address.same a b ≡ false)) p.picks × (length p.picks ≡ asks_many address s)} (after_both (λ p x y. (x, y)) (group_asks a n s o rest w v) (group_many a n s o rest w v))
      (λ p rest₂ q. gives (m_asks refl v.said (each-asks s a p.picks (with_members o.node p.members) [] v.own q.0 nil) (each-count a p.picks (with_members o.node p.members) [] ∙ zero-add _ ∙ q.1))))
  step-moves (WaitingForPingReqAck a n) now s ds w = waited-moves a _ _ now s ds (λ e q u. m_still q u)
  step-moves (Declaring a n) now s ds w = after-when (λ _. halts) (λ _. gives (m_rests refl))

  module _ (w : World A) (now : ℕ) (c : Call A) (is : StepAt now c) where
    moved-next : (st : WaitState A) (o : StepOutcome A) (e : Stepped A) → w.wait.state ≡ st → due w.node.settings w.wait now ≡ true → o.wait ≡ e.wait
        → o.outcome.messages ≡ e.effect.messages → o.outcome.events ≡ e.effect.events → Moved (loaded w.node) now st e → Next address c w o
    moved-next st o e q d v ms es (m_rests r) = rests (ap (λ (x : Wait A). x.state) v ∙ r)
    moved-next _ o e q d v ms es (m_pings x n gs r l k g) = pings x n now gs (record { call = is; found = q; due = due-at w now _ q d; left = v ∙ r }) l k (ms ∙ g)
    moved-next _ o e q d v ms es (m_unheard {x} {n} r u) = unheard x n now (record { call = is; found = q; due = due-at w now _ q d; left = v ∙ r }) u
    moved-next _ o e q d v ms es (m_asks {x} {n} r k f c) =
        asks x n now (record { call = is; found = q; due = due-at w now _ q d; left = v ∙ r }) (es ∙ k) (subst (Each (Request address x (loaded w.node))) (sym ms) f) (ap length ms ∙ c)
    moved-next _ o e q d v ms es (m_still {x} {n} r u) = still x n now (record { call = is; found = q; due = due-at w now _ q d; left = v ∙ r }) u

    kept_next : (ds : List ℕ) {x : Answer (Stepped A)} → due w.node.settings w.wait now ≡ true → After (Moved (loaded w.node) now w.wait.state) x
        → Next address c w (step_of_kept address w.node w.wait ds x)
    kept_next ds d halts = stays refl
    kept_next ds d (gives {b = e} m) = moved-next w.wait.state _ e refl d refl refl refl m

  pub call_next : (c : Call A) (w : World A) → Whole address.same (loaded w.node).members → (fresh : (wait : Wait A) → c ≡ Lends wait → wait.state ≡ SendingPing) → Next address c w (outcome address c w)
  unfolding detect
  call_next (Add a n ds) w k fresh = stays refl
  call_next (Receive action gs ds lent) w k fresh = stays refl
  call_next (Step tick ds lent) w k fresh =
      first_cases (Next address (Step tick ds lent) w) (step_tests address w.node w.wait lent) (λ r. record { outcome = refuses w.node r; wait = w.wait }) _
      (λ r. stays refl)
      (λ _.
      (elim (due w.node.settings w.wait tick) as (λ u. due w.node.settings w.wait tick ≡ u
      → Next address (Step tick ds lent) w (when_due u w.node w.wait (step_of_kept address w.node w.wait ds (step address w.wait.state tick (loaded w.node) ds)))) [
        | true ↦ λ d. kept_next w tick (Step tick ds lent) refl ds d (step-moves w.wait.state tick (loaded w.node) ds k)
        | false ↦ λ d. stays refl
      ]) refl)
  call_next (Timer tick lent) w k fresh = stays refl
  call_next (Lends wait) w k fresh = rests (fresh wait refl)
