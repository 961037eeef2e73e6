-- What stands in every honest history: each record on the topic that a controller holds, or that is on its way, has its cause; each timer that was started was declared; and
-- each wait record came by the detector's states, in one round.
-- Assumes nothing.
use Rattle.std.specs.Prelude.{◌≡◌, refl, Bool, true, false, List, [], ◌∷◌, ◌++◌, ◌⊎◌, ℕ, zero, suc, ◌≤◌, ◌<◌, eqb, length}
use Rattle.std.proofs.Math.Path.{ap, subst}
use Rattle.std.proofs.Common.{sym, ◌∙◌, inl, inr, arith, eqb-true, eq-eqb}
use Rattle.std.proofs.Math.Option.{none}
use Rattle.model.specs.Bounds.{Room}
use Rattle.model.specs.Rows.{pick, remove_at}
use Rattle.model.specs.Words.{Address, Lawful, Event, Suspected, Deceased, Gossip, Message, Timer as Running, Wait, WaitState, SendingPing, WaitingForPingAck, SendingPingReq, WaitingForPingReqAck, Declaring}
use Rattle.model.specs.Node.{Node, Stored, loaded, stored, fresh}
use Rattle.model.specs.Detector.{enters}
use Rattle.model.specs.Calls.{end_timer}
use Rattle.laws_list.specs.Whole.{Whole}
use Rattle.history.specs.Beginnings.{Beginning, Creation, Restart, first_node}
use Rattle.history.specs.Histories.{World, Call, Add, Receive, Step, Timer, Lends, outcome, world_of}
use Rattle.history.specs.Tells.{At}
use Rattle.history.proofs.Worlds.{first_is}
use Rattle.cabinet.specs.Each.{Each, nil}
use Rattle.cabinet.proofs.Each.{each_map, each_at, each_append}
use Rattle.cabinet.specs.Cabinets.{Topic, deaths, suspicions, Turn, this, earlier, About, Names, InGossip, InMessages, Brings, Fresh, Request, asks_many, worlds, nodes, Honest, last, since, freed_by, frees as freeing, Runs, starts as starting, waits, passes, nears, Steps, Asking, Removal, AskedFor, Caused}
use Rattle.cabinet.specs.Cabinets as cabinets
use Rattle.cabinet.specs.Rules.{Holds}
use Rattle.cabinet.proofs.Rules.{about-map}
use Rattle.cabinet.specs.Calls.{Tells, Gives, AsksHave, EndsHave, OwnHave}
use Rattle.cabinet.proofs.Calls.{call_gives}
use Rattle.cabinet.specs.Waiting.{Went, Next, stays, rests, pings, unheard, asks, still}
use Rattle.cabinet.proofs.Waiting.{gone-by, call_next}
use Rattle.cabinet.specs.Rows.{Row, same, starts, frees}
use Rattle.cabinet.proofs.Rows.{call-row}
use Rattle.cabinet.proofs.Ending.{timer_ended}
use Rattle.cabinet.specs.Alone.{whole}
use Rattle.cabinet.proofs.Alone.{each-alone}
use Rattle.cabinet.specs.Standing.{Came, Declared, Watched, w, All, Standing}

-- a place of a row that one was put behind, and of one that a place of was freed
at_last : {B : Type 0} (l : List B) (x : B) (i : ℕ) (y : B) → At (l ++ (x ∷ [])) i y → At l i y ⊎ ((i ≡ length l) × (x ≡ y))
at_last [] x zero y e = inr (refl, e)
at_last [] x (suc i) y e = absurd e
at_last (z ∷ l) x zero y e = inl e
at_last (z ∷ l) x (suc i) y e = by (at_last l x i y e)
  where
    by : At l i y ⊎ ((i ≡ length l) × (x ≡ y)) → At l i y ⊎ ((suc i ≡ suc (length l)) × (x ≡ y))
    by (inl p) = inl p
    by (inr (p, q)) = inr (ap suc p, q)

at-freed : {B : Type 0} (l : List B) (k i : ℕ) (y : B) → At (remove_at l k) i y → ((i < k) × At l i y) ⊎ ((k ≤ i) × At l (suc i) y)
at-freed [] k i y e = absurd e
at-freed (z ∷ l) zero i y e = inr (omega arith, e)
at-freed (z ∷ l) (suc k) zero y e = inl (omega arith, e)
at-freed (z ∷ l) (suc k) (suc i) y e = by (at-freed l k i y e)
  where
    by : ((i < k) × At l i y) ⊎ ((k ≤ i) × At l (suc i) y) → ((suc i < suc k) × At l i y) ⊎ ((suc k ≤ suc i) × At l (suc i) y)
    by (inl (p, q)) = inl (omega arith, q)
    by (inr (p, q)) = inr (omega arith, q)

-- the states apart
tag : {A : Type 0} → WaitState A → ℕ
tag SendingPing = 0
tag (WaitingForPingAck a n) = 1
tag (SendingPingReq a n) = 2
tag (WaitingForPingReqAck a n) = 3
tag (Declaring a n) = 4

same_asked : {A : Type 0} {x y : A} {n m : ℕ} → SendingPingReq x n ≡ SendingPingReq y m → (x ≡ y) × (n ≡ m)
same_asked e = (cc, cc)

module _ {A : Type 0} where
  -- a record that was said: what is known of it
  named : (P : A → ℕ → Type 0) (k : Topic) (x : A) (n : ℕ) (e : Event A) → Names k x n e → About k P e → P x n
  named P deaths x n e (f, q) p = subst (About deaths P) q p
  named P suspicions x n e (f, q) p = subst (About suspicions P) q p

  pub gossip-map : {P Q : A → ℕ → Type 0} (k : Topic) {gs : List (Gossip A)} → ((x : A) (n : ℕ) → P x n → Q x n) → InGossip k P gs → InGossip k Q gs
  gossip-map k f ps = each_map (λ g p. about-map k f g.event p) ps

  pub messages_map : {P Q : A → ℕ → Type 0} (k : Topic) {ms : List (Message A)} → ((x : A) (n : ℕ) → P x n → Q x n) → InMessages k P ms → InMessages k Q ms
  messages_map k f ps = each_map (λ m p. gossip-map k f p) ps

  pub holds-map : (address : Address A) {P Q : A → ℕ → Type 0} (k : Topic) (s : Node A) → ((x : A) (n : ℕ) → P x n → Q x n) → Holds address k P s → Holds address k Q s
  holds-map address k s f h =
      record { alive = each_map (λ e p. about-map k f e.gossip.event p) h.alive; deceased = each_map (λ e p. about-map k f e.gossip.event p) h.deceased }

  -- what a message call brings was sent, so what is known of all that was sent is known of it
  pub brought : (k : Topic) (P : A → ℕ → Type 0) (c : Call A) (ms : List (Message A)) → Brings k c ms → InMessages k P ms → Tells k P c
  brought k P (Add a n ds) ms b p = tt
  brought k P (Receive action gs ds lent) ms b p = gossip-map k (λ x n q. each_at (λ m pm c. each_at (λ g pg e. named P k x n g.event e pg) pm c) p q) b
  brought k P (Step tick ds lent) ms b p = tt
  brought k P (Timer tick lent) ms b p = tt
  brought k P (Lends wait) ms b p = tt

  tells-map : {P Q : A → ℕ → Type 0} (k : Topic) (c : Call A) → ((x : A) (n : ℕ) → P x n → Q x n) → Tells k P c → Tells k Q c
  tells-map k (Add a n ds) f p = tt
  tells-map k (Receive action gs ds lent) f p = gossip-map k f p
  tells-map k (Step tick ds lent) f p = tt
  tells-map k (Timer tick lent) f p = tt
  tells-map k (Lends wait) f p = tt

module _ {A : Type 0} (address : Address A) (lawful : Lawful address) (begins : ℕ → World A) (begun : (j : ℕ) → Fresh address (begins j)) (k : Topic) where
  came_since : (j : ℕ) (t : Turn A) (h : List (Turn A)) (st : WaitState A) (entered : ℕ) → (worlds address begins (t ∷ h) j).wait ≡ (worlds address begins h j).wait → (Came address lawful begins begun k) j h st entered
      → (Came address lawful begins begun k) j (t ∷ h) st entered
  came_since j t h SendingPing entered e c = tt
  came_since j t h (WaitingForPingAck x n) entered e c = since e c
  came_since j t h (SendingPingReq x n) entered e c = since e c
  came_since j t h (WaitingForPingReqAck x n) entered e c = since e c
  came_since j t h (Declaring x n) entered e c = since e c

  caused_before : (l : Topic) (t : Turn A) (h : List (Turn A)) (x : A) (n : ℕ) → Caused address begins l h x n → Caused address begins l (t ∷ h) x n
  caused_before deaths t h x n c = earlier c
  caused_before suspicions t h x n c = earlier c

  -- the controller that makes a turn
  module _ (j : ℕ) (h : List (Turn A)) (seen : (Watched address lawful begins begun k) h j (worlds address begins h j)) where
    abbrev turn : Call A → Turn A
    turn c = record { who = j; call = c }

    pub whole_now : Whole address.same (loaded (w address lawful begins begun k j h seen).node).members
    whole_now = whole address lawful (each-alone address lawful begins begun h j)

    here_now : (c : Call A) → worlds address begins (turn c ∷ h) j ≡ world_of address (outcome address c (w address lawful begins begun k j h seen))
    here_now c = ap (λ (u : Bool). pick u (world_of address (outcome address c (w address lawful begins begun k j h seen))) (w address lawful begins begun k j h seen)) (eq-eqb j j refl)

    steps : (c : Call A) {from to : WaitState A} {now : ℕ} → Went address c (w address lawful begins begun k j h seen) (outcome address c (w address lawful begins begun k j h seen)) from to now → Steps address begins j from (w address lawful begins begun k j h seen).wait.since to now (turn c) h
    steps c v =
        record {
          who = refl;
          call = v.call;
          found = ap (λ (st : WaitState A). enters st (w address lawful begins begun k j h seen).wait.since) v.found;
          due = v.due;
          left = ap (λ (x : World A). x.wait) (here_now c) ∙ v.left;
        }

    came_at : {st : WaitState A} → (w address lawful begins begun k j h seen).wait.state ≡ st → (Came address lawful begins begun k) j h st (w address lawful begins begun k j h seen).wait.since
    came_at e = subst (λ (x : WaitState A). (Came address lawful begins begun k) j h x (w address lawful begins begun k j h seen).wait.since) e seen.wait

    asking : (c : Call A) (x : A) (n now : ℕ) (v : Went address c (w address lawful begins begun k j h seen) (outcome address c (w address lawful begins begun k j h seen)) (SendingPingReq x n) (WaitingForPingReqAck x n) now)
        → (outcome address c (w address lawful begins begun k j h seen)).outcome.events ≡ record { event = Suspected (loaded (w address lawful begins begun k j h seen).node).own x n } ∷ []
        → Each (Request address x (loaded (w address lawful begins begun k j h seen).node)) (outcome address c (w address lawful begins begun k j h seen)).outcome.messages → length (outcome address c (w address lawful begins begun k j h seen)).outcome.messages ≡ asks_many address (loaded (w address lawful begins begun k j h seen).node) → Asking address begins j x n now (turn c) h
    asking c x n now v e ms many = record { entered = (w address lawful begins begun k j h seen).wait.since; step = steps c v; event = e; messages = ms; many = many; unheard = came_at v.found }

    -- the wait record came on
    came_on : (c : Call A) → Next address c (w address lawful begins begun k j h seen) (outcome address c (w address lawful begins begun k j h seen)) → (Came address lawful begins begun k) j (turn c ∷ h) (outcome address c (w address lawful begins begun k j h seen)).wait.state (outcome address c (w address lawful begins begun k j h seen)).wait.since
    came_on c (stays e) =
        subst (λ (x : Wait A). (Came address lawful begins begun k) j (turn c ∷ h) x.state x.since) (sym e)
        (came_since j (turn c) h (w address lawful begins begun k j h seen).wait.state (w address lawful begins begun k j h seen).wait.since (ap (λ (x : World A). x.wait) (here_now c) ∙ e) seen.wait)
    came_on c (rests e) = subst (λ (st : WaitState A). (Came address lawful begins begun k) j (turn c ∷ h) st (outcome address c (w address lawful begins begun k j h seen)).wait.since) (sym e) tt
    came_on c (pings x n now gs v l m s) =
        subst (λ (x : Wait A). (Came address lawful begins begun k) j (turn c ∷ h) x.state x.since) (sym v.left)
        (last (record { entered = (w address lawful begins begun k j h seen).wait.since; step = steps c v; peer = l; number = m; gossip = gs; message = s }))
    came_on c (unheard x n now v s) =
        subst (λ (x : Wait A). (Came address lawful begins begun k) j (turn c ∷ h) x.state x.since) (sym v.left) (last (record { entered = (w address lawful begins begun k j h seen).wait.since; step = steps c v; silent = s; pinged = came_at v.found }))
    came_on c (asks x n now v e ms many) = subst (λ (x : Wait A). (Came address lawful begins begun k) j (turn c ∷ h) x.state x.since) (sym v.left) (last (asking c x n now v e ms many))
    came_on c (still x n now v s) =
        subst (λ (x : Wait A). (Came address lawful begins begun k) j (turn c ∷ h) x.state x.since) (sym v.left) (last (record { entered = (w address lawful begins begun k j h seen).wait.since; step = steps c v; silent = s; asked = came_at v.found }))

    -- a ping-request step's own suspicion
    asked_here : (c : Call A) (x : A) (n : ℕ) → (w address lawful begins begun k j h seen).wait.state ≡ SendingPingReq x n → (outcome address c (w address lawful begins begun k j h seen)).wait.state ≡ WaitingForPingReqAck x n → Next address c (w address lawful begins begun k j h seen) (outcome address c (w address lawful begins begun k j h seen))
        → AskedFor address begins (turn c ∷ h) x n
    unfolding tag
    asked_here c x n p q (stays e) = absurd (omega (arith, ap tag p, ap tag q, ap (λ (x : Wait A). tag x.state) e))
    asked_here c x n p q (rests e) = absurd (omega (arith, ap tag q, ap tag e))
    asked_here c x n p q (pings y m now gs v l k s) = absurd (omega (arith, ap tag p, ap tag v.found))
    asked_here c x n p q (unheard y m now v s) = absurd (omega (arith, ap tag p, ap tag v.found))
    asked_here c x n p q (asks y m now v e ms many) =
        let z = same_asked (sym v.found ∙ p) in
        subst (λ (x : A). AskedFor address begins (turn c ∷ h) x n) z.0 (subst (λ (n : ℕ). AskedFor address begins (turn c ∷ h) y n) z.1 (this (record { at = now; asking = asking c y m now v e ms many })))
    asked_here c x n p q (still y m now v s) = absurd (omega (arith, ap tag p, ap tag v.found))

    asks_have : (l : Topic) (c : Call A) (st : WaitState A) → (w address lawful begins begun k j h seen).wait.state ≡ st → Next address c (w address lawful begins begun k j h seen) (outcome address c (w address lawful begins begun k j h seen))
        → AsksHave address l (Caused address begins l (turn c ∷ h)) st (outcome address c (w address lawful begins begun k j h seen)).wait.state (loaded (w address lawful begins begun k j h seen).node).own
    asks_have l c SendingPing e v = tt
    asks_have l c (WaitingForPingAck a n) e v = tt
    asks_have deaths c (SendingPingReq a n) e v = λ q. tt
    asks_have suspicions c (SendingPingReq a n) e v = λ q. asked_here c a n e q v
    asks_have l c (WaitingForPingReqAck a n) e v = tt
    asks_have l c (Declaring a n) e v = tt

    -- an ended timer's own death
    pub removal : (tick : ℕ) (lent : Room) (x : A) (n : ℕ) → (end_timer address (w address lawful begins begun k j h seen).node tick lent).events ≡ record { event = Deceased (loaded (w address lawful begins begun k j h seen).node).own x n } ∷ []
        → Removal address begins x n (turn (Timer tick lent)) h
    removal tick lent x n e =
        let v = timer_ended address lawful (w address lawful begins begun k j h seen).node whole_now tick x n lent e in
        record {
          started = v.started;
          place = v.place;
          ends =
              record { now = tick; call = refl; first = v.first; timer = v.timer; over = gone-by _ _ _ v.over; silent = v.silent; number = v.number; gone = v.gone; event = e };
          declared = seen.timers v.place (record { addr = x; number = n; since = v.started }) v.timer;
        }

    ends_have : (l : Topic) (tick : ℕ) (lent : Room) → EndsHave address l (Caused address begins l (turn (Timer tick lent) ∷ h)) (loaded (w address lawful begins begun k j h seen).node).own (end_timer address (w address lawful begins begun k j h seen).node tick lent)
    ends_have deaths tick lent x n e = this (removal tick lent x n e)
    ends_have suspicions tick lent x n e = tt

    own_have : (c : Call A) → Next address c (w address lawful begins begun k j h seen) (outcome address c (w address lawful begins begun k j h seen)) → OwnHave address k (Caused address begins k (turn c ∷ h)) c (w address lawful begins begun k j h seen)
    own_have (Add a n ds) v = tt
    own_have (Receive action gs ds lent) v = tt
    own_have (Step tick ds lent) v = asks_have k (Step tick ds lent) (w address lawful begins begun k j h seen).wait.state refl v
    own_have (Timer tick lent) v = ends_have k tick lent
    own_have (Lends wait) v = tt

    module _ (c : Call A) (brings : Brings k c (cabinets.sent address begins h)) (told : Tells k (Caused address begins k h) c) where
      next_is : Next address c (w address lawful begins begun k j h seen) (outcome address c (w address lawful begins begun k j h seen))
      next_is = call_next address lawful c (w address lawful begins begun k j h seen) whole_now (λ wait e. subst (λ (d : Call A). Brings k d (cabinets.sent address begins h)) e brings)

      pub turn_gives : Gives address k (Caused address begins k (turn c ∷ h)) (outcome address c (w address lawful begins begun k j h seen)).outcome
      turn_gives =
          call_gives address k _ c (w address lawful begins begun k j h seen) (tells-map k c (caused_before k (turn c) h) told) (holds-map address k (loaded (w address lawful begins begun k j h seen).node) (caused_before k (turn c) h) seen.node) (own_have c next_is)

      -- the place that this turn frees, if any
      frees_now : freeing address begins j (turn c) h ≡ freed_by address c (w address lawful begins begun k j h seen)
      frees_now = ap (λ (u : Bool). pick u (freed_by address c (w address lawful begins begun k j h seen)) none) (eq-eqb j j refl)

      rows_on : Row address c (w address lawful begins begun k j h seen) (outcome address c (w address lawful begins begun k j h seen)) → (Declared address lawful begins begun k) j (turn c ∷ h) (loaded (outcome address c (w address lawful begins begun k j h seen)).outcome.node).timers
      rows_on (same f e) i t a = waits (frees_now ∙ f) (seen.timers i t (rw e at a))
      rows_on (starts new f v e) i t a = by (at_last (loaded (w address lawful begins begun k j h seen).node).timers new i t (rw e at a))
        where
          by : At (loaded (w address lawful begins begun k j h seen).node).timers i t ⊎ ((i ≡ length (loaded (w address lawful begins begun k j h seen).node).timers) × (new ≡ t)) → Runs address begins j t.addr t.number t.since i (turn c ∷ h)
          by (inl p) = waits (frees_now ∙ f) (seen.timers i t p)
          by (inr (p, q)) =
              let d : Runs address begins j new.addr new.number new.since (length (loaded (w address lawful begins begun k j h seen).node).timers) (turn c ∷ h) =
              starting
              (record {
                entered = (w address lawful begins begun k j h seen).wait.since;
                step = steps c v;
                timer = ap (λ (x : World A). (loaded x.node).timers) (here_now c) ∙ e;
                unheard = came_at v.found;
              }) in
              subst (λ (x : Running A). Runs address begins j x.addr x.number x.since i (turn c ∷ h)) q
              (subst (λ (m : ℕ). Runs address begins j new.addr new.number new.since m (turn c ∷ h)) (sym p) d)
      rows_on (frees k' f e) i t a = by (at-freed (loaded (w address lawful begins begun k j h seen).node).timers k' i t (rw e at a))
        where
          by : ((i < k') × At (loaded (w address lawful begins begun k j h seen).node).timers i t) ⊎ ((k' ≤ i) × At (loaded (w address lawful begins begun k j h seen).node).timers (suc i) t) → Runs address begins j t.addr t.number t.since i (turn c ∷ h)
          by (inl (p, q)) = passes k' (frees_now ∙ f) p (seen.timers i t q)
          by (inr (p, q)) = nears k' (frees_now ∙ f) p (seen.timers (suc i) t q)

      turned : (Watched address lawful begins begun k) (turn c ∷ h) j (world_of address (outcome address c (w address lawful begins begun k j h seen)))
      turned = record { node = turn_gives.node; wait = came_on c next_is; timers = rows_on (call-row address c (w address lawful begins begun k j h seen)) }

  -- the others
  watched_before : (t : Turn A) (h : List (Turn A)) (j : ℕ) → eqb t.who j ≡ false → (Watched address lawful begins begun k) h j (worlds address begins h j) → (Watched address lawful begins begun k) (t ∷ h) j (worlds address begins h j)
  watched_before t h j e v =
      record {
        node = holds-map address k (nodes address begins h j) (caused_before k t h) v.node;
        wait =
            came_since j t h (worlds address begins h j).wait.state (worlds address begins h j).wait.since
            (ap (λ (u : Bool). (pick u (world_of address (outcome address t.call (worlds address begins h j))) (worlds address begins h j)).wait) e) v.wait;
        timers = λ i x a. waits (ap (λ (u : Bool). pick u (freed_by address t.call (worlds address begins h j)) none) e) (v.timers i x a);
      }

  on : (t : Turn A) (h : List (Turn A)) → Brings k t.call (cabinets.sent address begins h) → Tells k (Caused address begins k h) t.call → (All address lawful begins begun k) h → (All address lawful begins begun k) (t ∷ h)
  on t h brings told all j =
      (elim (eqb t.who j) as (λ u. eqb t.who j ≡ u
      → (Watched address lawful begins begun k) (t ∷ h) j (pick u (world_of address (outcome address t.call (worlds address begins h j))) (worlds address begins h j))) [
        | true ↦ λ e.
            subst (λ (i : ℕ). (Watched address lawful begins begun k) (t ∷ h) i (world_of address (outcome address t.call (worlds address begins h i)))) (eqb-true t.who j e)
            (turned t.who h (all t.who) t.call brings told)
        | false ↦ λ e. watched_before t h j e (all j)
      ]) refl

  first-node : (b : Beginning A) (j tick : ℕ) → (Watched address lawful begins begun k) [] j (record { node = stored address (first_node b); wait = enters SendingPing tick })
  unfolding fresh stored loaded
  first-node (Creation settings own n) j tick = record { node = record { alive = nil; deceased = nil }; wait = tt; timers = λ i t a. absurd a }
  first-node (Restart settings own rows position) j tick = record { node = record { alive = nil; deceased = nil }; wait = tt; timers = λ i t a. absurd a }

  first_watched : (w : World A) → Fresh address w → (j : ℕ) → (Watched address lawful begins begun k) [] j w
  first_watched _ (cabinets.fresh b node tick gave) j =
      subst (λ (s : Stored A). (Watched address lawful begins begun k) [] j (record { node = s; wait = enters SendingPing tick })) (sym (first_is address lawful gave)) (first-node b j tick)

  pub standing : (h : List (Turn A)) → Honest address begins k h → (Standing address lawful begins begun k) h
  standing [] o = record { all = λ j. first_watched (begins j) (begun j) j; sent = nil }
  standing (t ∷ h) o =
      let s = standing h o.1 in
      let told = brought k (Caused address begins k h) t.call (cabinets.sent address begins h) o.0 s.sent in
      record {
        all = on t h o.0 told s.all;
        sent = each_append (turn_gives t.who h (s.all t.who) t.call o.0 told).messages (messages_map k (caused_before k t h) s.sent);
      }
