-- The auditor's two questions, in his words: "for any controller that has left a list, which message or time-out took it out? and can an
-- older message do it?", or an older time-out?
-- Assumes nothing.
use Rattle.std.specs.Prelude.{◌≡◌, refl, true, false, List, [], ◌∷◌, ◌++◌, ◌⊎◌, ℕ, zero, suc, ◌≤◌, ◌<◌, length, get_or, drop, leb}
use Rattle.std.proofs.Common.{ap, sym, ◌∙◌, inl, inr, arith, leb-true}
use Rattle.std.proofs.Math.Option.{Option, none, some}
use Rattle.laws.specs.Bools.{and_split}
use Rattle.model.specs.Bounds.{Room}
use Rattle.model.specs.Words.{Address, Lawful, is_alive, Event, Nothing, Joined, Recovered, Suspected, Deceased, Gossip, Action, Ping, PingReq, Ack, Timer, no_timer}
use Rattle.model.specs.Node.{Node, Stored, loaded, lists, numbered, state_of}
use Rattle.model.specs.Detector.{first_over}
use Rattle.laws_rules.specs.KeepsCalls.{first_over_in}
use Rattle.history.specs.Beginnings.{Beginning, own_of, Gave}
use Rattle.history.specs.Moments.{Deed, Told, Sender, Added, Other, Moment, ended_deed}
use Rattle.history.specs.Ledger.{Tally, goes, carried, tally}
use Rattle.history.proofs.Did.{timed}
use Rattle.history.proofs.Rules.{never}
use Rattle.history.specs.Histories as calls
use Rattle.history.specs.Histories.{World, Call, Add, Receive, Step, Lends, outcome, world_of, run, moments, trace}
use Rattle.history.specs.Tells.{At, Leads, records, message_deeds, timer_deeds, asked, deeds_of}
use Rattle.history.specs.Worlds.{Stands}
use Rattle.history.proofs.Worlds.{call-stands}
use Rattle.history.specs.Next.{Known, Left}
use Rattle.history.proofs.Next.{at_is, deed_at, fine_at, goes-out, at-asked, known_of}
use Rattle.history.specs.Demand3 as demand3
use Rattle.history.proofs.Demand3 as demand3_proved
use Rattle.history.specs.Auditor.{Cause, Absent, TakenOut, notice, time_out}

at_get_d : {B : Type 0} (l : List B) (i : ℕ) (d : B) → i < length l → At l i (get_or l i d)
at_get_d [] i d h = absurd (omega arith)
at_get_d (x ∷ l) zero d h = refl
at_get_d (x ∷ l) (suc i) d h = at_get_d l i d (omega arith)

-- a place of two lists, one behind the other
at-append : {B : Type 0} (l k : List B) (i : ℕ) (x : B) → At (l ++ k) i x → At l i x ⊎ ((j : ℕ) × At k j x)
at-append [] k i x p = inr (i, p)
at-append (y ∷ l) k zero x p = inl p
at-append (y ∷ l) k (suc i) x p = at-append l k i x p

module _ {A : Type 0} (address : Address A) (a : A) where
  -- ---- a moment that the ledger counts as a departure
  -- none of these deeds is a departure
  abbrev Staying : Node A → List (Deed A) → Type 0
  Staying s [] = Unit {0}
  Staying s (d ∷ ds) = (goes address a d s ≡ false) × Staying s ds

  none-goes : {B : Type 0} (s : Node A) (ds : List (Deed A)) (i : ℕ) (d : Deed A) → Staying s ds → At ds i d → goes address a d s ≡ true → B
  none-goes {B = B} s [] i d p e g = elim e [ ]
  none-goes s (x ∷ ds) zero d p e g = never (sym p.0 ∙ ap (λ (y : Deed A). goes address a y s) e ∙ g)
  none-goes s (x ∷ ds) (suc i) d p e g = none-goes s ds i d p.1 e g

  -- a place of a message's records
  at_records : (gs : List (Gossip A)) (i : ℕ) (d : Deed A) → At (records gs) i d → (e : Event A) × At gs i (record { event = e }) × (d ≡ Told e)
  at_records [] i d p = elim p [ ]
  at_records (g ∷ gs) zero d p = (g.event, refl, sym p)
  at_records (g ∷ gs) (suc i) d p = at_records gs i d p

  module _ (lawful : Lawful address) where
    record_goes : (c : Call A) (w : World A) (action : Action A) (gs : List (Gossip A)) (ds : List ℕ) (lent : Room) (i : ℕ) (s : Node A) → c ≡ Receive action gs ds lent
        → (e : Event A) → At gs i (record { event = e }) → goes address a (Told e) s ≡ true → (Cause address a) c w i s
    record_goes c w action gs ds lent i s q Nothing p g = never g
    record_goes c w action gs ds lent i s q (Joined f b n) p g = never g
    record_goes c w action gs ds lent i s q (Recovered f b n) p g = never g
    record_goes c w action gs ds lent i s q (Suspected f b n) p g = never g
    record_goes c w action gs ds lent i s q (Deceased f b n) p g =
        let v = and_split (address.same a b) (leb (numbered address a s) n) g in
        notice action gs ds lent f n q (rw (lawful.test.same_eq a b v.0) p) (leb-true (numbered address a s) n v.1)

    -- what follows the records of a message takes nobody out
    message-goes : (c : Call A) (w : World A) (action : Action A) (gs : List (Gossip A)) (ds : List ℕ) (lent : Room) (i : ℕ) (s : Node A) (d : Deed A) (rest : List (Deed A))
        → c ≡ Receive action gs ds lent → Staying s rest → At (records gs ++ rest) i d → goes address a d s ≡ true → (Cause address a) c w i s
    message-goes c w action gs ds lent i s d rest q k p g = from (at-append (records gs) rest i d p)
      where
        from : At (records gs) i d ⊎ ((j : ℕ) × At rest j d) → (Cause address a) c w i s
        from (inl x) =
            let v = at_records gs i d x in
            record_goes c w action gs ds lent i s q v.0 v.1 (ap (λ (y : Deed A). goes address a y s) (sym v.2) ∙ g)
        from (inr x) = none-goes s rest x.0 d k x.1 g

    receive_goes : (c : Call A) (w : World A) (action : Action A) (gs : List (Gossip A)) (ds : List ℕ) (lent : Room) (i : ℕ) (s : Node A) (d : Deed A)
        → c ≡ Receive action gs ds lent → At (message_deeds action gs) i d → goes address a d s ≡ true → (Cause address a) c w i s
    receive_goes c w (Ping from by) gs ds lent i s d q p g = message-goes c w _ gs ds lent i s d (Sender from ∷ Other ∷ []) q (refl, (refl, tt)) p g
    receive_goes c w (PingReq from about) gs ds lent i s d q p g = message-goes c w _ gs ds lent i s d (Other ∷ []) q (refl, tt) p g
    receive_goes c w (Ack from none) gs ds lent i s d q p g = message-goes c w _ gs ds lent i s d (Other ∷ []) q (refl, tt) p g
    receive_goes c w (Ack from (some to)) gs ds lent i s d q p g =
        let v = at_records gs i d p in
        record_goes c w _ gs ds lent i s q v.0 v.1 (ap (λ (y : Deed A). goes address a y s) (sym v.2) ∙ g)

    timer_goes : (c : Call A) (w : World A) (now : ℕ) (lent : Room) (o : Option ℕ) (i : ℕ) (s : Node A) (d : Deed A) → c ≡ calls.Timer now lent
        → first_over address w.node.settings.suspect_timeout now (loaded w.node).timers ≡ o
        → At (timer_deeds address o (loaded w.node)) i d → goes address a d s ≡ true → (Cause address a) c w i s
    timer_goes c w now lent none i s d q o p g = elim p [ ]
    timer_goes c w now lent (some j) (suc _) s d q o p g = elim p [ ]
    timer_goes c w now lent (some j) zero s d q o p g =
        let timers = (loaded w.node).timers in
        let t = get_or timers j (no_timer address) in
        time_out now lent j t q o (at_get_d timers j (no_timer address) (first_over_in address lawful w.node.settings.suspect_timeout now timers j o))
        (sym (lawful.test.same_eq a t.addr (and_split _ _ went).0)) (timed address a t.addr t.number s went).0 (timed address a t.addr t.number s went).1
      where
        went : goes address a (ended_deed address (get_or (loaded w.node).timers j (no_timer address))) s ≡ true
        went = ap (λ (y : Deed A). goes address a y s) p ∙ g

    -- a departure of the ledger, at a place of what the call asked, has its cause
    cause-at : (c : Call A) (w : World A) (i : ℕ) (s : Node A) (d : Deed A) → At (asked address c w) i d → goes address a d s ≡ true → (Cause address a) c w i s
    cause-at (Add b n ds) w i s d p g = none-goes s (Added b n ∷ []) i d (refl, tt) p g
    cause-at (Receive action gs ds lent) w i s d p g = receive_goes _ w action gs ds lent i s d refl p g
    cause-at (Step now ds lent) w i s d p g = none-goes s (Other ∷ []) i d (refl, tt) p g
    cause-at (calls.Timer now lent) w i s d p g = timer_goes _ w now lent _ i s d refl refl p g
    cause-at (Lends wait) w i s d p g = none-goes s [] i d tt p g

  two_calls : {action : Action A} {gs : List (Gossip A)} {ds : List ℕ} {lent room : Room} {now : ℕ} → Receive action gs ds lent ≡ calls.Timer now room → ⊥
  two_calls e = let z : ◌≡◌ {A = ℕ} 0 1 = cc in omega arith

  same_place : {j k : ℕ} → ◌≡◌ {A = Option ℕ} (some j) (some k) → j ≡ k
  same_place e = cc

  absent_more : (m : Moment A) (ms : List (Moment A)) → lists address a m.after ≡ false → (Absent address a) ms → (Absent address a) (m ∷ ms)
  absent_more m ms g p zero x e = ap (λ (y : Moment A). lists address a y.after) (sym e) ∙ g
  absent_more m ms g p (suc i) x e = p i x e

  absent_append : (ms ns : List (Moment A)) → (Absent address a) ms → (Absent address a) ns → (Absent address a) (ms ++ ns)
  absent_append [] ns p q = q
  absent_append (m ∷ ms) ns p q = absent_more m (ms ++ ns) (p zero m refl) (absent_append ms ns (λ j y v. p (suc j) y v) q)

  -- the last moment at which the address left
  record LeftLast (ms : List (Moment A)) : Type 0 where
    place : ℕ
    moment : Moment A
    at : At ms place moment
    left : Left address a moment
    out : (Absent address a) (drop (suc place) ms)

  -- an address that is not listed after the moments left at one of them and did not come back, or was listed before none
  last-left : (s s' : Node A) (ms : List (Moment A)) → Leads s ms s' → lists address a s' ≡ false → LeftLast ms ⊎ ((lists address a s ≡ false) × (Absent address a) ms)
  last-left s s' [] e q = inr (ap (lists address a) e ∙ q, λ i m p. absurd p)
  last-left s s' (m ∷ ms) (e, l) q = from (last-left m.after s' ms l q)
    where
      from : LeftLast ms ⊎ ((lists address a m.after ≡ false) × (Absent address a) ms) → LeftLast (m ∷ ms) ⊎ ((lists address a s ≡ false) × (Absent address a) (m ∷ ms))
      from (inl r) = inl (record { place = suc r.place; moment = r.moment; at = r.at; left = r.left; out = r.out })
      from (inr (g, away)) =
          (elim (lists address a s) as (λ u. lists address a s ≡ u → LeftLast (m ∷ ms) ⊎ ((u ≡ false) × (Absent address a) (m ∷ ms))) [
            | true ↦ λ v. inl (record { place = zero; moment = m; at = refl; left = record { was = ap (lists address a) (sym e) ∙ v; gone = g }; out = away })
            | false ↦ λ v. inr (refl, absent_more m ms g away)
          ]) refl

  module _ (lawful : Lawful address) (own : A) (t : Tally) (c : Call A) (w : World A) (known : Known address a own t c w) where
    -- which record or time-out took it out, at whichever of the call's moments it left
    pub caused : (i : ℕ) (m : Moment A) → At (moments address c w) i m → Left address a m → (Cause address a) c w i m.before
    caused i m p l =
        let f = fine_at address a own (moments address c w) t i m p known.fine in
        let d : At (deeds_of address c w) i m.deed = rw known.tells.asks at (deed_at address a (moments address c w) i m p) in
        cause-at lawful c w i m.before m.deed (at-asked address a (outcome address c w).outcome.reply (asked address c w) i m.deed d)
        (goes-out address a _ _ _ l.was l.gone f.leaves)

    -- no departure carries a number below the one held at that moment: neither a notice nor a timer
    pub no_lower : (i : ℕ) (m : Moment A) → At (moments address c w) i m → Left address a m → numbered address a m.before ≤ carried address a m.deed
    no_lower i m p l =
        let f = fine_at address a own (moments address c w) t i m p known.fine in
        f.no_lower (goes-out address a _ _ _ l.was l.gone f.leaves)

    -- an address that is listed before a moment and cannot have left at it is listed after it
    stays_if : (m : Moment A) → lists address a m.before ≡ true → (Left address a m → ⊥) → lists address a m.after ≡ true
    stays_if m l never-left =
        (elim (lists address a m.after) as (λ u. lists address a m.after ≡ u → u ≡ true) [
          | true ↦ λ e. refl
          | false ↦ λ e. absurd (never-left (record { was = l; gone = e }))
        ]) refl

    -- a time-out that was refuted: the address is Alive at the moment at which a timer ends. It stays
    pub refuted_alive : (now : ℕ) (lent : Room) (i : ℕ) (m : Moment A) → c ≡ calls.Timer now lent → At (moments address c w) i m
        → is_alive (state_of address a m.before) ≡ true → lists address a m.before ≡ true → lists address a m.after ≡ true
    refuted_alive now lent i m q p alive l = stays_if m l (λ gone. contradicts (caused i m p gone))
      where
        contradicts : (Cause address a) c w i m.before → ⊥
        contradicts (notice ac xs ys room f k e x le) = two_calls (sym e ∙ q)
        contradicts (time_out now' room j tm e o x y still le) = let z : ◌≡◌ {A = ℕ} 0 1 = cc in omega arith

    -- an older time-out: the timer that ends carries a number below the one held at that moment. The address stays
    pub refuted_older : (now : ℕ) (lent : Room) (j : ℕ) (old : Timer A) (i : ℕ) (m : Moment A) → c ≡ calls.Timer now lent
        → first_over address w.node.settings.suspect_timeout now (loaded w.node).timers ≡ some j → At (loaded w.node).timers j old → At (moments address c w) i m
        → old.number < numbered address a m.before → lists address a m.before ≡ true → lists address a m.after ≡ true
    refuted_older now lent j old i m q over at p low l = stays_if m l (λ gone. contradicts (caused i m p gone))
      where
        same_time : {now' : ℕ} {room : Room} → ◌≡◌ {A = Call A} (calls.Timer now lent) (calls.Timer now' room) → now ≡ now'
        same_time e = cc

        contradicts : (Cause address a) c w i m.before → ⊥
        contradicts (notice ac xs ys room f k e x le) = two_calls (sym e ∙ q)
        contradicts (time_out now' room k tm e o x y still le) =
            let when : now ≡ now' = same_time (sym q ∙ e) in
            let place : j ≡ k = same_place (sym over ∙ ap (λ (n : ℕ). first_over address w.node.settings.suspect_timeout n (loaded w.node).timers) when ∙ o) in
            let timer : old ≡ tm = at_is (loaded w.node).timers k old tm (rw place at at) x in
            absurd (omega (arith, ap (λ (x : Timer A). x.number) timer))

    -- an older message: its record i is a Deceased gossip for the address with a number below the one held at that moment. The address stays
    pub spared : (action : Action A) (gs : List (Gossip A)) (ds : List ℕ) (lent : Room) (i : ℕ) (m : Moment A) (from : A) (n : ℕ) → c ≡ Receive action gs ds lent → At (moments address c w) i m
        → At gs i (record { event = Deceased from a n }) → n < numbered address a m.before → lists address a m.before ≡ true → lists address a m.after ≡ true
    spared action gs ds lent i m from n q p r low l = stays_if m l (λ gone. contradicts (caused i m p gone))
      where
        number : Event A → ℕ
        number Nothing = 0
        number (Joined f b k) = k
        number (Recovered f b k) = k
        number (Suspected f b k) = k
        number (Deceased f b k) = k

        records_of : Call A → List (Gossip A)
        records_of (Add b k xs) = []
        records_of (Receive ac xs ys room) = xs
        records_of (Step now xs room) = []
        records_of (calls.Timer now room) = []
        records_of (Lends wait) = []

        contradicts : (Cause address a) c w i m.before → ⊥
        contradicts (notice ac xs ys room f k e x le) =
            let same : xs ≡ gs = sym (ap records_of e) ∙ ap records_of q in
            let eq : k ≡ n = ap (λ (g : Gossip A). number g.event) (at_is gs i _ _ (rw same at x) r) in
            absurd (omega arith)
        contradicts (time_out now room j tm e o x y still le) = two_calls (sym q ∙ e)

  module _ (lawful : Lawful address) (own : A) where
    -- an address that is not listed after the calls: some call of them took it out for good, or it was listed at none of their moments
    pub taken-last : (h : List (Call A)) (w : World A) (t : Tally) → Stands address lawful a own t w → lists address a (loaded (run address h w).node) ≡ false
        → (TakenOut address a) h w ⊎ ((lists address a (loaded w.node) ≡ false) × (Absent address a) (trace address h w))
    taken-last [] w t k q = inr (q, λ i m p. absurd p)
    taken-last (c ∷ h) w t k q = from (taken-last h w' (tally address a (moments address c w) t) (call-stands address lawful a own t c w k).stands q)
      where
        w' : World A
        w' = world_of address (outcome address c w)

        before : (TakenOut address a) h (world_of address (outcome address c w)) → (TakenOut address a) (c ∷ h) w
        before r =
            record {
              earlier = c ∷ r.earlier;
              call = r.call;
              later = r.later;
              splits = ap (λ (l : List (Call A)). c ∷ l) r.splits;
              place = r.place;
              moment = r.moment;
              at = r.at;
              left = r.left;
              cause = r.cause;
              out = r.out;
            }

        here : (Absent address a) (trace address h (world_of address (outcome address c w))) → LeftLast (moments address c w) ⊎ ((lists address a (loaded w.node) ≡ false) × (Absent address a) (moments address c w))
            → (TakenOut address a) (c ∷ h) w ⊎ ((lists address a (loaded w.node) ≡ false) × (Absent address a) (trace address (c ∷ h) w))
        here away (inl r) =
            inl (record { earlier = []; call = c; later = h; splits = refl; place = r.place; moment = r.moment; at = r.at; left = r.left; cause = caused lawful own t c w (known_of address a lawful own t c w k) r.place r.moment r.at r.left; out = absent_append (drop (suc r.place) (moments address c w)) (trace address h (world_of address (outcome address c w))) r.out away })
        here away (inr (g, p)) = inr (g, absent_append (moments address c w) (trace address h (world_of address (outcome address c w))) p away)

        from : (TakenOut address a) h (world_of address (outcome address c w)) ⊎ ((lists address a (loaded (world_of address (outcome address c w)).node) ≡ false) × (Absent address a) (trace address h (world_of address (outcome address c w))))
            → (TakenOut address a) (c ∷ h) w ⊎ ((lists address a (loaded w.node) ≡ false) × (Absent address a) (trace address (c ∷ h) w))
        from (inl r) = inl (before r)
        from (inr (g, away)) = here away (last-left (loaded w.node) _ (moments address c w) (known_of address a lawful own t c w k).tells.leads g)

    -- an address that was listed and is no longer: some call of the calls between took it out
    pub taken_out : (h : List (Call A)) (w : World A) (t : Tally) → Stands address lawful a own t w → lists address a (loaded w.node) ≡ true → lists address a (loaded (run address h w).node) ≡ false → (TakenOut address a) h w
    taken_out h w t k p q = from (taken-last h w t k q)
      where
        from : (TakenOut address a) h w ⊎ ((lists address a (loaded w.node) ≡ false) × (Absent address a) (trace address h w)) → (TakenOut address a) h w
        from (inl r) = r
        from (inr (g, away)) = never (sym g ∙ p)

module _ {A : Type 0} (address : Address A) (lawful : Lawful address) (b : Beginning A) (tick : ℕ) (node : Stored A) (gave : Gave address b node) (h : List (Call A)) (a : A) where
  abbrev last : World A
  last = demand3.last address lawful b tick node gave h a

  -- which message or time-out took it out: an address that is listed after this history and no longer after some more calls
  pub which_took_it_out : (more : List (Call A)) → lists address a (loaded last.node) ≡ true → lists address a (loaded (run address more last).node) ≡ false → TakenOut address a more last
  which_took_it_out more p q = taken_out address a lawful (own_of b) more last _ (demand3_proved.stood address lawful b tick node gave h a) p q

  -- whoever is not listed now was taken out for good at a place that is named, or was listed at no moment since
  pub absent_now : (more : List (Call A)) → lists address a (loaded (run address more last).node) ≡ false
      → TakenOut address a more last ⊎ ((lists address a (loaded last.node) ≡ false) × Absent address a (trace address more last))
  absent_now more q = taken-last address a lawful (own_of b) more last _ (demand3_proved.stood address lawful b tick node gave h a) q
