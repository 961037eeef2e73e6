-- DEMAND 3, OF THE PROGRAM. Of every run of calls of `swim` from the node that creation or a restart handed back, with a fresh wait record at any tick, with any wait record that the host lends later, and of every
-- address. The ledger is 01's, replayed from the inputs of creation or of the restart and the calls alone; the nodes and the rows are those that the program was handed back.
-- Assumes nothing.
use Rattle.std.specs.Prelude.{◌≡◌, refl, true, false, List, [], ◌∷◌, ◌++◌, map, ℕ, suc, ◌+◌, ◌≤◌, ◌<◌, length, take, drop}
use Rattle.std.proofs.Math.Path.{sym, ap}
use Rattle.std.proofs.Common.{◌∙◌, subst}
use Rattle.std.proofs.Math.Option.{some}
use Rattle.model.specs.declared.Lamps.{Lamps}
use Rattle.model.specs.Rows.{one, occurs}
use Rattle.model.specs.Bounds.{Room}
use Rattle.address.specs.Here.{Addr, here, here_lawful}
use Rattle.model.specs.Words as W
use Rattle.model.specs.Words.{Deceased}
use Rattle.model.specs.Lamps.{lamps_of}
use Rattle.model.specs.Node as M
use Rattle.model.specs.Detector.{first_over}
use Rattle.model.specs.Sound.{sound}
use Rattle.history.specs.Moments.{Moment}
use Rattle.history.specs.Beginnings.{Beginning, Gave}
use Rattle.history.proofs.Worlds.{first_is}
use Rattle.history.specs.Ledger.{Tally, carried, tally}
use Rattle.history.specs.Histories as history
use Rattle.history.specs.Histories.{World, Call, Receive, outcome, world_of, run, moments, trace, start}
use Rattle.history.specs.Tells.{At, targets, Leads, said_by, asked, asked_by}
use Rattle.history.specs.Next.{Known, Left, StaysListed}
use Rattle.history.proofs.Next.{rises_along, bounded}
use Rattle.history.proofs.Demand3 as model
use Rattle.history.proofs.Auditor as auditor
use Rattle.history.specs.Auditor.{Cause, Absent, TakenOut}
use Rattle.history.proofs.Started as timers
use Rattle.history.specs.Started.{Within, started}
use Rattle.types.specs.declared.Gossip.{Gossip}
use Rattle.node.specs.declared.Node.{Node}
use Rattle.node.specs.declared.Letter.{Letter}
use Rattle.node.specs.Views.{stored_view, view_node, from_message}
use Rattle.node.specs.Rows.{loaded_view}
use Rattle.wait.specs.declared.Wait.{Wait}
use Rattle.wait.specs.Views.{to_wait}
use Rattle.swim.specs.Promises.{row_after}
use Rattle.promises.specs.Panel.{Shows}
use Rattle.promises.proofs.Panel.{shows_true}
use Rattle.promises.specs.Begun.{Begun}
use Rattle.promises.proofs.Begun.{begun-gave, begun-wait}
use Rattle.promises.specs.Made.{Held, Said, Made}
use Rattle.promises.specs.Runs.{Runs, rests, makes, world, seen}
use Rattle.promises.proofs.Runs.{made_is, runs_is}
use Rattle.promises.specs.Demand3.{Account, Departure, Split, own, last, ledger, before, next}

split : (earlier : List (Call Addr)) (c : Call Addr) (later : List (Call Addr)) {n n' : Node} {w w' : Wait} → Runs n w (earlier ++ (c ∷ later)) n' w' → Split n w earlier c later n' w'
split [] c later (makes h _ s h' m rest) = record { before = h; said = s; after = h'; reached = rests h.node h.wait; made = m; goes_on = rest }
split (x ∷ earlier) c later (makes h _ s h' m rest) =
    let v = split earlier c later rest in
    record { before = v.before; said = v.said; after = v.after; reached = makes h x s h' m v.reached; made = v.made; goes_on = v.goes_on }

targets_are : (ms : List (W.Message Addr)) → map (λ (l : Letter). l.target) (map from_message ms) ≡ targets ms
targets_are [] = refl
targets_are (m ∷ ms) = ap (λ (l : List Addr). m.target ∷ l) (targets_are ms)

-- what is known of a call by the rules, as the program sees it
account : (a own : Addr) (t : Tally) (h : Held) (c : Call Addr) (s : Said) (h' : Held) (w : World Addr) → w ≡ seen h → Made h c s h' → Known here a own t c w → Account a own t h c s h' (moments here c w)
account a _ t h c s h' w e m k =
    let v = made_is h c s h' m in
    let start : M.loaded w.node ≡ view_node h.node = (λ i. M.loaded (e i).node) ∙ loaded_view h.node in
    let end : M.loaded (outcome here c w).outcome.node ≡ view_node h'.node = (λ i. M.loaded (outcome here c (e i)).outcome.node) ∙ sym (λ i. M.loaded (v.world i).node) ∙ loaded_view h'.node in
    let said : said_by (moments here c w) ≡ (outcome here c (seen h)).outcome.events = k.tells.says ∙ (λ i. (outcome here c (e i)).outcome.events) in
    let waits : (outcome here c w).wait ≡ to_wait h'.wait = (λ i. (outcome here c (e i)).wait) ∙ sym (λ i. (v.world i).wait) in
    let reply : (outcome here c w).outcome.reply ≡ s.reply = (λ i. (outcome here c (e i)).outcome.reply) ∙ sym v.reply in
    record {
      leads = subst (λ (x : M.Node Addr). Leads x (moments here c w) (view_node h'.node)) start (subst (λ (x : M.Node Addr). Leads (M.loaded w.node) (moments here c w) x) end k.tells.leads);
      events = v.events ∙ ap (λ (l : List (W.Gossip Addr)). row_after l h.events) (sym said);
      reported = v.reported ∙ ap length (sym said);
      asks = k.tells.asks ∙ (λ i. asked_by here (reply i) (asked here c (e i)));
      fine = k.fine;
      pings = λ now ds lent b n q p o.
          ap (map (λ (l : Letter). l.target)) v.letters ∙ targets_are (outcome here c (seen h)).outcome.messages
          ∙ ap (λ (x : World Addr). targets (outcome here c x).outcome.messages) (sym e)
          ∙ k.pings now ds lent b n q (ap (λ (x : World Addr). x.wait.state) e ∙ p) (ap (λ (x : W.Wait Addr). x.state) waits ∙ o);
    }

module _ (b : Beginning Addr) (tick : ℕ) (first : Node) (first-wait : Wait) (begun-by : Begun b tick first first-wait)
    (cs : List (Call Addr)) (node : Node) (wait : Wait) (runs : Runs first first-wait cs node wait) (a : Addr) where
  gave : Gave here b (stored_view first)
  gave = begun-gave begun-by

  -- the replay ends at the program's own node and wait record
  pub replayed : (last b tick first first-wait begun-by cs node wait runs a) ≡ world node wait
  replayed =
      (λ i. run here cs (record { node = sym (first_is here here_lawful gave) i; wait = to_wait (sym (begun-wait begun-by) i) })) ∙ runs_is runs

  ends : M.loaded (last b tick first first-wait begun-by cs node wait runs a).node ≡ view_node node
  ends = (λ i. M.loaded (replayed i).node) ∙ loaded_view node

  -- "an address's entries less departures is 1 where it is listed and 0 where not"
  pub counted : (ledger b tick first first-wait begun-by cs node wait runs a).entries ≡ (ledger b tick first first-wait begun-by cs node wait runs a).departures + one (M.lists here a (view_node node))
  counted = rw (sym ends) (model.counted here here_lawful b tick _ gave cs a)

  -- "the probing order holds each listed address once and nothing more"
  pub ordered : occurs here.same a (view_node node).members.order ≡ one (M.lists here a (view_node node))
  ordered = rw (sym ends) (model.ordered here here_lawful b tick _ gave cs a)

  -- no number reported for a listed peer since its last entry is above the held one
  pub reported-held : M.lists here a (view_node node) ≡ true → here.same (own b tick first first-wait begun-by cs node wait runs a) a ≡ false → (ledger b tick first first-wait begun-by cs node wait runs a).top ≤ M.numbered here a (view_node node)
  reported-held = rw (sym ends) (model.reported-held here here_lawful b tick _ gave cs a)

  -- "own address left out, true after every operation": whatever the panel reads of a node of the run are the counts of its list
  pub lamps_true : (l : Lamps) → l ≡ node.members.lamps → Shows (own b tick first first-wait begun-by cs node wait runs a) (view_node node).members.table l
  unfolding stored_view
  lamps_true l e =
      shows_true (own b tick first first-wait begun-by cs node wait runs a) (view_node node).members.table l
      (e
      ∙ sym (λ i. (replayed i).node.lamps)
      ∙ model.lit here here_lawful b tick _ gave cs a
      ∙ ap (λ (s : M.Node Addr). lamps_of here.same (own b tick first first-wait begun-by cs node wait runs a) s.members.table) ends)

  -- every node of a run is sound, so refusal 2 never meets one
  pub stays-sound : sound here (stored_view node) ≡ true
  stays-sound = ap (λ (w : World Addr). sound here w.node) (sym replayed) ∙ model.stays-sound here here_lawful b tick _ gave cs a

  -- "Timers stand in starting order": those of the program's node, in the order in which the run's declarations started them
  pub in_starting_order : Within (view_node node).timers (started here cs (start here b tick))
  in_starting_order = rw (sym ends) (timers.in_starting_order here here_lawful tick b _ gave cs)

  known : (c : Call Addr) → Known here a (own b tick first first-wait begun-by cs node wait runs a) (ledger b tick first first-wait begun-by cs node wait runs a) c (world node wait)
  known c = subst (Known here a (own b tick first first-wait begun-by cs node wait runs a) (ledger b tick first first-wait begun-by cs node wait runs a) c) replayed (model.known here here_lawful b tick _ gave cs a c)

  -- the next call of the run, on whatever rows the host lends
  module _ (gossip events : List Gossip) (c : Call Addr) (s : Said) (h' : Held) (made : Made (record { node = node; wait = wait; gossip = gossip; events = events }) c s h') where
    pub accounted : Account a (own b tick first first-wait begun-by cs node wait runs a) (ledger b tick first first-wait begun-by cs node wait runs a) (before b tick first first-wait begun-by cs node wait runs a gossip events c s h' made) c s h' (next b tick first first-wait begun-by cs node wait runs a gossip events c s h' made)
    accounted = account a (own b tick first first-wait begun-by cs node wait runs a) (ledger b tick first first-wait begun-by cs node wait runs a) (before b tick first first-wait begun-by cs node wait runs a gossip events c s h' made) c s h' (last b tick first first-wait begun-by cs node wait runs a) replayed made (model.known here here_lawful b tick _ gave cs a c)

    -- "while listed, its number never falls": from the program's node before the call to the one after it
    pub never_falls : StaysListed here a (next b tick first first-wait begun-by cs node wait runs a gossip events c s h' made) → M.lists here a (view_node node) ≡ true → M.numbered here a (view_node node) ≤ M.numbered here a (view_node h'.node)
    never_falls stays l = rises_along here a (own b tick first first-wait begun-by cs node wait runs a) (view_node node) (view_node h'.node) (next b tick first first-wait begun-by cs node wait runs a gossip events c s h' made) (ledger b tick first first-wait begun-by cs node wait runs a) accounted.leads accounted.fine stays l

    -- "a death notice that removes a peer carries a number no lower than any reported for it since it entered": record i of a message
    pub bound : (action : W.Action Addr) (gs : List (W.Gossip Addr)) (ds : List ℕ) (lent : Room) (i : ℕ) (m : Moment Addr) (from : Addr) (n : ℕ) → c ≡ Receive action gs ds lent → At (next b tick first first-wait begun-by cs node wait runs a gossip events c s h' made) i m → At gs i (record { event = Deceased from a n })
        → here.same (own b tick first first-wait begun-by cs node wait runs a) a ≡ false → Left here a m → (tally here a (take i (next b tick first first-wait begun-by cs node wait runs a gossip events c s h' made)) (ledger b tick first first-wait begun-by cs node wait runs a)).top ≤ n
    bound = bounded here a (own b tick first first-wait begun-by cs node wait runs a) (ledger b tick first first-wait begun-by cs node wait runs a) c (last b tick first first-wait begun-by cs node wait runs a) (model.known here here_lawful b tick _ gave cs a c)

    -- every moment at which the address left has its cause: record i of the message, or the timer that the call ended
    pub caused : (i : ℕ) (m : Moment Addr) → At (next b tick first first-wait begun-by cs node wait runs a gossip events c s h' made) i m → Left here a m → Cause here a c (world node wait) i m.before
    caused i m p l = auditor.caused here a here_lawful (own b tick first first-wait begun-by cs node wait runs a) (ledger b tick first first-wait begun-by cs node wait runs a) c (world node wait) (known c) i m (subst (λ (w : World Addr). At (moments here c w) i m) replayed p) l

    -- "can an older message do it?" No: at a record whose number is below the held one the address stays
    pub no_older_message : (action : W.Action Addr) (gs : List (W.Gossip Addr)) (ds : List ℕ) (lent : Room) (i : ℕ) (m : Moment Addr) (from : Addr) (n : ℕ) → c ≡ Receive action gs ds lent → At (next b tick first first-wait begun-by cs node wait runs a gossip events c s h' made) i m → At gs i (record { event = Deceased from a n })
        → n < M.numbered here a m.before → M.lists here a m.before ≡ true → M.lists here a m.after ≡ true
    no_older_message = auditor.spared here a here_lawful (own b tick first first-wait begun-by cs node wait runs a) (ledger b tick first first-wait begun-by cs node wait runs a) c (last b tick first first-wait begun-by cs node wait runs a) (model.known here here_lawful b tick _ gave cs a c)

    -- nor can an older time-out: the timer that ends carries a number below the held one
    pub no_older_time_out : (now : ℕ) (lent : Room) (j : ℕ) (old : W.Timer Addr) (i : ℕ) (m : Moment Addr) → c ≡ history.Timer now lent
        → first_over here (last b tick first first-wait begun-by cs node wait runs a).node.settings.suspect_timeout now (M.loaded (last b tick first first-wait begun-by cs node wait runs a).node).timers ≡ some j → At (M.loaded (last b tick first first-wait begun-by cs node wait runs a).node).timers j old → At (next b tick first first-wait begun-by cs node wait runs a gossip events c s h' made) i m
        → old.number < M.numbered here a m.before → M.lists here a m.before ≡ true → M.lists here a m.after ≡ true
    no_older_time_out = auditor.refuted_older here a here_lawful (own b tick first first-wait begun-by cs node wait runs a) (ledger b tick first first-wait begun-by cs node wait runs a) c (last b tick first first-wait begun-by cs node wait runs a) (model.known here here_lawful b tick _ gave cs a c)

    -- nor any time-out one that is Alive
    pub no_time_out_if_alive : (now : ℕ) (lent : Room) (i : ℕ) (m : Moment Addr) → c ≡ history.Timer now lent → At (next b tick first first-wait begun-by cs node wait runs a gossip events c s h' made) i m
        → W.is_alive (M.state_of here a m.before) ≡ true → M.lists here a m.before ≡ true → M.lists here a m.after ≡ true
    no_time_out_if_alive = auditor.refuted_alive here a here_lawful (own b tick first first-wait begun-by cs node wait runs a) (ledger b tick first first-wait begun-by cs node wait runs a) c (last b tick first first-wait begun-by cs node wait runs a) (model.known here here_lawful b tick _ gave cs a c)

    -- so no departure carries a number below the held one, whichever call it is
    pub no_departure_below : (i : ℕ) (m : Moment Addr) → At (next b tick first first-wait begun-by cs node wait runs a gossip events c s h' made) i m → Left here a m → M.numbered here a m.before ≤ carried here a m.deed
    no_departure_below = auditor.no_lower here a here_lawful (own b tick first first-wait begun-by cs node wait runs a) (ledger b tick first first-wait begun-by cs node wait runs a) c (last b tick first first-wait begun-by cs node wait runs a) (model.known here here_lawful b tick _ gave cs a c)

  -- "for any controller that has left a list, which message or time-out took it out?" The address is listed in this node, and no longer in the one after some more calls
  pub which_took_it_out : (more : List (Call Addr)) (node' : Node) (wait' : Wait) → Runs node wait more node' wait' → M.lists here a (view_node node) ≡ true → M.lists here a (view_node node') ≡ false
      → Departure a node wait more node' wait'
  which_took_it_out more node' wait' rest p q = found (auditor.which_took_it_out here here_lawful b tick _ gave cs a more (rw ends p) (rw ended q))
    where
      ended : M.loaded (run here more (last b tick first first-wait begun-by cs node wait runs a)).node ≡ view_node node'
      ended = (λ i. M.loaded (run here more (replayed i)).node) ∙ (λ i. M.loaded (runs_is rest i).node) ∙ loaded_view node'

      found : TakenOut here a more (last b tick first first-wait begun-by cs node wait runs a) → Departure a node wait more node' wait'
      found t =
          let v = split t.earlier t.call t.later (subst (λ (l : List (Call Addr)). Runs node wait l node' wait') t.splits rest) in
          let there : run here t.earlier (last b tick first first-wait begun-by cs node wait runs a) ≡ seen v.before = ap (run here t.earlier) replayed ∙ runs_is v.reached in
          record {
            earlier = t.earlier;
            call = t.call;
            later = t.later;
            splits = t.splits;
            before = v.before;
            said = v.said;
            after = v.after;
            reached = v.reached;
            made = v.made;
            goes_on = v.goes_on;
            place = t.place;
            moment = t.moment;
            at = subst (λ (w : World Addr). At (moments here t.call w) t.place t.moment) there t.at;
            left = t.left;
            cause = subst (λ (w : World Addr). Cause here a t.call w t.place t.moment.before) there t.cause;
            out = subst (λ (w : World Addr). Absent here a (drop (suc t.place) (moments here t.call (seen v.before)) ++ trace here t.later w)) (sym (made_is v.before t.call v.said v.after v.made).world)
                (subst (λ (w : World Addr). Absent here a (drop (suc t.place) (moments here t.call w) ++ trace here t.later (world_of here (outcome here t.call w)))) there t.out);
          }
