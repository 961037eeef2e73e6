-- The records of a message, one after the other: what is left of them gives the answer of the whole.
-- Assumes nothing.
use Rattle.std.specs.Prelude.{◌≡◌, Bool, true, get_or, set, take, drop, replicate}
use Rattle.std.proofs.Math.Path.{refl, ap, sym}
use Rattle.std.proofs.Common.{◌∙◌, add-one, not-suc-le-zero, le_of_suc-le-suc, length-append, length-take-le, get_or-take}
use mathlib.Core.List.{List, [], ◌∷◌, ◌++◌, map, append_assoc, append-nil}
use Rattle.std.proofs.Math.Option.{Option, none, some}
use Prim.Native.Nat.{ℕ, zero, suc, ◌+◌, ◌-◌, ◌≤◌, ◌<◌}
use native.Mathlib.Omega.{arith}
use Rattle.std.proofs.Math.ListN.{length, length-drop, get_or-map}
use Rattle.std.proofs.lemmas.List.{length-map}
use Rattle.model.specs.declared.Refusal.{Refusal}
use Rattle.model.specs.declared.Cause.{Cause}
use Rattle.model.specs.declared.Cause.TheVariants.{Sender}
use Rattle.model.specs.declared.Drew.TheVariants.{Used}
use Rattle.model.specs.Rows.{pad_to, every}
use Rattle.laws.specs.Bools.{and_split}
use Rattle.model.specs.Sound.{valid_gossip}
use Rattle.model.specs.Answers.{Answer, done, refused, and_then}
use Rattle.address.specs.Here.{Addr, here, here_lawful}
use Rattle.model.specs.Words as W
use Rattle.model.specs.Node as M
use Rattle.model.specs.Handler as handler
use Rattle.laws_node.specs.Good.{Good}
use Rattle.laws.specs.After.{After, given}
use Rattle.laws_rules.specs.Keeps.{Keeps, act-keeps, item-keeps, admit-keeps}
use Rattle.model.specs.Calls as calls
use Rattle.laws.specs.Packing.{PackedRow, view_row, pack_row, view_pack, pack_view, view_length, packed_pack, pack_more}
use Rattle.types.specs.declared.Gossip.{Gossip}
use Rattle.types.specs.Views.{to_gossip, to_event, from_event, from_gossip, no_gossip, to_from_gossip, from-to_gossip}
use Rattle.rules.specs.Views.{collects_for}
use Rattle.node.specs.declared.Node.{Node}
use Rattle.node.specs.Views.{view_node, pack_node}
use Rattle.node.specs.Rows.{Ready, ready_pack}
use Rattle.node.specs.Rows as nodes
use Rattle.node.specs.Parts.{ready_is}
use Rattle.message.specs.declared.gossip.Report.{Report}
use Rattle.message.specs.Views.{Rule, records_of, Heeded, sender_rule, verdict_at, death_for, said_by, noted, heard_of}
use Rattle.message.specs.Acting.{Acted}

-- what was said and collected before, and then an answer
abbrev pub prepend : List (W.Gossip Addr) → ℕ → Answer (M.Out Addr) → Answer (M.Out Addr)
prepend said old x = and_then x λ o rest. done (record { node = o.node; said = said ++ o.said; collected = old + o.collected }) rest

none_more : (n : ℕ) → 0 + n ≡ n
none_more n = omega arith

pub prepend_nil : (x : Answer (M.Out Addr)) → prepend [] 0 x ≡ x
prepend_nil (refused r) = refl
prepend_nil (done o rest) = λ i. done (record { node = o.node; said = o.said; collected = none_more o.collected i }) rest

pub prepend-more : (said more : List (W.Gossip Addr)) (old new : ℕ) (x : Answer (M.Out Addr)) → prepend said old (prepend more new x) ≡ prepend (said ++ more) (old + new) x
prepend-more said more old new (refused u) = refl
prepend-more said more old new (done o rest) =
    let c : old + (new + o.collected) ≡ old + new + o.collected = omega arith in
    λ i. done (record { node = o.node; said = sym (append_assoc said more o.said) i; collected = c i }) rest

-- one rule after another, three of them
more_assoc : (x : Answer (M.Out Addr)) (f g : Rule) → M.and_more (M.and_more x f) g ≡ M.and_more x (λ m ds. M.and_more (f m ds) g)
unfolding M.and_more
more_assoc (refused u) f g = refl
more_assoc (done o rest) f g = inner (f o.node rest)
  where
    inner : (y : Answer (M.Out Addr)) → and_then (prepend o.said o.collected y) (λ q r. prepend q.said q.collected (g q.node r))
        ≡ prepend o.said o.collected (and_then y (λ p r. prepend p.said p.collected (g p.node r)))
    inner (refused u) = refl
    inner (done p r) = sym (prepend-more o.said p.said o.collected p.collected (g p.node r))

pub more-quiet : (x : Answer (M.Out Addr)) → M.and_more x M.quiet ≡ x
unfolding M.and_more M.quiet
more-quiet (refused r) = refl
more-quiet (done o rest) =
    let c : o.collected + 0 ≡ o.collected = omega arith in
    λ i. done (record { node = o.node; said = append-nil o.said i; collected = c i }) rest

quiet-more : (f : Rule) (m : M.Node Addr) (ds : List ℕ) → M.and_more (M.quiet m ds) f ≡ f m ds
unfolding M.and_more M.quiet
quiet-more f m ds = prepend_nil (f m ds)

module _ (sender : Option Addr) where
  -- the rule whose turn it is
  abbrev pub turn : List (W.Gossip Addr) → ℕ → Rule
  turn gs i s ds = handler.act here (verdict_at s.own s.members.table (λ a. M.held_death here a s) gs sender i) s ds

  -- The rules of a message: its records in their order, and then its sender. What is left from a turn on
  abbrev pub ahead : List (W.Gossip Addr) → ℕ → Rule
  ahead gs zero m ds = M.and_more (handler.gossip here gs m ds) (sender_rule sender)
  ahead [] (suc i) m ds = M.quiet m ds
  ahead (g ∷ gs) (suc i) m ds = ahead gs i m ds

  sender_turn : (o : Option Addr) (m : M.Node Addr) (ds : List ℕ) → o ≡ sender → sender_rule o m ds ≡ turn [] 0 m ds
  unfolding verdict_at handler.admit handler.act handler.list_after handler.row_after handler.news_of
  sender_turn none m ds e = rw (sym e)
  sender_turn (some a) m ds e = rw (sym e)

  ahead-next : (gs : List (W.Gossip Addr)) (i : ℕ) → i ≤ length gs → (m : M.Node Addr) (ds : List ℕ) → ahead gs i m ds ≡ M.and_more (turn gs i m ds) (ahead gs (suc i))
  unfolding verdict_at handler.item
  ahead-next [] zero h m ds = quiet-more (sender_rule sender) m ds ∙ sym (more-quiet (sender_rule sender m ds)) ∙ ap (λ (x : Answer (M.Out Addr)). M.and_more x M.quiet) (sender_turn sender m ds refl)
  ahead-next [] (suc i) h m ds = absurd (not-suc-le-zero h)
  ahead-next (g ∷ gs) zero h m ds = more_assoc (handler.item here g.event m ds) (handler.gossip here gs) (sender_rule sender)
  ahead-next (g ∷ gs) (suc i) h m ds = ahead-next gs i (le_of_suc-le-suc h) m ds

  -- a turn that is refused gets through no more records, and one that is kept through one more
  none-through : (gs : List (W.Gossip Addr)) (i : ℕ) (s : M.Node Addr) (ds : List ℕ) (u : Refusal) → i ≤ length gs → turn gs i s ds ≡ refused u → handler.through here (drop i gs) s ds ≡ 0
  unfolding verdict_at handler.item
  none-through [] zero s ds u h e = refl
  none-through [] (suc i) s ds u h e = absurd (not-suc-le-zero h)
  none-through (g ∷ gs) zero s ds u h e = ap (λ (x : Answer (M.Out Addr)). handler.count_on here x (handler.through here gs)) e
  none-through (g ∷ gs) (suc i) s ds u h e = none-through gs i s ds u (le_of_suc-le-suc h) e

  one-through : (gs : List (W.Gossip Addr)) (i : ℕ) (s : M.Node Addr) (ds : List ℕ) (o : M.Out Addr) (rest : List ℕ) → i < length gs → turn gs i s ds ≡ done o rest
      → handler.through here (drop i gs) s ds ≡ suc (handler.through here (drop (suc i) gs) o.node rest)
  unfolding verdict_at handler.item
  one-through [] i s ds o rest h e = absurd (not-suc-le-zero h)
  one-through (g ∷ gs) zero s ds o rest h e = ap (λ (x : Answer (M.Out Addr)). handler.count_on here x (handler.through here gs)) e
  one-through (g ∷ gs) (suc i) s ds o rest h e = one-through gs i s ds o rest (le_of_suc-le-suc h) e

  ahead-over : (gs : List (W.Gossip Addr)) (i : ℕ) → length gs < i → (m : M.Node Addr) (ds : List ℕ) → ahead gs i m ds ≡ M.quiet m ds
  ahead-over gs zero h m ds = absurd (not-suc-le-zero h)
  ahead-over [] (suc i) h m ds = refl
  ahead-over (g ∷ gs) (suc i) h m ds = ahead-over gs i (le_of_suc-le-suc h) m ds

-- each turn keeps a node good
pub turn-keeps : (sender : Option Addr) (gs : List (W.Gossip Addr)) (i : ℕ) (s : M.Node Addr) (ds : List ℕ) → Good here s → every (valid_gossip here) gs ≡ true → calls.valid_option here sender ≡ true
    → After (λ o. Keeps here s o.node) (turn sender gs i s ds)
unfolding verdict_at handler.item handler.admit
turn-keeps none [] i s ds g v w = act-keeps here here_lawful handler.Skip s ds g tt
turn-keeps (some a) [] i s ds g v w = admit-keeps here here_lawful a s ds g w
turn-keeps sender (x ∷ gs) zero s ds g v w = item-keeps here here_lawful x.event s ds g (and_split (valid_gossip here x) (every (valid_gossip here) gs) v).0
turn-keeps sender (x ∷ gs) (suc i) s ds g v w = turn-keeps sender gs i s ds g (and_split (valid_gossip here x) (every (valid_gossip here) gs) v).1 w

-- as many records as were given
pub records-long : (rows : List Gossip) (given : ℕ) → Heeded rows given → length (records_of rows given) ≡ given
records-long rows given h = length-map (take given rows) to_gossip ∙ length-take-le given rows (omega (arith, h.long, h.few))

-- The verdict on a record, where D is read for a Joined alone; and on the sender behind them
module _ (own : Addr) (t : List (W.Member Addr)) (dead : Addr → Option ℕ) where
  judged-by : (e : W.Event Addr) → handler.judge here own t (death_for e dead) e ≡ handler.judge here own t (dead (W.parts_of here e).subject) e
  unfolding W.parts_of
  judged-by W.Nothing = refl
  judged-by (W.Joined f a n) = refl
  judged-by (W.Recovered f a n) = refl
  judged-by (W.Suspected f a n) = refl
  judged-by (W.Deceased f a n) = refl

  at_record : (gs : List (W.Gossip Addr)) (sender : Option Addr) (i : ℕ) (d : W.Gossip Addr) → i < length gs → handler.judge here own t (death_for (get_or gs i d).event dead) (get_or gs i d).event ≡ verdict_at own t dead gs sender i
  unfolding verdict_at
  at_record [] sender i d h = absurd (not-suc-le-zero h)
  at_record (g ∷ gs) sender zero d h = judged-by g.event
  at_record (g ∷ gs) sender (suc i) d h = at_record gs sender i d (le_of_suc-le-suc h)

  at_sender : (gs : List (W.Gossip Addr)) (sender : Option Addr) (i : ℕ) → length gs ≤ i → verdict_at own t dead [] sender 0 ≡ verdict_at own t dead gs sender i
  unfolding verdict_at
  at_sender [] none i h = refl
  at_sender [] (some a) i h = refl
  at_sender (g ∷ gs) sender zero h = absurd (not-suc-le-zero h)
  at_sender (g ∷ gs) sender (suc i) h = at_sender gs sender i (le_of_suc-le-suc h)

  module _ (rows : List Gossip) (given : ℕ) (h : Heeded rows given) (sender : Option Addr) (i : ℕ) where
    pub record_judged : i < given → (let e = to_event (get_or rows i no_gossip).event in handler.judge here own t (death_for e dead) e) ≡ verdict_at own t dead (records_of rows given) sender i
    record_judged k =
        ap (λ (g : W.Gossip Addr). handler.judge here own t (death_for g.event dead) g.event) (sym (get_or-map to_gossip (take given rows) i no_gossip ∙ ap to_gossip (get_or-take given rows i no_gossip k)))
        ∙ at_record (records_of rows given) sender i (to_gossip no_gossip) (omega (arith, records-long rows given h))

    pub sender_judged : given ≤ i → verdict_at own t dead [] sender 0 ≡ verdict_at own t dead (records_of rows given) sender i
    sender_judged k = at_sender (records_of rows given) sender i (omega (arith, records-long rows given h))

-- the events of a report, as the rules say them
abbrev said_in : Report → List (W.Gossip Addr)
said_in r = view_row to_gossip from_gossip r.events r.count

-- news is noted behind the others
module _ (r : Report) (row : PackedRow 65 no_gossip r.events r.count) (room : r.count < 65) where
  note_more : (w : handler.News Addr) (old : ℕ) → PackedRow 65 no_gossip (noted r w old).events (noted r w old).count × (said_in (noted r w old) ≡ said_in r ++ said_by w)
  note_more handler.Silent old = (row, sym (append-nil (said_in r)))
  note_more (handler.Emits k e) old =
      let g : Gossip = record { event = from_event e } in
      let l : List (W.Gossip Addr) = said_in r ++ (to_gossip g ∷ []) in
      let p : set r.events r.count g ≡ pack_row to_gossip from_gossip 65 no_gossip l = pack_more to_gossip from_gossip from-to_gossip 65 no_gossip r.events r.count g row room in
      let n : length l ≡ r.count + 1 = length-append (said_in r) (to_gossip g ∷ []) ∙ omega (arith, view_length to_gossip from_gossip from-to_gossip 65 no_gossip r.events r.count row) in
      let q : PackedRow 65 no_gossip (pack_row to_gossip from_gossip 65 no_gossip l) (length l) = packed_pack to_gossip from_gossip 65 no_gossip l (omega arith) in
      let v : view_row to_gossip from_gossip (pack_row to_gossip from_gossip 65 no_gossip l) (length l) ≡ l = view_pack to_gossip from_gossip to_from_gossip 65 no_gossip l in (
        rw (p, sym n) q,
        rw (p, sym n) (v ∙ ap (λ (y : W.Gossip Addr). said_in r ++ (y ∷ [])) (to_from_gossip (record { event = e }))),
      )

pub noted_few : (r : Report) (w : handler.News Addr) (old : ℕ) → (noted r w old).count ≤ r.count + 1
noted_few r handler.Silent old = omega arith
noted_few r (handler.Emits k e) old = omega arith

-- what was collected is counted
pub noted_collected : (r : Report) (w : handler.News Addr) (on : Bool) (h : List (W.Entry Addr)) → (noted r w (collects_for on w h)).collected ≡ r.collected + collects_for on w h
noted_collected r handler.Silent on h = omega arith
noted_collected r (handler.Emits k e) on h = refl

-- how far a message has been heard: after this much, `left` is what is left to do from the node and the draws that are left
pub record Sofar (all : Answer (M.Out Addr)) (left : Rule) (draws : List ℕ) (used : ℕ) (n : Node) (r : Report) : Type 0 where
  pub ready : Ready n
  pub row : PackedRow 65 no_gossip r.events r.count
  pub within : used ≤ length draws
  pub whole : all ≡ prepend (said_in r) r.collected (left (view_node n) (drop used draws))

abbrev pub unreported : Report
unreported = record { events = replicate 65 no_gossip; count = 0; collected = 0 }

-- the rules got through the records before i, and go on with the others
pub record Counted (gs : List (W.Gossip Addr)) (s : M.Node Addr) (draws : List ℕ) (used i : ℕ) (n : Node) : Type 0 where
  pub count : i ≤ length gs → handler.through here gs s draws ≡ i + handler.through here (drop i gs) (view_node n) (drop used draws)

-- the node that a kept turn left, read again
acted_view : (n : Node) {x : Answer (M.Out Addr)} {w : handler.News Addr} {old : ℕ} {m : Node} {draws : List ℕ} {next : ℕ} → After (λ o. Keeps here (view_node n) o.node) x → (a : Acted x w old m draws next)
    → view_node m ≡ a.out.node
acted_view n keeps a = ap view_node a.node ∙ nodes.view_pack a.out.node (given (rw a.is at keeps)).good.whole

module _ (sender : Option Addr) (gs : List (W.Gossip Addr)) (s : M.Node Addr) (draws : List ℕ) (used i : ℕ) (n : Node) (c : Counted gs s draws used i n) where
  -- where the rules stop
  pub counted_stops : i ≤ length gs → (u : Refusal) → turn sender gs i (view_node n) (drop used draws) ≡ refused u → handler.stops_at here gs s draws ≡ handler.cause_at i (length gs)
  unfolding handler.stops_at
  counted_stops h u e =
      let k : handler.through here gs s draws ≡ i = c.count h ∙ omega (arith, none-through sender gs i (view_node n) (drop used draws) u h e) in
      ap (λ (j : ℕ). handler.cause_at j (length gs)) k

  pub counted_next : (w : handler.News Addr) (old : ℕ) (m : Node) (next : ℕ) → After (λ o. Keeps here (view_node n) o.node) (turn sender gs i (view_node n) (drop used draws))
      → Acted (turn sender gs i (view_node n) (drop used draws)) w old m draws next → Counted gs s draws next (i + 1) m
  counted_next w old m next keeps a =
      record {
        count = λ h.
            let on : handler.through here (drop (suc i) gs) a.out.node a.rest ≡ handler.through here (drop (i + 1) gs) (view_node m) (drop next draws) =
            λ j. handler.through here (drop (sym (add-one i) j) gs) (sym (acted_view n keeps a) j) (sym a.left j) in
            c.count (omega (arith, h)) ∙ omega (arith, one-through sender gs i (view_node n) (drop used draws) a.out a.rest (omega (arith, h)) a.is, on);
      }

module _ (all : Answer (M.Out Addr)) (draws : List ℕ) where
  -- nothing is heard yet
  pub sofar_start : (n : Node) (left : Rule) → Ready n → all ≡ left (view_node n) draws → Sofar all left draws 0 n unreported
  sofar_start n left r e =
      record {
        ready = r;
        row = packed_pack to_gossip from_gossip 65 no_gossip [] (omega arith);
        within = omega arith;
        whole = e ∙ sym (prepend_nil (left (view_node n) draws));
      }

  module _ (n : Node) (r : Report) (used : ℕ) (rule left : Rule) (s : Sofar all (λ m ds. M.and_more (rule m ds) left) draws used n r) where
    -- the rule was refused, and so is the whole
    pub sofar_refused : (u : Refusal) → rule (view_node n) (drop used draws) ≡ refused u → all ≡ refused u
    unfolding M.and_more
    sofar_refused u e = s.whole ∙ ap (λ (x : Answer (M.Out Addr)). prepend (said_in r) r.collected (M.and_more x left)) e

    -- the rule was kept
    pub sofar_more : (w : handler.News Addr) (old : ℕ) (m : Node) (next : ℕ) → (noted r w old).collected ≡ r.collected + old → After (λ o. Keeps here (view_node n) o.node) (rule (view_node n) (drop used draws)) → r.count < 65
        → Acted (rule (view_node n) (drop used draws)) w old m draws next → Sofar all left draws next m (noted r w old)
    unfolding M.and_more
    sofar_more w old m next counts keeps room a =
        let k = given (rw a.is at keeps) in
        let b = note_more r s.row room w old in
        let seen : view_node (pack_node a.out.node) ≡ a.out.node = nodes.view_pack a.out.node k.good.whole in
        let told = ap (λ (l : List (W.Gossip Addr)). said_in r ++ l) a.said ∙ sym b.1 in
        let taken = ap (λ (c : ℕ). r.collected + c) a.collected ∙ sym counts in
        rw a.node
        (record {
          ready = ready_pack a.out.node k.good;
          row = b.0;
          within = a.within;
          whole =
              s.whole
              ∙ ap (λ (x : Answer (M.Out Addr)). prepend (said_in r) r.collected (M.and_more x left)) a.is
              ∙ prepend-more (said_in r) a.out.said r.collected a.out.collected (left a.out.node a.rest)
              ∙ (λ i. prepend (told i) (taken i) (left a.out.node a.rest))
              ∙ (λ i. prepend (said_in (noted r w old)) (noted r w old).collected (left (sym seen i) (sym a.left i)));
        })

  -- all is heard
  pub sofar_ends : (n₀ n : Node) (at : Cause) (r : Report) (used : ℕ) → Sofar all M.quiet draws used n r → record { node = n; events = r.events; reported = r.count; collected = r.collected; drew = Used used; at = Sender } ≡ heard_of n₀ draws at all
  unfolding M.quiet
  sofar_ends n₀ n at r used s =
      let e : said_in r ++ [] ≡ said_in r = append-nil (said_in r) in
      let ev : r.events ≡ pad_to 65 no_gossip (map from_gossip (said_in r ++ [])) = sym (ap (λ (l : List (W.Gossip Addr)). pad_to 65 no_gossip (map from_gossip l)) e ∙ pack_view to_gossip from_gossip from-to_gossip 65 no_gossip r.events r.count s.row) in
      let rp : r.count ≡ length (said_in r ++ []) = sym (ap length e ∙ view_length to_gossip from_gossip from-to_gossip 65 no_gossip r.events r.count s.row) in
      let us : used ≡ length draws - length (drop used draws) = omega (arith, length-drop used draws, s.within) in
      let cl : r.collected ≡ r.collected + 0 = omega arith in
      rw s.whole (λ i. record { node = sym (ready_is n s.ready) i; events = ev i; reported = rp i; collected = cl i; drew = Used (us i); at = Sender })

module _ (sender : Option Addr) (gs : List (W.Gossip Addr)) (all : Answer (M.Out Addr)) (draws : List ℕ) (used i : ℕ) (n : Node) (r : Report) (s : Sofar all (ahead sender gs i) draws used n r) where
  pub sofar_next : i ≤ length gs → Sofar all (λ m ds. M.and_more (turn sender gs i m ds) (ahead sender gs (i + 1))) draws used n r
  sofar_next k =
      record {
        ready = s.ready;
        row = s.row;
        within = s.within;
        whole = s.whole
            ∙ ap (prepend (said_in r) r.collected) (ahead-next sender gs i k (view_node n) (drop used draws) ∙ ap (λ (j : ℕ). M.and_more (turn sender gs i (view_node n) (drop used draws)) (ahead sender gs j)) (sym (add-one i)));
      }

  pub sofar_over : length gs < i → Sofar all M.quiet draws used n r
  sofar_over k = record { ready = s.ready; row = s.row; within = s.within; whole = s.whole ∙ ap (prepend (said_in r) r.collected) (ahead-over sender gs i k (view_node n) (drop used draws)) }
