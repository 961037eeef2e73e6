-- The records of a message, one after the other: what is left of them gives the moments of the whole.
-- Assumes nothing.
use Rattle.std.proofs.Math.Path.{◌≡◌, ap, sym}
use Rattle.std.specs.Prelude.{refl, Bool, true, false, ℕ, zero, suc, ◌+◌, ◌-◌, ◌≤◌, ◌<◌, get_or, set, take}
use Rattle.std.proofs.Common.{◌∙◌, arith, add-one, not-suc-le-zero, le_of_suc-le-suc, drop-cons, get_or-take}
use mathlib.Core.List.{List, [], ◌∷◌, ◌++◌, append-nil, append_assoc}
use Rattle.std.proofs.Math.ListN.{length, drop, length-append, length-drop, drop_of_length-le, get_or-map}
use Rattle.std.proofs.lemmas.List.{length-replicate}
use Rattle.std.proofs.Math.Seq.{take-append_seam, take-length, get_or-append_seam}
use Rattle.model.specs.declared.Refusal.{Refusal}
use Rattle.model.specs.declared.Drew.{Drew}
use Rattle.model.specs.declared.Drew.TheVariants.{Used, Refused}
use Rattle.model.specs.Rows.{pad_to, every}
use Rattle.model.specs.Answers.{Answer, done, refused}
use Rattle.laws.specs.Pad.{pad_step}
use Rattle.laws.specs.After as laws-after
use Rattle.laws.specs.Bools.{and_split, and_join}
use Rattle.laws_rules.specs.Keeps.{item-keeps}
use Rattle.laws_list.specs.Draws.{Leaves, nothing, leaves_all, leaves-when, leaves_then, rest_is}
use Rattle.laws_node.specs.Good.{Good}
use Rattle.address.specs.Here.{Addr, here, here_lawful}
use Rattle.model.specs.Words as W
use Rattle.model.specs.Node as M
use Rattle.model.specs.Sound.{valid_gossip}
use Rattle.model.specs.Calls as calls
use Rattle.model.specs.Handler as handler
use Rattle.history.specs.Moments.{Told, moment_of, moment, trace_then, trace_gossip}
use Rattle.history.specs.Ledger.{carried}
use Rattle.history.proofs.Rules.{item_did}
use Rattle.types.specs.declared.Gossip.{Gossip}
use Rattle.types.specs.declared.Parts.{Parts}
use Rattle.types.specs.Views.{to_event, to_gossip, to_optional, from_parts, no_gossip}
use Rattle.node.specs.declared.Node.{Node}
use Rattle.node.specs.Views.{view_node, pack_node}
use Rattle.node.specs.Rows.{Ready, ready_pack, view_pack}
use Rattle.node.specs.Parts.{ready_is}
use Rattle.message.specs.declared.gossip.Lent.{Lent}
use Rattle.message.specs.Views.{Heeded, records_of}
use Rattle.message.specs.Drawn.{list_leaves}
use Rattle.message.specs.Hearing.{prepend, prepend_nil, prepend-more, more-quiet, records-long}
use Rattle.accounts.specs.declared.Change.{Change}
use Rattle.accounts.specs.declared.Account.{Account}
use Rattle.accounts.specs.declared.Turn.{Turn}
use Rattle.accounts.specs.declared.Walk.{Walk}
use Rattle.accounts.specs.Changes.{whom, change_of, changes, between, no_change, account_of}
use Rattle.accounts.specs.Turns.{only_record, rule_of, turn_of, pushed_of, between_is}

-- what a walk gives: the changes of the moments, and where it stands
abbrev pub walked_to : Node → List ℕ → List Change → Answer (M.Out Addr) → Walk
walked_to n ds cs (refused u) = record { node = n; used = 0; is_whole = false; account = account_of cs }
walked_to n ds cs (done o rest) = record { node = pack_node o.node; used = length ds - length rest; is_whole = true; account = account_of cs }

abbrev pub walk_of : Node → List ℕ → List (W.Gossip Addr) → Walk
walk_of n ds gs = walked_to n ds (changes (trace_gossip here gs (view_node n) ds)) (handler.gossip here gs (view_node n) ds)

-- one more change stands behind the others
pub push_is : (cs : List Change) (c : Change) → length cs < 65 → pushed_of (account_of cs) c ≡ account_of (cs ++ (c ∷ []))
push_is cs c h =
    let l = cs ++ (c ∷ []) in
    let n : length l ≡ length cs + 1 = length-append cs (c ∷ []) in
    let all : suc (length cs) ≡ length l = omega (arith, n) in
    let row : set (pad_to 65 no_change cs) (length cs) c ≡ pad_to 65 no_change l =
    ap (λ (x : List Change). set (pad_to 65 no_change x) (length cs) c) (sym (take-append_seam cs (c ∷ [])))
    ∙ pad_step 65 (length cs) no_change c l (omega (arith, n)) (omega (arith, n)) (get_or-append_seam cs c [] no_change)
    ∙ ap (λ (k : ℕ). pad_to 65 no_change (take k l)) all
    ∙ ap (pad_to 65 no_change) (take-length l) in
    λ i. record { changes = row i; count = sym n i }

-- what a rule leaves of the draws is the rest of them
tell-leaves : (w : handler.News Addr) (s : M.Node Addr) (ds : List ℕ) → Leaves ds (handler.tell here w s ds)
unfolding M.quiet M.emit M.pushed
tell-leaves handler.Silent s ds = leaves_all ds
tell-leaves (handler.Emits k e) s ds = leaves_then (leaves-when (λ _. nothing) (λ _. leaves_all ds)) (λ d rest. leaves_all rest)

pub act-leaves : (v : handler.Verdict Addr) (s : M.Node Addr) (ds : List ℕ) → Leaves ds (handler.act here v s ds)
unfolding handler.act
act-leaves v s ds = leaves_then (list_leaves here v s.members ds) (λ m rest. tell-leaves (handler.news_of here v s.own) _ rest)

pub item-leaves : (e : W.Event Addr) (s : M.Node Addr) (ds : List ℕ) → Leaves ds (handler.item here e s ds)
unfolding handler.item
item-leaves e s ds = act-leaves _ s ds

-- how far the records have run: those before i did `front`, and those from i on give the rest
pub record Going (gs : List (W.Gossip Addr)) (s : M.Node Addr) (ds : List ℕ) (i used : ℕ) (n : Node) (x : Account) : Type 0 where
  pub ready : Ready n
  pub within : used ≤ length ds
  pub front : List Change
  pub is : x ≡ account_of front
  pub long : length front ≡ i
  pub said : List (W.Gossip Addr)
  pub old : ℕ
  pub seen : changes (trace_gossip here gs s ds) ≡ front ++ changes (trace_gossip here (drop i gs) (view_node n) (drop used ds))
  pub left : handler.gossip here gs s ds ≡ prepend said old (handler.gossip here (drop i gs) (view_node n) (drop used ds))

pub going_start : (gs : List (W.Gossip Addr)) (ds : List ℕ) (n : Node) → Ready n → Going gs (view_node n) ds 0 0 n (account_of [])
going_start gs ds n r =
    record { ready = r; within = omega arith; front = []; is = refl; long = refl; said = []; old = 0; seen = refl; left = sym (prepend_nil (handler.gossip here gs (view_node n) ds)) }

-- a rule that was kept, as the code has it
pub record Ran (x : Answer (M.Out Addr)) (n : Node) (a : Addr) (k : ℕ) (draws : List ℕ) (used more : ℕ) (t : Turn) : Type 0 where
  pub out : M.Out Addr
  pub rest : List ℕ
  pub is : x ≡ done out rest
  pub node : t.node ≡ pack_node out.node
  pub change : t.change ≡ between (view_node n).members.table out.node.members.table a k
  pub next : drop (used + more) draws ≡ rest
  pub within : used + more ≤ length draws

is_used : Drew → ℕ
is_used (Used k) = 1
is_used (Refused r) = 0

module _ (n : Node) (a : Addr) (k : ℕ) (draws : List ℕ) (used : ℕ) (h : used ≤ length draws) (t : Turn) where
  pub turn-ran : (x : Answer (M.Out Addr)) (more : ℕ) → Leaves (drop used draws) x → t ≡ turn_of n a k (drop used draws) x → t.drew ≡ Used more → Ran x n a k draws used more t
  unfolding is_used
  turn-ran (refused u) more l e d = let z : ◌≡◌ {A = ℕ} 0 1 = ap is_used (ap (λ (v : Turn). v.drew) (sym e) ∙ d) in absurd (omega arith)
  turn-ran (done o rest) more l e d =
      let z : ◌≡◌ {A = Drew} (Used more) (Used (length (drop used draws) - length rest)) = sym d ∙ ap (λ (v : Turn). v.drew) e in
      let q : more ≡ length (drop used draws) - length rest = cc in
      let m : more ≡ length draws - used - length rest = omega (arith, q, length-drop used draws) in
      record {
        out = o;
        rest = rest;
        is = refl;
        node = ap (λ (v : Turn). v.node) e;
        change = ap (λ (v : Turn). v.change) e;
        next = ap (λ (j : ℕ). drop (used + j) draws) m ∙ rest_is draws used h l;
        within = omega (arith, m);
      }

  pub turn-refused : (x : Answer (M.Out Addr)) (u : Refusal) → t ≡ turn_of n a k (drop used draws) x → t.drew ≡ Refused u → x ≡ refused u
  unfolding is_used
  turn-refused (refused w) u e d = let z : ◌≡◌ {A = Drew} (Refused w) (Refused u) = ap (λ (v : Turn). v.drew) (sym e) ∙ d in let q : w ≡ u = cc in ap refused q
  turn-refused (done o rest) u e d = let z : ◌≡◌ {A = ℕ} 1 0 = ap is_used (ap (λ (v : Turn). v.drew) (sym e) ∙ d) in absurd (omega arith)

module _ (gs : List (W.Gossip Addr)) (s : M.Node Addr) (ds : List ℕ) (i used : ℕ) (n : Node) (x : Account) (g : Going gs s ds i used n x) where
  module _ (h : i < length gs) where
    -- the record whose turn it is, and its rule
    abbrev pub due : W.Gossip Addr
    due = get_or gs i W.nothing

    abbrev pub rule : Answer (M.Out Addr)
    rule = handler.item here due.event (view_node n) (drop used ds)

    seen-due : changes (trace_gossip here gs s ds) ≡ g.front ++ changes (trace_gossip here (due ∷ drop (suc i) gs) (view_node n) (drop used ds))
    seen-due = g.seen ∙ ap (λ (l : List (W.Gossip Addr)). g.front ++ changes (trace_gossip here l (view_node n) (drop used ds))) (drop-cons gs i W.nothing h)

    left-due : handler.gossip here gs s ds ≡ prepend g.said g.old (M.and_more rule (handler.gossip here (drop (suc i) gs)))
    left-due = g.left ∙ ap (λ (l : List (W.Gossip Addr)). prepend g.said g.old (handler.gossip here l (view_node n) (drop used ds))) (drop-cons gs i W.nothing h)

    -- what a rule's answer adds to the moments
    abbrev added_by : Answer (M.Out Addr) → List Change
    added_by y = changes (moment (Told due.event) (view_node n) y ++ trace_then y (trace_gossip here (drop (suc i) gs)))

    pub going_refused : (u : Refusal) → rule ≡ refused u → (changes (trace_gossip here gs s ds) ≡ g.front) × (handler.gossip here gs s ds ≡ refused u)
    unfolding M.and_more
    going_refused u e = (
      seen-due ∙ ap (λ (y : Answer (M.Out Addr)). g.front ++ added_by y) e ∙ append-nil g.front,
      left-due ∙ ap (λ (y : Answer (M.Out Addr)). prepend g.said g.old (M.and_more y (handler.gossip here (drop (suc i) gs)))) e,
    )

    pub going_next : (o : M.Out Addr) (rest : List ℕ) (m : Node) (c : Change) (next : ℕ) → rule ≡ done o rest → Good here o.node → m ≡ pack_node o.node
        → c ≡ change_of (moment_of (Told due.event) (view_node n) o) → drop next ds ≡ rest → next ≤ length ds → length gs ≤ 64 → Going gs s ds (i + 1) next m (pushed_of x c)
    unfolding M.and_more
    going_next o rest m c next e good is change on within few =
        let back : view_node m ≡ o.node = ap view_node is ∙ view_pack o.node good.whole in
        let d = change_of (moment_of (Told due.event) (view_node n) o) in
        let tail : List Change = changes (trace_gossip here (drop (suc i) gs) o.node rest) in
        record {
          ready = rw is (ready_pack o.node good);
          within = within;
          front = g.front ++ (c ∷ []);
          is = ap (λ (y : Account). pushed_of y c) g.is ∙ push_is g.front c (omega (arith, g.long));
          long = length-append g.front (c ∷ []) ∙ omega (arith, g.long);
          said = g.said ++ o.said;
          old = g.old + o.collected;
          seen =
              seen-due
              ∙ ap (λ (y : Answer (M.Out Addr)). g.front ++ added_by y) e
              ∙ ap (λ (y : Change). g.front ++ y ∷ tail) (sym change)
              ∙ sym (append_assoc g.front (c ∷ []) tail)
              ∙ (λ j. (g.front ++ (c ∷ [])) ++ changes (trace_gossip here (drop (sym (add-one i) j) gs) (sym back j) (sym on j)));
          left =
              left-due
              ∙ ap (λ (y : Answer (M.Out Addr)). prepend g.said g.old (M.and_more y (handler.gossip here (drop (suc i) gs)))) e
              ∙ prepend-more g.said o.said g.old o.collected (handler.gossip here (drop (suc i) gs) o.node rest)
              ∙ (λ j. prepend (g.said ++ o.said) (g.old + o.collected) (handler.gossip here (drop (sym (add-one i) j) gs) (sym back j) (sym on j)));
        }

  -- all have run
  pub going_over : length gs ≤ i → (n₀ : Node) → s ≡ view_node n₀ → record { node = n; used = used; is_whole = true; account = x } ≡ walk_of n₀ ds gs
  unfolding M.quiet
  going_over h n₀ e =
      let over : drop i gs ≡ [] = drop_of_length-le gs h in
      let seen : changes (trace_gossip here gs s ds) ≡ g.front = g.seen ∙ ap (λ (l : List (W.Gossip Addr)). g.front ++ changes (trace_gossip here l (view_node n) (drop used ds))) over ∙ append-nil g.front in
      let left : handler.gossip here gs s ds ≡ done (record { node = view_node n; said = g.said ++ []; collected = g.old + 0 }) (drop used ds) =
      g.left ∙ ap (λ (l : List (W.Gossip Addr)). prepend g.said g.old (handler.gossip here l (view_node n) (drop used ds))) over in
      let us : used ≡ length ds - length (drop used ds) = omega (arith, length-drop used ds, g.within) in
      (λ i. record { node = sym (ready_is n g.ready) i; used = us i; is_whole = true; account = (g.is ∙ ap account_of (sym seen)) i })
      ∙ (λ j. walked_to n₀ ds (changes (trace_gossip here gs s ds)) (sym left j))
      ∙ ap (λ (m : M.Node Addr). walked_to n₀ ds (changes (trace_gossip here gs m ds)) (handler.gossip here gs m ds)) e

  -- a record was refused
  pub going_stopped : (u : Refusal) → (changes (trace_gossip here gs s ds) ≡ g.front) × (handler.gossip here gs s ds ≡ refused u) → (n₀ : Node) → s ≡ view_node n₀
      → record { node = n₀; used = 0; is_whole = false; account = x } ≡ walk_of n₀ ds gs
  going_stopped u p n₀ e =
      (λ j. record { node = n₀; used = 0; is_whole = false; account = (g.is ∙ ap account_of (sym p.0)) j })
      ∙ (λ j. walked_to n₀ ds (changes (trace_gossip here gs s ds)) (sym p.1 j))
      ∙ ap (λ (m : M.Node Addr). walked_to n₀ ds (changes (trace_gossip here gs m ds)) (handler.gossip here gs m ds)) e

-- a rule on one record is that record's rule
pub one_record : (g : Gossip) (n : Node) (ds : List ℕ) → rule_of (only_record g) n ds ≡ handler.item here (to_event g.event) (view_node n) ds
one_record g n ds = more-quiet (M.and_more (handler.item here (to_event g.event) (view_node n) ds) (handler.gossip here [])) ∙ more-quiet (handler.item here (to_event g.event) (view_node n) ds)

-- the part of a row from a place on
pub part_is : (used : ℕ) (ds : List ℕ) → take (length ds - used) (drop used ds) ≡ drop used ds
part_is used ds = ap (λ (k : ℕ). take k (drop used ds)) (sym (length-drop used ds)) ∙ take-length (drop used ds)

every-at : {B : Type 0} (f : B → Bool) (l : List B) (i : ℕ) (d : B) → i < length l → every f l ≡ true → f (get_or l i d) ≡ true
every-at f [] i d h e = absurd (not-suc-le-zero h)
every-at f (x ∷ l) zero d h e = (and_split (f x) (every f l) e).0
every-at f (x ∷ l) (suc i) d h e = every-at f l i d (le_of_suc-le-suc h) (and_split (f x) (every f l) e).1

-- the record at a place of the row
module _ (rows : List Gossip) (given₀ : ℕ) (h : Heeded rows given₀) (i : ℕ) (k : i < given₀) where
  abbrev gs₀ : List (W.Gossip Addr)
  gs₀ = records_of rows given₀

  abbrev g₀ : Gossip
  g₀ = get_or rows i no_gossip

  in_row : i < length gs₀
  in_row = omega (arith, k, records-long rows given₀ h)

  due_is : get_or gs₀ i W.nothing ≡ to_gossip g₀
  due_is = get_or-map to_gossip (take given₀ rows) i no_gossip ∙ ap to_gossip (get_or-take given₀ rows i no_gossip k)

  valid₀ : valid_gossip here (to_gossip g₀) ≡ true
  valid₀ = ap (valid_gossip here) (sym due_is) ∙ every-at (valid_gossip here) gs₀ i W.nothing in_row h.valid

  -- it can be run by itself
  pub record_heeded : (l : Lent) → l ≡ only_record g₀ → Heeded l.rows l.given × (calls.valid_option here (to_optional l.sender) ≡ true)
  record_heeded l e = rw e (record { long = length-replicate 64 g₀; few = omega arith; valid = and_join valid₀ refl }, refl)

  module _ (s : M.Node Addr) (ds : List ℕ) (used : ℕ) (n : Node) (x : Account) (go : Going gs₀ s ds i used n x) (p : Parts) (l : Lent) (t : Turn)
      (is-parts : p ≡ from_parts (W.parts_of here (to_event g₀.event))) (is-lent : l ≡ only_record g₀)
      (is : t ≡ turn_of n p.subject p.number (take (length ds - used) (drop used ds)) (rule_of l n (take (length ds - used) (drop used ds)))) where
    abbrev e₀ : W.Event Addr
    e₀ = to_event g₀.event

    abbrev a₀ : Addr
    a₀ = whom (Told e₀)

    abbrev k₀ : ℕ
    k₀ = carried here a₀ (Told e₀)

    abbrev x₀ : Answer (M.Out Addr)
    x₀ = handler.item here e₀ (view_node n) (drop used ds)

    turned : t ≡ turn_of n a₀ k₀ (drop used ds) x₀
    turned =
        is
        ∙ (λ j. let part = part_is used ds j in turn_of n (is-parts j).subject (is-parts j).number part (rule_of (is-lent j) n part))
        ∙ ap (turn_of n a₀ k₀ (drop used ds)) (one_record g₀ n (drop used ds))

    rule_is : rule gs₀ s ds i used n x go in_row ≡ x₀
    rule_is = ap (λ (y : W.Gossip Addr). handler.item here y.event (view_node n) (drop used ds)) due_is

    ran : (more : ℕ) → t.drew ≡ Used more → Ran x₀ n a₀ k₀ ds used more t
    ran more d = turn-ran n a₀ k₀ ds used go.within t x₀ more (item-leaves e₀ (view_node n) (drop used ds)) turned d

    -- how many draws it used
    pub record_within : (more : ℕ) → t.drew ≡ Used more → used + more ≤ length ds
    record_within more d = (ran more d).within

    -- it was kept: the walk goes on behind it
    pub record_next : (more : ℕ) → t.drew ≡ Used more → Going gs₀ s ds (i + 1) (used + more) t.node (pushed_of x t.change)
    record_next more d =
        let r = ran more d in
        let did = laws-after.given (rw r.is at (item_did here here_lawful a₀ e₀ (view_node n) (drop used ds) go.ready.good.whole)) in
        let good = (laws-after.given (rw r.is at (item-keeps here here_lawful e₀ (view_node n) (drop used ds) go.ready.good valid₀))).good in
        going_next gs₀ s ds i used n x go in_row r.out r.rest t.node t.change (used + more) (rule_is ∙ r.is) good r.node
        (r.change ∙ between_is (Told e₀) (view_node n) r.out did ∙ ap (λ (y : W.Gossip Addr). change_of (moment_of (Told y.event) (view_node n) r.out)) (sym due_is))
        r.next r.within (omega (arith, h.few, records-long rows given₀ h))

    -- it was refused: the walk ends with those before it
    pub record_stops : (u : Refusal) → t.drew ≡ Refused u → (n₀ : Node) → s ≡ view_node n₀ → record { node = n₀; used = 0; is_whole = false; account = x } ≡ walk_of n₀ ds gs₀
    record_stops u d n₀ e =
        going_stopped gs₀ s ds i used n x go u (going_refused gs₀ s ds i used n x go in_row u (rule_is ∙ turn-refused n a₀ k₀ ds used go.within t x₀ u turned d)) n₀ e
