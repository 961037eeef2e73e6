-- Behind the records of a message its sender comes in, if it is to.
-- Assumes nothing.
use Rattle.std.specs.Prelude.{◌≡◌, refl, true, false, List, [], ◌∷◌, ◌++◌, ℕ, ◌-◌, ◌≤◌, ◌<◌, length, take, drop}
use Rattle.std.proofs.Common.{ap, sym, ◌∙◌, append-nil, append_assoc, arith, length-drop}
use Rattle.std.proofs.Math.Option.{Option, none, some}
use Rattle.std.proofs.lemmas.List.{length-replicate}
use Rattle.model.specs.declared.Refusal.{Refusal}
use Rattle.model.specs.declared.Drew.TheVariants.{Used, Refused}
use Rattle.model.specs.Rows.{one}
use Rattle.model.specs.Answers.{Answer, done, refused}
use Rattle.laws.specs.After as laws-after
use Rattle.laws.specs.After.{After, gives, halts}
use Rattle.laws_list.specs.Draws.{Leaves, leaves, leaves_all, leaves_then}
use Rattle.laws_node.specs.Good.{Good}
use Rattle.laws_rules.specs.Keeps.{Keeps, gossip-keeps}
use Rattle.address.specs.Here.{Addr, here, here_lawful}
use Rattle.model.specs.Words as W
use Rattle.model.specs.Node as M
use Rattle.model.specs.Calls as calls
use Rattle.model.specs.Handler as handler
use Rattle.history.specs.Moments.{Told, Sender, Moment, moment_of, moment, trace_then, trace_gossip}
use Rattle.history.proofs.Rules.{admit_did}
use Rattle.types.specs.declared.Gossip.{Gossip}
use Rattle.types.specs.Views.{to_optional, no_gossip}
use Rattle.node.specs.declared.Node.{Node}
use Rattle.node.specs.Views.{view_node, pack_node}
use Rattle.node.specs.Rows.{Ready, ready_pack, view_pack}
use Rattle.message.specs.declared.gossip.Lent.{Lent}
use Rattle.message.specs.Views.{Heeded, records_of}
use Rattle.message.specs.Hearing.{prepend_nil, records-long}
use Rattle.accounts.specs.declared.Change.{Change}
use Rattle.accounts.specs.declared.Account.{Account}
use Rattle.accounts.specs.declared.Turn.{Turn}
use Rattle.accounts.specs.declared.Walk.{Walk}
use Rattle.accounts.specs.Changes.{placed, change_of, changes, account_of}
use Rattle.accounts.specs.Turns.{only_sender, rule_of, turn_of, pushed_of, between_is}
use Rattle.accounts.specs.Walking.{walk_of, walked_to, push_is, part_is, item-leaves, act-leaves, turn-ran, turn-refused}

-- the moment of a sender that is to come in, if there is one
abbrev pub trace_sender : Option Addr → M.Node Addr → List ℕ → List (Moment Addr)
trace_sender none s ds = []
trace_sender (some a) s ds = moment (Sender a) s (handler.admit here a s ds)

-- the changes of a message's records and its sender
abbrev pub heard_changes : List (W.Gossip Addr) → Option Addr → M.Node Addr → List ℕ → List Change
heard_changes gs o s ds = changes (trace_gossip here gs s ds) ++ changes (trace_then (handler.gossip here gs s ds) (trace_sender o))

pub changes-append : (l m : List (Moment Addr)) → changes (l ++ m) ≡ changes l ++ changes m
changes-append [] m = refl
changes-append (x ∷ l) m = ap (λ (y : List Change). placed x.deed (change_of x) ++ y) (changes-append l m) ∙ sym (append_assoc (placed x.deed (change_of x)) (changes l) (changes m))

-- as many as records at most
pub few_changes : (gs : List (W.Gossip Addr)) (s : M.Node Addr) (ds : List ℕ) → length (changes (trace_gossip here gs s ds)) ≤ length gs
few_changes [] s ds = omega arith
few_changes (g ∷ gs) s ds =
    elim (handler.item here g.event s ds) as (λ x. length (changes (moment (Told g.event) s x ++ trace_then x (trace_gossip here gs))) ≤ length (g ∷ gs)) [
      | refused u ↦ omega arith
      | done o rest ↦ omega (arith, few_changes gs o.node rest)
    ]

gossip-leaves : (gs : List (W.Gossip Addr)) (s : M.Node Addr) (ds : List ℕ) → Leaves ds (handler.gossip here gs s ds)
unfolding M.quiet M.and_more
gossip-leaves [] s ds = leaves_all ds
gossip-leaves (g ∷ gs) s ds = leaves_then (item-leaves g.event s ds) (λ o rest. leaves_then (gossip-leaves gs o.node rest) (λ p rest₂. leaves_all rest₂))

admit-leaves : (a : Addr) (s : M.Node Addr) (ds : List ℕ) → Leaves ds (handler.admit here a s ds)
unfolding handler.admit
admit-leaves a s ds = act-leaves _ s ds

left_is : (ds : List ℕ) {o : M.Out Addr} (rest : List ℕ) → Leaves ds (done o rest) → rest ≡ drop (length ds - length rest) ds
left_is ds rest (leaves u h e) =
    let m : length rest ≡ length ds - u = ap length e ∙ length-drop u ds in
    let n : u ≡ length ds - length rest = omega (arith, m) in
    e ∙ ap (λ (k : ℕ). drop k ds) n

-- a rule of the sender alone
one_sender : (a : Addr) (n : Node) (ds : List ℕ) → rule_of (only_sender a) n ds ≡ handler.admit here a (view_node n) ds
unfolding M.and_more M.quiet
one_sender a n ds = prepend_nil (handler.admit here a (view_node n) ds)

pub sender_heeded : (a : Addr) → here.valid a ≡ true → (l : Lent) → l ≡ only_sender a → Heeded l.rows l.given × (calls.valid_option here (to_optional l.sender) ≡ true)
sender_heeded a v l e = rw e (record { long = length-replicate 64 no_gossip; few = omega arith; valid = refl }, v)

-- what a walk that was made tells
module _ (n : Node) (r : Ready n) (rows : List Gossip) (given₀ : ℕ) (h : Heeded rows given₀) (ds : List ℕ) (w : Walk) (is : w ≡ walk_of n ds (records_of rows given₀)) where
  abbrev gs : List (W.Gossip Addr)
  gs = records_of rows given₀

  abbrev cs : List Change
  cs = changes (trace_gossip here gs (view_node n) ds)

  pub walked_account : w.account ≡ account_of cs
  walked_account = by (handler.gossip here gs (view_node n) ds) is
    where
      by : (x : Answer (M.Out Addr)) → w ≡ walked_to n ds cs x → w.account ≡ account_of cs
      by (refused u) e = ap (λ (y : Walk). y.account) e
      by (done o rest) e = ap (λ (y : Walk). y.account) e

  -- stopped by a refusal: nothing follows
  pub walked_stopped : w.is_whole ≡ false → (o : Option Addr) → w.account ≡ account_of (heard_changes gs o (view_node n) ds)
  walked_stopped q o = walked_account ∙ by (handler.gossip here gs (view_node n) ds) is
    where
      by : (x : Answer (M.Out Addr)) → w ≡ walked_to n ds cs x → account_of cs ≡ account_of (cs ++ changes (trace_then x (trace_sender o)))
      by (refused u) e = ap account_of (sym (append-nil cs))
      by (done p rest) e = let z : ◌≡◌ {A = ℕ} 0 1 = ap one (sym q ∙ ap (λ (y : Walk). y.is_whole) e) in absurd (omega arith)

  -- nobody is to come in
  pub walked_alone : w.account ≡ account_of (heard_changes gs none (view_node n) ds)
  walked_alone = walked_account ∙ by (handler.gossip here gs (view_node n) ds)
    where
      by : (x : Answer (M.Out Addr)) → account_of cs ≡ account_of (cs ++ changes (trace_then x (trace_sender none)))
      by (refused u) = ap account_of (sym (append-nil cs))
      by (done p rest) = ap account_of (sym (append-nil cs))

  -- all records were kept: where the walk stands
  pub record Stands : Type 0 where
    pub out : M.Out Addr
    pub rest : List ℕ
    pub is-done : handler.gossip here gs (view_node n) ds ≡ done out rest
    pub node : w.node ≡ pack_node out.node
    pub good : Good here out.node
    pub left : drop w.used ds ≡ rest
    pub within : w.used ≤ length ds

  pub walked_whole : w.is_whole ≡ true → Stands
  walked_whole q = by (handler.gossip here gs (view_node n) ds) refl is (gossip-leaves gs (view_node n) ds) (gossip-keeps here here_lawful gs (view_node n) ds r.good h.valid)
    where
      by : (x : Answer (M.Out Addr)) → handler.gossip here gs (view_node n) ds ≡ x → w ≡ walked_to n ds cs x → Leaves ds x → After (λ (o : M.Out Addr). Keeps here (view_node n) o.node) x → Stands
      by (refused u) f e l k = let z : ◌≡◌ {A = ℕ} 0 1 = ap one (ap (λ (y : Walk). y.is_whole) (sym e) ∙ q) in absurd (omega arith)
      by (done o rest) f e l (gives k) =
          let u : w.used ≡ length ds - length rest = ap (λ (y : Walk). y.used) e in
          record {
            out = o;
            rest = rest;
            is-done = f;
            node = ap (λ (y : Walk). y.node) e;
            good = k.good;
            left = ap (λ (i : ℕ). drop i ds) u ∙ sym (left_is ds rest l);
            within = omega (arith, u);
          }

  pub walked_ready : w.is_whole ≡ true → Ready w.node
  walked_ready q = let s = walked_whole q in rw s.node (ready_pack s.out.node s.good)

  -- and then the sender
  module _ (q : w.is_whole ≡ true) (a : Addr) (v : here.valid a ≡ true) (l : Lent) (t : Turn) (is-lent : l ≡ only_sender a)
      (ran : t ≡ turn_of w.node a 0 (take (length ds - w.used) (drop w.used ds)) (rule_of l w.node (take (length ds - w.used) (drop w.used ds)))) where
    abbrev s₀ : Stands
    s₀ = walked_whole q

    abbrev x₀ : Answer (M.Out Addr)
    x₀ = handler.admit here a (view_node w.node) (drop w.used ds)

    view₀ : view_node w.node ≡ s₀.out.node
    view₀ = ap view_node s₀.node ∙ view_pack s₀.out.node s₀.good.whole

    turned : t ≡ turn_of w.node a 0 (drop w.used ds) x₀
    turned =
        ran
        ∙ (λ j. let part = part_is w.used ds j in turn_of w.node a 0 part (rule_of (is-lent j) w.node part))
        ∙ ap (turn_of w.node a 0 (drop w.used ds)) (one_sender a w.node (drop w.used ds))

    -- what the sender's rule adds
    added_is : changes (trace_then (handler.gossip here gs (view_node n) ds) (trace_sender (some a))) ≡ changes (moment (Sender a) (view_node w.node) x₀)
    added_is =
        ap (λ (x : Answer (M.Out Addr)). changes (trace_then x (trace_sender (some a)))) s₀.is-done
        ∙ (λ j. changes (moment (Sender a) (sym view₀ j) (handler.admit here a (sym view₀ j) (sym s₀.left j))))

    pub sender_refused : (u : Refusal) → t.drew ≡ Refused u → w.account ≡ account_of (heard_changes gs (some a) (view_node n) ds)
    sender_refused u d =
        walked_account
        ∙ ap account_of (sym (append-nil cs)
        ∙ ap (λ (y : List Change). cs ++ y) (sym (added_is ∙ ap (λ (x : Answer (M.Out Addr)). changes (moment (Sender a) (view_node w.node) x)) (turn-refused w.node a 0 ds w.used s₀.within t x₀ u turned d))))

    pub sender_pushed : (more : ℕ) → t.drew ≡ Used more → pushed_of w.account t.change ≡ account_of (heard_changes gs (some a) (view_node n) ds)
    sender_pushed more d =
        let b = turn-ran w.node a 0 ds w.used s₀.within t x₀ more (admit-leaves a (view_node w.node) (drop w.used ds)) turned d in
        let did = laws-after.given (rw b.is at (admit_did here here_lawful a a (view_node w.node) (drop w.used ds) (walked_ready q).good.whole)) in
        let c : t.change ≡ change_of (moment_of (Sender a) (view_node w.node) b.out) = b.change ∙ between_is (Sender a) (view_node w.node) b.out did in
        ap (λ (y : Account). pushed_of y t.change) walked_account
        ∙ push_is cs t.change (omega (arith, few_changes gs (view_node n) ds, records-long rows given₀ h, h.few))
        ∙ ap (λ (y : Change). account_of (cs ++ (y ∷ []))) c
        ∙ ap (λ (y : List Change). account_of (cs ++ y)) (sym (added_is ∙ ap (λ (x : Answer (M.Out Addr)). changes (moment (Sender a) (view_node w.node) x)) b.is))

  pub walked_room : w.account.count < 65
  walked_room = omega (arith, ap (λ (y : Account). y.count) walked_account, few_changes gs (view_node n) ds, records-long rows given₀ h, h.few)
