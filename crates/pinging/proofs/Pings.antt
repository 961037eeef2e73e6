-- A ping: one is picked or none, or a draw is missing.
-- Assumes nothing.
use mathlib.Core.Path.{◌≡◌, refl, ap, sym, ◌∙◌}
use mathlib.Core.List.{List, [], ◌∷◌, map}
use mathlib.Core.Option.{none}
use Prim.Native.Nat.{ℕ, zero, suc, ◌≤◌, ◌<◌}
use native.Mathlib.Omega.{arith}
use native.Mathlib.Nat.{not-suc-le-zero}
use lib.ListN.{length, get_or, take, length-map}
use lib.Seq.{length-take-le}
use Rattle.model.specs.declared.State.TheVariants as state
use Rattle.model.specs.declared.Refusal.{Refusal}
use Rattle.model.specs.declared.Reply.TheVariants.{Done, Refused}
use Rattle.model.specs.Answers as A
use Rattle.address.specs.Here.{Addr, here}
use Rattle.model.specs.Words as W
use Rattle.model.specs.Members as list
use Rattle.model.specs.Node as M
use Rattle.model.specs.Detector as D
use Rattle.model.specs.Calls.{step_of_kept}
use Rattle.laws_rules.specs.Keeps.{spread-keeps}
use Rattle.types.specs.declared.Action.TheVariants.{Ping}
use Rattle.types.specs.declared.Optional.TheVariants.{Absent}
use Rattle.types.specs.declared.Gossip.{Gossip}
use Rattle.types.specs.Views.{to_gossip, no_gossip, from_to_gossips}
use Rattle.model.specs.declared.Drew.TheVariants as drew
use Rattle.order.specs.declared.Picks.{Picks}
use Rattle.order.specs.declared.Exclusion.TheVariants.{Nobody}
use Rattle.member.specs.declared.Picked.{Picked}
use Rattle.member.specs.Views.{picked_as, picked_of}
use Rattle.node.specs.declared.Node.{Node}
use Rattle.node.specs.declared.parts.Spread.{Spread}
use Rattle.node.specs.Views.{view_node, pack_node, stored_view, with_members, spread_of}
use Rattle.node.specs.Rows.{Ready}
use Rattle.wait.specs.declared.WaitState.TheVariants.{WaitingForPingAck}
use Rattle.wait.specs.declared.Wait.{Wait}
use Rattle.wait.specs.declared.Stepped.{Stepped}
use Rattle.wait.specs.declared.mail.Mail.{Mail}
use Rattle.wait.specs.Views.{to_wait, fresh_wait, stepped_of, step_plain, kept_of, kept_rows, mail_of, posted}
use Rattle.wait.specs.Ends.{plain_step, kept_step, kept-rows}
use Rattle.wait.specs.Posting.{post_is, row_read}
use Rattle.pinging.proofs.Drawing.{missed, Turned, turned}

-- nobody was picked
pub pinged-none : (n : Node) (p : Picks) (gs : List (W.Gossip Addr)) (used tick : ℕ) → pack_node (view_node n) ≡ n → p.count ≡ 0
    → step_plain (Done used) n (fresh_wait tick) ≡ stepped_of (kept_of used (D.pinged here tick gs (view_node n) (take p.count p.row)))
unfolding D.pinged
pinged-none n p gs used tick e z =
    kept_step used (view_node n) n (D.enters W.SendingPing tick) (fresh_wait tick) (sym e) refl
    ∙ ap (λ (k : ℕ). stepped_of (kept_of used (D.pinged here tick gs (view_node n) (take k p.row)))) (sym z)

-- the first of a row that is used
first-of : (l : List Addr) (k : ℕ) → 0 < k → 0 < length l → (rest : List Addr) × (take k l ≡ get_or l 0 here.blank ∷ rest)
first-of [] k h m = absurd (not-suc-le-zero m)
first-of (x ∷ l) zero h m = absurd (not-suc-le-zero h)
first-of (x ∷ l) (suc k) h m = (take k l, refl)

-- one was
pub pinged-one : (n : Node) (p : Picks) (rows : List Gossip) (count used tick number : ℕ) (m : Node) (mail : Mail) → 0 < p.count → 0 < length p.row → count ≤ length rows
    → number ≡ M.numbered here (get_or p.row 0 here.blank) (view_node n)
    → m ≡ pack_node (M.change here (get_or p.row 0 here.blank) state.Pending number (view_node n))
    → mail ≡ posted (mail_of []) (get_or p.row 0 here.blank) (Ping n.own Absent) rows count
    → kept_rows used m mail (record { state = WaitingForPingAck (get_or p.row 0 here.blank) number; since = tick }) (no_gossip ∷ []) 0 0
    ≡ stepped_of (kept_of used (D.pinged here tick (map to_gossip (take count rows)) (view_node n) (take p.count p.row)))
unfolding D.pinged view_node
pinged-one n p rows count used tick number m mail h k c e f g =
    let a = get_or p.row 0 here.blank in
    let gs = map to_gossip (take count rows) in
    let x : W.Message Addr = record { target = a; action = W.Ping n.own none; gossip = gs } in
    let long : count ≡ length gs = omega (arith, length-map (take count rows) to_gossip, length-take-le count rows c) in
    kept-rows used m mail _ (no_gossip ∷ []) 0 (M.change here a state.Pending number (view_node n)) (x ∷ []) [] 0 (D.enters (W.WaitingForPingAck a number) tick)
    f (g ∙ post_is [] x (mail_of []) rows count refl (sym (from_to_gossips (take count rows))) long (omega arith)) refl refl refl
    ∙ ap (λ (y : ℕ). stepped_of (kept_of used (record {
      effect = record { node = M.change here a state.Pending y (view_node n); messages = x ∷ []; events = []; collected = 0 };
      wait = D.enters (W.WaitingForPingAck a y) tick;
    }))) e
    ∙ ap (λ (l : List Addr). stepped_of (kept_of used (D.pinged here tick gs (view_node n) l))) (sym (first-of p.row p.count h k).1)

-- gossip was chosen, then one was to be picked: what the code has of it
pub record Probe : Type 0 where
  pub node : Node
  pub ready : Ready node
  pub wait : Wait
  pub tick : ℕ
  pub draws : List ℕ
  pub spread : Spread
  pub spread_is : spread ≡ spread_of (M.spread here (view_node node))
  pub picked : Picked
  pub picked_is : picked ≡ picked_of node.members node.own Nobody 1 draws 0

module _ (q : Probe) where
  abbrev spent : M.Node Addr
  spent = (M.spread here (view_node q.node)).node

  abbrev one_picked : A.Answer (list.Picked Addr)
  one_picked = list.pick_from here.same here.blank q.node.own none 1 (view_node q.node).members q.draws

  abbrev outcome : A.Answer (D.Stepped Addr) → Stepped
  outcome x = stepped_of (step_of_kept here (stored_view q.node) (to_wait q.wait) q.draws x)

  -- what the rule gives
  abbrev pub probed : Stepped
  probed = outcome (D.send_ping here q.tick (view_node q.node) q.draws)

  abbrev then_ping : A.Answer (list.Picked Addr) → A.Answer (D.Stepped Addr)
  then_ping x = A.and_then x λ p rest. A.done (D.pinged here q.tick (M.spread here (view_node q.node)).gossip (M.with_members spent p.members) p.picks) rest

  reached : outcome (then_ping one_picked) ≡ probed
  unfolding D.send_ping view_node
  reached = refl

  -- all draws are there yet
  picked : q.picked ≡ picked_as q.node.own q.node.members (length q.draws) one_picked
  unfolding view_node
  picked = q.picked_is ∙ ap (λ (k : ℕ). picked_as q.node.own q.node.members k one_picked) (omega arith)

  pub ping_refused : (u : Refusal) → q.picked.drew ≡ drew.Refused u → step_plain (Refused u) q.node q.wait ≡ probed
  ping_refused u d =
      plain_step (Refused u) q.node q.wait
      ∙ sym (ap (λ (x : A.Answer (list.Picked Addr)). outcome (then_ping x)) (missed q.node.own q.node.members (length q.draws) one_picked q.picked u picked d))
      ∙ reached

  module _ {used : ℕ} {t : Node} (d : q.picked.drew ≡ drew.Used used) (e : t ≡ with_members q.spread.node q.picked.members) where
    pub ping_turned : Turned 1 q.draws spent one_picked used q.picked t
    unfolding M.spread view_node
    ping_turned =
        turned q.node.own none 1 q.draws spent refl (spread-keeps here (view_node q.node) q.ready.good).good q.node.members q.picked d (ap (λ (x : Spread). x.node) q.spread_is) e picked

    pub ping_kept : stepped_of (kept_of used (D.pinged here q.tick (map to_gossip (take q.spread.count q.spread.rows)) (view_node t) (take q.picked.picks.count q.picked.picks.row))) ≡ probed
    ping_kept =
        let gs = (M.spread here (view_node q.node)).gossip in
        let a : map to_gossip (take q.spread.count q.spread.rows) ≡ gs = (λ i. map to_gossip (take (q.spread_is i).count (q.spread_is i).rows)) ∙ row_read gs in
        (λ i. stepped_of (kept_of (ping_turned.many i) (D.pinged here q.tick (a i) (ping_turned.seen i) (ping_turned.picks i))))
        ∙ sym (ap (λ (x : A.Answer (list.Picked Addr)). outcome (then_ping x)) ping_turned.is)
        ∙ reached
