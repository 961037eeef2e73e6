-- A ping request: the heap is full, a draw is missing, or the group is asked.
-- Assumes nothing.
use mathlib.Core.Path.{◌≡◌, refl, ap, sym, ◌∙◌}
use mathlib.Core.Bool.{Bool, true, false}
use mathlib.Core.List.{List, [], ◌∷◌}
use mathlib.Core.Option.{some}
use Prim.Native.Nat.{ℕ, ◌≤◌}
use native.Mathlib.Omega.{arith}
use lib.ListN.{length, take}
use Rattle.model.specs.declared.State.TheVariants as state
use Rattle.model.specs.declared.Kind.TheVariants as kind
use Rattle.model.specs.declared.Refusal.{Refusal}
use Rattle.model.specs.declared.Refusal.TheVariants.{AliveFull}
use Rattle.model.specs.declared.Reply.TheVariants.{Refused}
use Rattle.model.specs.Answers as A
use Rattle.address.specs.Here.{Addr, here, here_lawful}
use Rattle.model.specs.Members as list
use Rattle.model.specs.Node as M
use Rattle.model.specs.Detector as D
use Rattle.model.specs.Calls.{step_of_kept}
use Rattle.laws_node.specs.Good.{Good}
use Rattle.laws.specs.Ranges.{ranges}
use Rattle.laws_rules.specs.Keeps.{Keeps, change-keeps}
use Rattle.laws_rules.specs.KeepsCalls.{suspect-keeps}
use Rattle.types.specs.Views.{to_gossip}
use Rattle.model.specs.declared.Drew.TheVariants as drew
use Rattle.order.specs.declared.Exclusion.TheVariants.{Peer}
use Rattle.heap.specs.declared.Heap.{Heap}
use Rattle.disseminate.specs.declared.collect.Renewed.{Renewed}
use Rattle.disseminate.specs.Views.{cleared_heap, renewed, Pushes}
use Rattle.disseminate.proofs.Pushing.{alive-pushes}
use Rattle.member.specs.declared.Members.{Members}
use Rattle.member.specs.declared.Picked.{Picked}
use Rattle.member.specs.Views.{pack_members, view_members, picked_as, picked_of}
use Rattle.node.specs.declared.Node.{Node}
use Rattle.node.specs.Views.{view_node, pack_node, stored_view, with_members, with_disseminator}
use Rattle.node.specs.Rows.{Ready, ready_pack, view_pack}
use Rattle.node.specs.Parts.{part-members}
use Rattle.node.specs.Emitting.{Said, emit-full, emit-kept}
use Rattle.wait.specs.declared.Wait.{Wait}
use Rattle.wait.specs.declared.Stepped.{Stepped}
use Rattle.wait.specs.Views.{to_wait, stepped_of, step_plain, kept_of}
use Rattle.pinging.specs.declared.Suspicion.{Suspicion}
use Rattle.pinging.specs.Views.{group_asked, suspicion_of}
use Rattle.wait.specs.Ends.{plain_step}
use Rattle.pinging.proofs.Drawing.{missed, after_is, Turned, turned}

-- a suspicion was pushed: what the code has of it
pub record Request : Type 0 where
  pub node : Node
  pub ready : Ready node
  pub wait : Wait
  pub target : Addr
  pub number : ℕ
  pub tick : ℕ
  pub draws : List ℕ
  pub valid : here.valid target ≡ true
  pub members : Members
  pub members_is : members ≡ pack_members node.own (list.update here.same (record { addr = target; state = state.Suspected; number = number }) (view_members node.members))
  pub said : Suspicion
  pub said_is : said ≡ suspicion_of node.own target number
  pub pushed : Renewed
  pub pushed_is : pushed ≡ renewed node.settings.collect (to_gossip said.gossip) node.disseminator.alive

module _ (q : Request) where
  abbrev changed : M.Node Addr
  changed = M.change here q.target state.Suspected q.number (view_node q.node)

  changed_good : Good here changed
  changed_good = (change-keeps here here_lawful q.target state.Suspected q.number (view_node q.node) q.ready.good).good

  -- the node with its list changed, of which the code makes the list alone
  changed_is : with_members q.node q.members ≡ pack_node changed
  unfolding M.change view_node
  changed_is = part-members q.node q.ready (list.update here.same (record { addr = q.target; state = state.Suspected; number = q.number }) (view_node q.node).members) q.members q.members_is

  -- what a pick from the changed list asks for
  pub changed_ready : Ready (with_members q.node q.members)
  changed_ready = rw changed_is (ready_pack changed changed_good)

  pub wanted_few : q.node.settings.ping_req_group_size ≤ 4
  unfolding view_node
  wanted_few = (ranges q.node.settings q.ready.good.settings).group

  abbrev outcome : A.Answer (D.Stepped Addr) → Stepped
  outcome x = stepped_of (step_of_kept here (stored_view q.node) (to_wait q.wait) q.draws x)

  -- what the rule gives
  abbrev pub requested : Stepped
  requested = outcome (D.send_ping_req here q.target q.number q.tick (view_node q.node) q.draws)

  abbrev then_ask : A.Answer (M.Out Addr) → A.Answer (D.Stepped Addr)
  then_ask x = A.and_then x λ o rest. A.and_then (D.pick_group here q.target o.node rest) λ p rest₂. A.done (D.asked here q.target q.number q.tick o p) rest₂

  suspects : D.suspect here q.target q.number (view_node q.node) q.draws ≡ M.emit here kind.Alive (to_gossip q.said.gossip) changed q.draws
  unfolding D.suspect view_node
  suspects = ap (λ (x : Suspicion). M.emit here kind.Alive (to_gossip x.gossip) changed q.draws) (sym q.said_is)

  abbrev on : Bool
  on = q.node.settings.collect

  abbrev living : Heap
  living = q.node.disseminator.alive

  pushes : Pushes on kind.Alive (to_gossip q.said.gossip) q.node.disseminator (record { alive = q.pushed.grown.heap; deceased = q.node.disseminator.deceased }) q.pushed.grown.full
  pushes =
      alive-pushes q.node.disseminator q.ready.heaps (to_gossip q.said.gossip) on (cleared_heap on kind.Alive (to_gossip q.said.gossip) living) q.pushed.grown refl
      (ap (λ (x : Renewed). x.grown) q.pushed_is)

  pub request_full : q.pushed.grown.full ≡ true → step_plain (Refused AliveFull) q.node q.wait ≡ requested
  unfolding D.send_ping_req view_node M.change
  request_full h =
      plain_step (Refused AliveFull) q.node q.wait
      ∙ sym (ap (λ (x : A.Answer (M.Out Addr)). outcome (then_ask x)) (suspects ∙ emit-full kind.Alive (to_gossip q.said.gossip) q.draws changed_good changed_is pushes h))

  module _ (h : q.pushed.grown.full ≡ false) where
    -- the node with its heap changed too, of which the code makes the heap alone
    abbrev emitted : Node
    emitted = with_disseminator (with_members q.node q.members) (record { alive = q.pushed.grown.heap; deceased = q.node.disseminator.deceased })

    kept : Said kind.Alive (to_gossip q.said.gossip) q.draws changed (M.emit here kind.Alive (to_gossip q.said.gossip) changed q.draws) emitted
    unfolding view_node M.change
    kept = emit-kept kind.Alive (to_gossip q.said.gossip) q.draws changed_good changed_is pushes h

    abbrev said : M.Node Addr
    said = kept.after

    abbrev told : ℕ → M.Out Addr
    told n = record { node = said; said = to_gossip q.said.gossip ∷ []; collected = n }

    suspected : D.suspect here q.target q.number (view_node q.node) q.draws ≡ A.done (told q.pushed.collected) q.draws
    unfolding view_node M.change
    suspected = suspects ∙ kept.is ∙ sym (ap (λ (x : Renewed). A.done (told x.collected) q.draws) q.pushed_is)

    said_good : Good here said
    said_good = (after_is {P = λ (o : M.Out Addr). Keeps here (view_node q.node) o.node} suspected (suspect-keeps here here_lawful q.target q.number (view_node q.node) q.draws q.ready.good q.valid)).good

    seen : view_node emitted ≡ said
    seen = ap view_node kept.node ∙ view_pack said said_good.whole

    abbrev then_asked : A.Answer (list.Picked Addr) → A.Answer (D.Stepped Addr)
    then_asked x = A.and_then x λ p rest₂. A.done (D.asked here q.target q.number q.tick (told q.pushed.collected) p) rest₂

    reached : outcome (then_asked (D.pick_group here q.target said q.draws)) ≡ requested
    unfolding D.send_ping_req
    reached = sym (ap (λ (x : A.Answer (M.Out Addr)). outcome (then_ask x)) suspected)

    module _ (k : Picked) (z : k ≡ picked_of q.members q.node.own (Peer q.target) q.node.settings.ping_req_group_size q.draws 0) where
      -- the pick of the rows is the model's
      picked : k ≡ picked_as said.own q.members (length q.draws) (D.pick_group here q.target said q.draws)
      unfolding view_node D.pick_group
      picked =
          z
          ∙ ap (λ (j : ℕ). picked_as q.node.own q.members j (D.pick_group here q.target (view_node emitted) q.draws)) (omega arith)
          ∙ ap (λ (x : M.Node Addr). picked_as x.own q.members (length q.draws) (D.pick_group here q.target x q.draws)) seen

      pub request_refused : (u : Refusal) → k.drew ≡ drew.Refused u → step_plain (Refused u) q.node q.wait ≡ requested
      request_refused u d =
          plain_step (Refused u) q.node q.wait
          ∙ sym (ap (λ (x : A.Answer (list.Picked Addr)). outcome (then_asked x)) (missed said.own q.members (length q.draws) (D.pick_group here q.target said q.draws) k u picked d))
          ∙ reached

      module _ {used : ℕ} {t : Node} (d : k.drew ≡ drew.Used used) (y : t ≡ with_members emitted k.members) where
        group : Turned said.settings.ping_req_group_size q.draws said (D.pick_group here q.target said q.draws) used k t
        unfolding D.pick_group
        group = turned said.own (some q.target) said.settings.ping_req_group_size q.draws said refl said_good q.members k d kept.node y picked

        pub request_ready : Ready t
        request_ready = group.ready

        pub request_few : k.picks.count ≤ 4
        request_few = omega (arith, group.few, (ranges said.settings said_good.settings).group)

        pub request_kept : stepped_of (kept_of used (group_asked q.said.target q.said.number q.tick (to_gossip q.said.gossip) q.pushed.collected (D.ask_each here q.said.target (take k.picks.count k.picks.row) (view_node t) []))) ≡ requested
        unfolding D.asked
        request_kept =
            (λ i. stepped_of (kept_of (group.many i) (group_asked (q.said_is i).target (q.said_is i).number q.tick (to_gossip q.said.gossip) q.pushed.collected (D.ask_each here (q.said_is i).target (group.picks i) (group.seen i) []))))
            ∙ sym (ap (λ (j : A.Answer (list.Picked Addr)). outcome (then_asked j)) group.is)
            ∙ reached
