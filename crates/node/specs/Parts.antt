-- What becomes of a ready node when a part of it is replaced: the packed node of the model's.
-- Assumes nothing.
use Rattle.std.specs.Prelude.{◌≡◌, refl, List, [], ◌∷◌, map, ℕ, take, replicate}
use Rattle.std.proofs.Common.{ap, ◌∙◌, subst}
use Rattle.std.proofs.Math.Path.{sym}
use Rattle.address.specs.Here.{Addr, here}
use Rattle.types.specs.Views.{no_gossip}
use Rattle.model.specs.Words as W
use Rattle.model.specs.Choose as choosing
use Rattle.model.specs.Members as list
use Rattle.model.specs.Node as M
use Rattle.heap.specs.Views as heaps
use Rattle.member.specs.declared.Members.{Members}
use Rattle.member.specs.Views.{pack_members, view_members}
use Rattle.member.specs.Packing as packing
use Rattle.timers.specs.declared.Timers.{Timers}
use Rattle.timers.specs.Views.{to_timer, from_timer, no_timer, pack_timers, timers_view}
use Rattle.departed.specs.declared.DepartedRow.{DepartedRow}
use Rattle.departed.specs.Views.{pack_departed, departed_view}
use Rattle.departed.specs.Packing.{pack_back}
use Rattle.laws.specs.Packing as rows
use Rattle.disseminate.specs.declared.Disseminator.{Disseminator}
use Rattle.disseminate.specs.declared.Choice.{Choice}
use Rattle.disseminate.specs.Views.{pack_choice, view_disseminator, pack_disseminator, both-back}
use Rattle.node.specs.declared.Node.{Node}
use Rattle.node.specs.declared.parts.Spread.{Spread}
use Rattle.node.specs.Views.{view_node, pack_node, with_members, with_disseminator, with_timers, with_lists, spread_of}
use Rattle.node.specs.Rows.{Ready}

none-chosen : (t : choosing.Terms) (a d : List (W.Entry Addr)) → a ≡ [] → d ≡ [] → choosing.choose here t a d ≡ choosing.begin here a d
unfolding choosing.choose choosing.rounds choosing.over
none-chosen t a d e f =
    subst (λ (x : List (W.Entry Addr)). choosing.choose here t x d ≡ choosing.begin here x d) (sym e)
    (subst (λ (y : List (W.Entry Addr)). choosing.choose here t [] y ≡ choosing.begin here [] y) (sym f) refl)

module _ (n : Node) (r : Ready n) where
  members-back : pack_members n.own (view_members n.members) ≡ n.members
  members-back = packing.pack_view n.own n.members r.members.packed r.lamps

  disseminator_back : pack_disseminator (view_disseminator n.disseminator) ≡ n.disseminator
  disseminator_back = both-back n.disseminator r.heaps

  timers_back : pack_timers (timers_view n.timers) ≡ n.timers
  timers_back =
      let e = rows.pack_view to_timer from_timer (λ b. refl) 16 no_timer n.timers.entries n.timers.len r.timers in
      let l = rows.view_length to_timer from_timer (λ b. refl) 16 no_timer n.timers.entries n.timers.len r.timers in
      λ i. record { entries = e i; len = l i }

  departed_back : pack_departed (departed_view n.departed) ≡ n.departed
  departed_back = pack_back n.departed r.departed

  -- a ready node is the packed node that it holds
  pub ready_is : pack_node (view_node n) ≡ n
  unfolding pack_node view_node
  ready_is =
      λ i. record {
        settings = n.settings;
        own = n.own;
        members = members-back i;
        disseminator = disseminator_back i;
        timers = timers_back i;
        departed = departed_back i;
      }

  pub part-members : (l : list.Members Addr) (m : Members) → m ≡ pack_members n.own l → with_members n m ≡ pack_node (M.with_members (view_node n) l)
  unfolding pack_node view_node
  part-members l m e =
      λ i. record {
        settings = n.settings;
        own = n.own;
        members = e i;
        disseminator = sym disseminator_back i;
        timers = sym timers_back i;
        departed = sym departed_back i;
      }

  -- the list and the row beside it
  pub part-lists : (l : list.Members Addr) (d : List (W.Departed Addr)) (m : Members) (x : DepartedRow) → m ≡ pack_members n.own l → x ≡ pack_departed d
      → with_lists n m x ≡ pack_node (M.with_lists (view_node n) l d)
  unfolding pack_node view_node
  part-lists l d m x e f =
      λ i. record {
        settings = n.settings;
        own = n.own;
        members = e i;
        disseminator = sym disseminator_back i;
        timers = sym timers_back i;
        departed = f i;
      }

  pub part_disseminator : (d : M.Disseminator Addr) (x : Disseminator) → x ≡ pack_disseminator d → with_disseminator n x ≡ pack_node (M.with_disseminator (view_node n) d)
  unfolding pack_node view_node
  part_disseminator d x e =
      λ i. record {
        settings = n.settings;
        own = n.own;
        members = sym members-back i;
        disseminator = e i;
        timers = sym timers_back i;
        departed = sym departed_back i;
      }

  pub part_timers : (l : List (W.Timer Addr)) (t : Timers) → t ≡ pack_timers l → with_timers n t ≡ pack_node (M.with_timers (view_node n) l)
  unfolding pack_node view_node
  part_timers l t e =
      λ i. record {
        settings = n.settings;
        own = n.own;
        members = sym members-back i;
        disseminator = sym disseminator_back i;
        timers = e i;
        departed = sym departed_back i;
      }

  -- gossip was chosen
  pub spread_is : (c : choosing.Choice Addr) (k : Choice) (m : Node) → k ≡ pack_choice c → m ≡ with_disseminator n (record { alive = k.alive; deceased = k.deceased })
      → ◌≡◌ {A = Spread} (record { node = m; rows = k.chosen.rows; count = k.chosen.count })
      (spread_of (record { node = M.with_disseminator (view_node n) (record { alive = c.alive; deceased = c.deceased }); gossip = c.chosen }))
  spread_is c k m e f =
      let q = f ∙ part_disseminator (record { alive = c.alive; deceased = c.deceased }) _ (λ i. record { alive = (e i).alive; deceased = (e i).deceased }) in
      λ i. record { node = q i; rows = (e i).chosen.rows; count = (e i).chosen.count }

  -- no gossip is held: none is chosen, and the node is as it came
  pub spread_none : (t : choosing.Terms) → n.disseminator.alive.len ≡ 0 → n.disseminator.deceased.len ≡ 0
      → ◌≡◌ {A = Spread} (record { node = n; rows = replicate 64 no_gossip; count = 0 })
      (let c = choosing.choose here t (heaps.heap_view n.disseminator.alive) (heaps.heap_view n.disseminator.deceased) in
      spread_of (record { node = M.with_disseminator (view_node n) (record { alive = c.alive; deceased = c.deceased }); gossip = c.chosen }))
  spread_none t a d =
      let alive = ap (λ (k : ℕ). map heaps.to_entry (take k n.disseminator.alive.entries)) a in
      let deceased = ap (λ (k : ℕ). map heaps.to_entry (take k n.disseminator.deceased.entries)) d in
      let q = part_disseminator (view_disseminator n.disseminator) n.disseminator (sym disseminator_back) in
      (λ i. record { node = q i; rows = replicate 64 no_gossip; count = 0 })
      ∙ ap (λ (c : choosing.Choice Addr). spread_of (record { node = M.with_disseminator (view_node n) (record { alive = c.alive; deceased = c.deceased }); gossip = c.chosen }))
      (sym (none-chosen t (heaps.heap_view n.disseminator.alive) (heaps.heap_view n.disseminator.deceased) alive deceased))
