-- An event is emitted: it was pushed to its heap, or that heap was full, whatever draws stand behind.
-- Assumes nothing.
use Rattle.std.specs.Prelude.{◌≡◌, Bool, true, false, List, [], ◌∷◌, ℕ, length}
use Rattle.std.proofs.Math.Path.{ap, sym}
use Rattle.std.proofs.Common.{◌∙◌}
use Rattle.std.proofs.Math.Dec.{leb}
use Rattle.model.specs.declared.Kind.{Kind}
use Rattle.model.specs.Answers.{Answer, done, refused, and_then, when, full_of}
use Rattle.address.specs.Here.{Addr, here}
use Rattle.model.specs.Words as W
use Rattle.model.specs.Collect.{collects}
use Rattle.model.specs.Node as M
use Rattle.laws_node.specs.Good.{Good}
use Rattle.disseminate.specs.declared.Disseminator.{Disseminator}
use Rattle.disseminate.specs.Views.{view_disseminator, pack_disseminator, pushed_to, Pushes}
use Rattle.node.specs.declared.Node.{Node}
use Rattle.node.specs.Views.{view_node, pack_node, with_disseminator}
use Rattle.node.specs.Rows.{ready_pack, view_pack}
use Rattle.node.specs.Parts.{part_disseminator}

-- an emit that was kept, and the node after it
pub record Said (k : Kind) (g : W.Gossip Addr) (ds : List ℕ) (s : M.Node Addr) (x : Answer (M.Out Addr)) (n : Node) : Type 0 where
  pub after : M.Node Addr
  pub node : n ≡ pack_node after
  pub is : x ≡ done (record { node = after; said = g ∷ []; collected = collects here s.settings.collect k g s.disseminator.alive }) ds

-- what a push says of the emit on a node that is packed
module _ (k : Kind) (g : W.Gossip Addr) {s : M.Node Addr} {n : Node} {after : Disseminator} {full : Bool} (ds : List ℕ) (good : Good here s) (e : n ≡ pack_node s) (p : Pushes s.settings.collect k g n.disseminator after full) where
  abbrev on : Bool
  on = s.settings.collect

  seen : view_node n ≡ s
  seen = ap view_node e ∙ view_pack s good.whole

  heaps_seen : view_disseminator n.disseminator ≡ s.disseminator
  unfolding view_node
  heaps_seen = ap (λ (x : M.Node Addr). x.disseminator) seen

  abbrev more : M.Disseminator Addr
  more = pushed_to on k g s.disseminator

  -- the emit, by whether there is no room
  abbrev emit_or : Bool → Answer (M.Out Addr)
  emit_or u =
      and_then (when u (refused (full_of k)) (done more ds)) λ d rest.
      done (record { node = M.with_disseminator s d; said = g ∷ []; collected = collects here on k g s.disseminator.alive }) rest

  emit_is : M.emit here k g s ds ≡ emit_or full
  unfolding M.emit M.pushed
  emit_is = sym (ap emit_or (p.is_full ∙ ap (λ (d : M.Disseminator Addr). leb 128 (length (M.heap_of k (M.collecting here on k g d)))) heaps_seen))

  pub emit-full : full ≡ true → M.emit here k g s ds ≡ refused (full_of k)
  unfolding when
  emit-full q = emit_is ∙ ap emit_or q

  pub emit-kept : full ≡ false → Said k g ds s (M.emit here k g s ds) (with_disseminator n after)
  unfolding when
  emit-kept q =
      record {
        after = M.with_disseminator s more;
        node =
            part_disseminator n (rw e (ready_pack s good)) more after (p.is_after q ∙ ap (λ (d : M.Disseminator Addr). pack_disseminator (pushed_to on k g d)) heaps_seen)
            ∙ ap (λ (x : M.Node Addr). pack_node (M.with_disseminator x more)) seen;
        is = emit_is ∙ ap emit_or q;
      }
