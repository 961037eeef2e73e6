-- What a pick gave, or which draw it missed; and the node whose order it turned.
-- Assumes nothing.
use mathlib.Core.Path.{◌≡◌, refl, ap, ◌∙◌, subst}
use mathlib.Core.List.{List, []}
use mathlib.Core.Option.{Option, none, some}
use Prim.Native.Nat.{ℕ, ◌-◌, ◌≤◌}
use native.Mathlib.Omega.{arith}
use lib.ListN.{length, take}
use Rattle.model.specs.declared.Refusal.{Refusal}
use Rattle.model.specs.Rows.{every}
use Rattle.model.specs.Answers.{Answer, done, refused}
use Rattle.laws.specs.After.{After, given}
use Rattle.laws.specs.Pad.{take_pad}
use Rattle.address.specs.Here.{Addr, here}
use Rattle.model.specs.Members as list
use Rattle.model.specs.Node as M
use Rattle.laws_pick.specs.Picks.{Chosen, after_drawn, pick_ends}
use Rattle.laws_node.specs.Good.{Good}
use Rattle.laws_rules.specs.Keeps.{with-members}
use Rattle.model.specs.declared.Drew.TheVariants as drew
use Rattle.member.specs.declared.Members.{Members}
use Rattle.member.specs.declared.Picked.{Picked}
use Rattle.member.specs.Views.{pack_members, picked_as}
use Rattle.node.specs.declared.Node.{Node}
use Rattle.node.specs.Views.{view_node, pack_node, with_members}
use Rattle.node.specs.Rows.{Ready, ready_pack, view_pack}
use Rattle.node.specs.Parts.{part-members}

pub missed : (own : Addr) (m : Members) (k : ℕ) (x : Answer (list.Picked Addr)) (y : Picked) (u : Refusal) → y ≡ picked_as own m k x → y.drew ≡ drew.Refused u → x ≡ refused u
missed own m k (refused v) y u e d = cc (ap (λ (j : Picked). j.drew) e)
missed own m k (done p rest) y u e d = cc (ap (λ (j : Picked). j.drew) e)

-- what holds of an answer holds of what it gave
pub after_is : {B : Type 0} {P : B → Type 0} {x : Answer B} {b : B} {ds : List ℕ} → x ≡ done b ds → After P x → P b
after_is {P = P} e a = given (subst (After P) e a)

-- a pick that was kept: what was picked with how many draws, and the node with its list turned
pub record Turned (wanted : ℕ) (draws : List ℕ) (s : M.Node Addr) (x : Answer (list.Picked Addr)) (used : ℕ) (y : Picked) (t : Node) : Type 0 where
  pub p : list.Picked Addr
  pub rest : List ℕ
  pub is : x ≡ done p rest
  pub many : used ≡ length draws - length rest
  pub picks : take y.picks.count y.picks.row ≡ p.picks
  pub few : y.picks.count ≤ wanted
  pub ready : Ready t
  pub seen : view_node t ≡ M.with_members s p.members

cap_le : (own : Addr) (except : Option Addr) (wanted len : ℕ) → list.cap here.same here.blank own except wanted len ≤ wanted
cap_le own none wanted len = omega arith
cap_le own (some a) wanted len = omega arith

-- a pick from the list of a good node, of which the code makes the list alone
module _ (own : Addr) (except : Option Addr) (wanted : ℕ) (draws : List ℕ) (s : M.Node Addr) (mine : own ≡ s.own) (g : Good here s) (m : Members) (y : Picked) {used : ℕ} {n t : Node} (d : y.drew ≡ drew.Used used) (f : n ≡ pack_node s) (q : t ≡ with_members n y.members) where
  by_answer : (x : Answer (list.Picked Addr)) → y ≡ picked_as own m (length draws) x → After (Chosen here.same here.blank own s.members (list.cap here.same here.blank own except wanted (length s.members.order)) []) x
      → Turned wanted draws s x used y t
  unfolding pack_node
  by_answer (refused u) e a = let z : ◌≡◌ {A = ℕ} 0 1 = cc (ap (λ (j : Picked). j.drew) e) in absurd (omega arith)
  by_answer (done p rest) e a =
      let c = given a in
      let z : ◌≡◌ {A = ℕ} used (length draws - length rest) = cc (ap (λ (j : Picked). j.drew) e) in
      let good : Good here (M.with_members s p.members) = with-members here s p.members g c.whole (ap (λ (l : List _). every here.valid (list.addrs l)) c.table ∙ g.valid) in
      let is : t ≡ pack_node (M.with_members s p.members) =
      q
      ∙ (λ i. with_members (f i) (e i).members)
      ∙ part-members (pack_node s) (ready_pack s g) p.members (pack_members own p.members) (ap (λ (x : Addr). pack_members x p.members) mine)
      ∙ ap (λ (x : M.Node Addr). pack_node (M.with_members x p.members)) (view_pack s g.whole) in
      record {
        p = p;
        rest = rest;
        is = refl;
        many = z;
        picks = (λ i. take (e i).picks.count (e i).picks.row) ∙ take_pad 4 here.blank p.picks;
        few = omega (arith, ap (λ (j : Picked). j.picks.count) e, c.many, cap_le own except wanted (length s.members.order));
        ready = rw is (ready_pack (M.with_members s p.members) good);
        seen = ap view_node is ∙ view_pack (M.with_members s p.members) good.whole;
      }

  pub turned : y ≡ picked_as own m (length draws) (list.pick_from here.same here.blank own except wanted s.members draws)
      → Turned wanted draws s (list.pick_from here.same here.blank own except wanted s.members draws) used y t
  turned e = by_answer _ e (after_drawn (pick_ends here.same here.blank own except wanted s.members draws g.whole))
