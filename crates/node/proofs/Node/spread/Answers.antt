-- `node::Node::spread` meets its contract: gossip is chosen from both heaps.
-- Assumes nothing.
use mathlib.Core.Path.{◌≡◌, refl, ap, sym, ◌∙◌}
use mathlib.Core.Bool.{true, ◌&&◌}
use Prim.Native.Nat.{ℕ, ◌≤◌}
use native.Mathlib.Omega.{arith}
use lib.Dec.{eqb}
use lib.ListN.{length, replicate}
use borrow.Author.Tests.{eqb-true}
use borrow.Author.Rules.{rules}
use Rattle.model.specs.declared.Kind.TheVariants as kind
use Rattle.model.specs.Bounds.{greatest_size}
use Rattle.address.specs.Here.{here}
use Rattle.model.specs.Limit.{limit_of}
use Rattle.model.specs.Choose.{Terms, choose, terms_of}
use Rattle.disseminate.specs.Fit.{most_chosen, few_chosen}
use Rattle.laws.specs.Bools.{and_split}
use Rattle.laws.specs.Ranges.{ranges}
use Rattle.model.specs.Node as M
use Rattle.member.specs.Packing.{view_many}
use Rattle.disseminate.specs.declared.Choice.{Choice}
use Rattle.disseminate.specs.Views.{pack_choice}
use Rattle.node.specs.declared.Node.{Node}
use Rattle.node.specs.Views.{view_node}
use Rattle.node.specs.Rows.{Ready}
use Rattle.node.specs.Parts.{spread_is, spread_none}
use Rattle.node.proofs.Node.spread.Goals as goal

-- the size of a good node's settings
size-in-range : (n : Node) → Ready n → n.settings.max_size ≤ greatest_size
unfolding view_node
size-in-range n r = (ranges n.settings r.good.settings).most_size

-- nothing is held
pub returns-then-none_held : goal.returns-then-none_held
unfolding M.spread view_node terms_of
returns-then-none_held c =
    let n = c.args.self in
    let terms : Terms = terms_of n.settings.max_selected n.settings.max_size (limit_of (length (view_node n).members.table) n.settings.send_constant) in
    let held : (eqb n.disseminator.alive.len 0 && eqb n.disseminator.deceased.len 0) ≡ true = sym c.none_held.ensures ∙ c.if-none_held.true in
    let none = and_split _ _ held in
    let chosen = spread_none n c.requires terms (eqb-true _ 0 none.0) (eqb-true _ 0 none.1) in
    record { value = (λ i. record { node = n; rows = replicate 64 (c.none-nothing.ensures i); count = 0 }) ∙ chosen; within = omega arith }

pub get_gossip-choice-requires : goal.get_gossip-choice-requires
unfolding view_node
get_gossip-choice-requires c =
    let r = c.requires in
    (r.heaps.alive, r.heaps.deceased, r.good.heaps kind.Alive, r.good.heaps kind.Deceased, r.good.settings, r.members.packed.few)

pub returns : goal.returns
unfolding M.spread view_node terms_of
returns c =
    let n = c.args.self in
    let r = c.requires in
    let terms : ℕ → Terms = λ k. terms_of n.settings.max_selected n.settings.max_size (limit_of k n.settings.send_constant) in
    let many : n.members.len ≡ length (view_node n).members.table = sym (view_many n.members r.members.packed) in
    let e : c.get_gossip-choice.result ≡ pack_choice (choose here (terms (length (view_node n).members.table)) (view_node n).disseminator.alive (view_node n).disseminator.deceased) =
    c.get_gossip-choice.ensures ∙ ap (λ (k : ℕ). pack_choice (choose here (terms k) (view_node n).disseminator.alive (view_node n).disseminator.deceased)) many in
    let few : length (choose here (terms (length (view_node n).members.table)) (view_node n).disseminator.alive (view_node n).disseminator.deceased).chosen ≤ most_chosen =
    few_chosen (terms (length (view_node n).members.table)) (view_node n).disseminator.alive (view_node n).disseminator.deceased (size-in-range n r) (r.good.heaps kind.Alive) (r.good.heaps kind.Deceased) in record { value = spread_is n r (choose here (terms (length (view_node n).members.table)) (view_node n).disseminator.alive (view_node n).disseminator.deceased) c.get_gossip-choice.result _ e refl; within = omega (arith, ap (λ (k : Choice). k.chosen.count) e) }
