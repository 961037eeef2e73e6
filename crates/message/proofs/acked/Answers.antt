-- `message::acked` meets its contract: listed or not.
-- Assumes nothing.
-- what is packed where the sender is listed, and where it is not
use mathlib.Core.Path.{◌≡◌, ap, sym, ◌∙◌}
use mathlib.Core.Bool.{Bool, true, false}
use Prim.Native.Nat.{ℕ}
use borrow.Author.Tests.{not-true, not-false}
use Rattle.model.specs.declared.State.TheVariants.{Alive}
use Rattle.model.specs.Rows.{pick}
use Rattle.address.specs.Here.{Addr, here}
use Rattle.model.specs.Node as M
use Rattle.model.specs.Handler as handler
use Rattle.node.specs.declared.Node.{Node}
use Rattle.node.specs.Views.{view_node, pack_node}
use Rattle.node.specs.Parts.{ready_is}
use Rattle.message.proofs.acked.Lts as lts
use Rattle.message.proofs.acked.Tie as tie
use Rattle.message.proofs.acked.Reads as reads
use Rattle.message.proofs.acked.Goals as goal

by-listing : (n : Node) (a : Addr) (u : Bool) → M.lists here a (view_node n) ≡ u
    → pack_node (pick u (M.change here a Alive (M.numbered here a (view_node n)) (view_node n)) (view_node n)) ≡ pack_node (handler.acked here a (view_node n))
unfolding handler.acked
by-listing n a u e = ap (λ (v : Bool). pack_node (pick v (M.change here a Alive (M.numbered here a (view_node n)) (view_node n)) (view_node n))) (sym e)

lists-is : (c : lts.After-lists tie.the-claims reads.Pre reads.Post) → c.lists.result ≡ M.lists here c.args.from (view_node c.args.node)
unfolding view_node
lists-is c = c.lists.ensures

number_is : (c : lts.After-member_number tie.the-claims reads.Pre reads.Post) → c.member_number.result ≡ M.numbered here c.args.from (view_node c.args.node)
unfolding view_node
number_is c = c.member_number.ensures

pub lists-requires : goal.lists-requires
lists-requires c = c.requires.members

pub returns-then-not-lists : goal.returns-then-not-lists
returns-then-not-lists c =
    let n = c.args.node in
    sym (ready_is n c.requires) ∙ by-listing n c.args.from false (sym (lists-is c.before) ∙ c.if-not-lists.true)

pub member_number-requires : goal.member_number-requires
member_number-requires c = c.requires.members

pub change-requires : goal.change-requires
change-requires c = c.requires

pub returns : goal.returns
returns c =
    let n = c.args.node in
    c.change.ensures
    ∙ ap (λ (x : ℕ). pack_node (M.change here c.args.from Alive x (view_node n))) (number_is c.before)
    ∙ by-listing n c.args.from true (sym (lists-is c.before.before.before) ∙ c.if-not-lists.false)
