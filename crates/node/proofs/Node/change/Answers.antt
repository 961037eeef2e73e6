-- `node::Node::change` meets its contract: the list is replaced.
-- Assumes nothing.
use mathlib.Core.Path.{◌≡◌, ◌∙◌}
use borrow.Author.Rules.{rules}
use Rattle.address.specs.Here.{here}
use Rattle.model.specs.Members as list
use Rattle.model.specs.Node as M
use Rattle.node.specs.Views.{view_node}
use Rattle.node.specs.Parts.{part-members}
use Rattle.node.proofs.Node.change.Goals as goal

pub returns : goal.returns
unfolding M.change view_node
returns c =
    c.with_members.ensures
    ∙ part-members c.args.self c.requires (list.update here.same (record { addr = c.args.a; state = c.args.state; number = c.args.number }) (view_node c.args.self).members) _ c.update_member-after.ensures
