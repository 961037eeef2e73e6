-- `node::Node::none` meets its contract: zeros in each part.
-- Assumes nothing.
use mathlib.Core.Path.{◌≡◌}
use borrow.Author.Rules.{rules}
use Rattle.node.specs.Views.{pack_node, no_settings}
use Rattle.node.proofs.Node.none.Goals as goal

pub returns : goal.returns
unfolding pack_node
returns c =
    λ i. record {
      settings = no_settings;
      own = c.blank.ensures i;
      members = c.nobody_listed.ensures i;
      disseminator = c.new.ensures i;
      timers = c.new-2.ensures i;
      departed = c.new-3.ensures i;
    }
