-- `node::Node::new` meets its contract: each part is fresh.
-- Assumes nothing.
use mathlib.Core.Path.{◌≡◌}
use borrow.Author.Rules.{rules}
use Rattle.model.specs.Node.{fresh}
use Rattle.node.specs.Views.{pack_node}
use Rattle.node.proofs.Node.new.Goals as goal

pub returns : goal.returns
unfolding pack_node fresh
returns c =
    let s = c.args in
    λ i. record {
      settings = s.settings;
      own = s.own;
      members = c.new.ensures i;
      disseminator = c.new-2.ensures i;
      timers = c.new-3.ensures i;
      departed = c.new-4.ensures i;
    }
