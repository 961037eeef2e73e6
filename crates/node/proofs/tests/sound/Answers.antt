-- `node::tests::sound` meets its contract: each part's test says its clause.
-- Assumes nothing.
use borrow.Author.Rules.{rules}
use Rattle.model.specs.Sound.{sound}
use Rattle.node.specs.Views.{stored_view}
use Rattle.node.proofs.tests.sound.Goals as goal

pub returns : goal.returns
unfolding sound stored_view
returns c = cc
