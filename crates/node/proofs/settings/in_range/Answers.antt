-- `node::settings::in_range` meets its contract: each line asks one clause more.
-- Assumes nothing.
use borrow.Author.Rules.{rules}
use Rattle.model.specs.Sound.{in_range}
use Rattle.node.proofs.settings.in_range.Goals as goal

pub returns : goal.returns
unfolding in_range
returns c =
    rw (c.both.ensures, c.both-least.ensures, c.both-selected.ensures, c.both-some.ensures, c.both-constant.ensures, c.both-group.ensures, c.both-waits.ensures, c.both-request.ensures, c.both-ping.ensures)
