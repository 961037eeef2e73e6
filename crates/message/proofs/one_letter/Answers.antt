-- `message::one_letter` meets its contract: one letter, and unused places behind it.
-- Assumes nothing.
use mathlib.Core.Path.{ap}
use borrow.Author.Rules.{rules}
use lib.ListN.{set, replicate}
use Rattle.model.specs.declared.Reply.TheVariants.{Done}
use Rattle.node.specs.declared.Letter.{Letter}
use Rattle.message.proofs.one_letter.Goals as goal

pub returns : goal.returns
returns c =
    let a = c.args in
    ap (λ (l : Letter). record { reply = Done a.used; node = a.node; letters = set (replicate 4 l) 0 a.letter; sent = 1; collected = a.collected }) c.none-none.ensures
