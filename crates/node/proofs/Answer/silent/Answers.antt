-- `node::Answer::silent` meets its contract: each letter is what `Letter::none` gives.
-- Assumes nothing.
use mathlib.Core.Path.{ap}
use borrow.Author.Rules.{rules}
use lib.ListN.{replicate}
use Rattle.node.specs.declared.Letter.{Letter}
use Rattle.node.specs.declared.Answer.{Answer}
use Rattle.node.proofs.Answer.silent.Goals as goal

pub returns : goal.returns
returns c =
    let a = c.args in
    ap (λ (l : Letter). record { reply = a.reply; node = a.node; letters = replicate 4 l; sent = 0; collected = a.collected }) c.none-l.ensures
