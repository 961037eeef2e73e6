-- `message::refused` meets its contract: nothing in any row.
-- Assumes nothing.
use lib.ListN.{replicate}
use borrow.Author.Rules.{rules}
use Rattle.message.proofs.refused.Goals as goal

pub returns : goal.returns
returns c =
    let a = c.args in
    λ i. record {
      answer = record { reply = a.reply; node = a.node; letters = replicate 4 (c.none-none.ensures i); sent = 0; collected = 0 };
      gossip = c.no_gossip.ensures i;
      written = 0;
      events = c.no_events.ensures i;
      reported = 0;
    }
