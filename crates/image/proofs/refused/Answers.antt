-- `image::refused` meets its contract.
-- Assumes nothing.
use lib.ListN.{replicate}
use borrow.Author.Rules.{rules}
use Rattle.image.proofs.refused.Goals as goal

pub returns : goal.returns
returns c = record {
  value = (λ i. record {
    verdict = c.args.verdict;
    own = c.blank.ensures i;
    table = replicate 64 (c.none.ensures i);
    order = replicate 64 (c.blank-2.ensures i);
    len = 0;
    position = 0;
  });
  within = search rules;
}
