-- `salvage::refused` meets its contract.
-- Assumes nothing.
use lib.ListN.{replicate}
use Rattle.salvage.specs.Views.{row_of_words}
use Rattle.salvage.specs.declared.Ends.TheVariants as ends
use Rattle.salvage.proofs.refused.Goals as goal

pub returns : goal.returns
unfolding row_of_words
returns c = λ i. record { ends = ends.Refused c.args.refusal; count = 0; places = 0; words = replicate 64 (c.none.ensures i) }
