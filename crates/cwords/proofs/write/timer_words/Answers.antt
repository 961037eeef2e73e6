-- `cwords::write::timer_words` meets its contract.
-- Assumes nothing.
use Rattle.cwords.proofs.Encoding.{timer_ends}
use Rattle.cwords.proofs.write.timer_words.Goals as goal

pub returns : goal.returns
returns c = timer_ends c.args.t _ _ c.first_word.ensures c.wide_tick.ensures
