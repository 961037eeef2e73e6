-- `host::swim_words_lamps` meets its contract.
use Rattle.host.proofs.Ending.{shows}
use Rattle.host.proofs.swim_words_lamps.Goals as goal

pub returns : goal.returns
returns c = shows c.args.head.now
