-- `host::put_found` meets its contract.
use mathlib.Core.Path.{sym}
use Rattle.host.proofs.Ending.{looked_listed}
use Rattle.host.proofs.put_found.Goals as goal

pub returns-in-Listed : goal.returns-in-Listed
returns-in-Listed c =
    looked_listed _ c.args.found.now _ _ _ _ _ (sym c.in-Listed.is) c.first_word.ensures c.state_word.ensures
