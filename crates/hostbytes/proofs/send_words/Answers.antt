-- `hostbytes::send_words` meets its contract.
use Rattle.hostbytes.proofs.Ending.{sent-at}
use Rattle.hostbytes.proofs.send_words.Goals as goal

pub returns : goal.returns
returns c =
    sent-at c.args.action c.args.records.now _ _ _ _ c.records_of-first.ensures c.send.ensures
