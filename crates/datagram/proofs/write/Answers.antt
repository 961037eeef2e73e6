-- Of a lent row the first 64 records are all that matters.
use Rattle.datagram.specs.Laws.{writes_sent}
use Rattle.datagram.proofs.write.Goals as goal

pub returns : goal.returns
returns c = writes_sent c.args.action c.args.records.now c.args.out.now c.send.new.out c.send.result c.first_64-first.result c.first_64-first.ensures c.send.ensures
