-- A datagram read into a lent row is the datagram read by value, its records written over the row.
use Rattle.datagram.specs.Laws.{reads-taken}
use Rattle.datagram.proofs.read.Goals as goal

pub returns : goal.returns
returns c = reads-taken c.args.bytes.now c.args.records.now c.write_65.new.out c.read-taken.result c.read-taken.ensures c.write_65.ensures
