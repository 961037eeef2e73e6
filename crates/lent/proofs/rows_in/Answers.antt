-- One more record is a store behind those that were laid.
use Rattle.std.proofs.Common.{arith}
use Rattle.types.specs.Views.{no_gossip}
use Rattle.lent.proofs.Rows.{laid_more}
use Rattle.lent.proofs.rows_in.Goals as goal

pub loop-i-preserved : goal.loop-i-preserved
loop-i-preserved c =
    (omega arith, laid_more c.loop-i.i c.args.s.now c.args.a c.loop-i.a no_gossip c.loop-i.invariant.1 (omega arith) (omega arith))
