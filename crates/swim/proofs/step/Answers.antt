-- The step over lent rows and a lent wait record is the step by value, its records written over the rows.
use Rattle.swim.specs.Promises.{step_of}
use Rattle.swim.specs.Laws.{stepped-ends, stepped-waits}
use Rattle.swim.proofs.step.Goals as goal

pub returns : goal.returns
returns c =
    let a = c.args in
    let o = step_of a.node a.wait.now a.tick a.draws.now a.gossip.now a.events.now in
    record {
      ends = stepped-ends a.gossip.now a.events.now c.write_256.new.out c.write_1.new.out o c.step-done.result c.step-done.ensures.0 c.write_256.ensures c.write_1.ensures;
      waits = stepped-waits o c.step-done.result c.step-done.ensures.0;
    }
