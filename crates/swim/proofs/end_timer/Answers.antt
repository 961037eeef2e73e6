-- The timer call over a lent row is the timer call by value, its record written over the row.
use Rattle.swim.specs.Promises.{timer_of}
use Rattle.swim.specs.Laws.{ended-answer, ended-told}
use Rattle.swim.proofs.end_timer.Goals as goal

pub returns : goal.returns
returns c =
    let a = c.args in
    let o = timer_of a.node a.tick a.events.now in
    record {
      answer = ended-answer a.events.now c.write_1.new.out o c.end_timer-done.result c.end_timer-done.ensures.0;
      told = ended-told a.events.now c.write_1.new.out o c.end_timer-done.result c.end_timer-done.ensures.0 c.write_1.ensures;
    }
