-- `cwords::nodes::head_words` meets its contract.
-- Assumes nothing.
use native.Mathlib.Omega.{arith}
use Rattle.cwords.specs.Writing.{head_words}
use Rattle.cwords.proofs.nodes.head_words.Goals as goal

pub returns : goal.returns
unfolding head_words
returns c =
    let t1 = c.wide_tick.ensures in
    let t2 = c.wide_tick-2.ensures in
    let t3 = c.wide_tick-3.ensures in
    let t4 = c.wide_tick-4.ensures in
    let own = c.first_word.ensures in (
      rw (t1.0, t2.0, t3.0, t4.0, c.switch_word.ensures, c.switch_word-2.ensures, own.0),
      ((omega (arith, t1.0, t1.1), omega (arith, t2.0, t2.1), omega (arith, t3.0, t3.1), omega (arith, t4.0, t4.1)), own.1),
    )
