-- `pinging::ask_each` meets its contract: what is left gives the answer of the whole.
-- Assumes nothing.
use native.Mathlib.Omega.{arith}
use Rattle.pinging.proofs.Asking.{left-start, left_bounds, left-node, left-mail, left_stop, left-next}
use Rattle.pinging.proofs.ask_each.Goals as goal

pub loop-i-init : goal.loop-i-init
loop-i-init c =
    let a = c.args in
    left-start c.none-mail.result c.requires.0 c.none-mail.ensures c.requires.1 (omega (arith, c.requires.1, c.has_picks.ensures))

pub offset_bounds-row-i : goal.offset_bounds-row-i
offset_bounds-row-i c = omega (arith, c.loop-i-test.true, c.loop-i.invariant.few)

pub bounds-row-i : goal.bounds-row-i
bounds-row-i c = omega (arith, c.loop-i-test.true, c.loop-i.invariant.few)

pub ask_one-asked-requires : goal.ask_one-asked-requires
ask_one-asked-requires c =
    let l = c.loop-i in
    let a = c.args in
    let b = left_bounds l.invariant in (
      left-node l.invariant,
      left-mail l.invariant,
      omega (arith, b.0, c.loop-i-test.true, l.invariant.few),
      omega (arith, b.1, c.loop-i-test.true, l.invariant.few),
    )

pub overflow_add-i : goal.overflow_add-i
overflow_add-i c = omega (arith, c.loop-i-test.true, c.loop-i.invariant.few)

pub loop-i-smaller : goal.loop-i-smaller
loop-i-smaller c = omega (arith, c.loop-i-test.true)

pub loop-i-preserved : goal.loop-i-preserved
loop-i-preserved c =
    let l = c.loop-i in
    let a = c.args in
    left-next l.invariant c.loop-i-test.true c.ask_one-asked.result c.ask_one-asked.ensures.value c.ask_one-asked.ensures.within

pub returns : goal.returns
returns c =
    let l = c.loop-i in
    let a = c.args in
    let b = left_bounds l.invariant in record { value = left_stop l.invariant c.loop-i-test.false; within = omega (arith, b.1, l.invariant.within, l.invariant.few) }
