-- `timers::first_over` meets its contract: none of the first i is over.
-- Assumes nothing.
use Rattle.std.proofs.Common.{◌≡◌, ◌-◌, length, take, sym, ap, ◌∙◌, arith, rules}
use Rattle.laws.specs.Loops.{Sought, seek-first, seek_found, seek-next, seek-ends}
use Rattle.timers.specs.Views.{no_timer, ending_of}
use Rattle.timers.specs.declared.Ending.TheVariants.{At}
use Rattle.timers.proofs.Searching.{over, over_first, over_none}
use Rattle.timers.proofs.first_over.Goals as goal

pub loop-i-init : goal.loop-i-init
loop-i-init c =
    let long : length c.args.entries ≡ 16 = search rules in
    seek-first (over c.args.wait c.args.now) c.args.entries c.args.n (omega arith)

pub returns-then-is_over : goal.returns-then-is_over
returns-then-is_over c =
    let a = c.args in
    let found = seek_found no_timer c.loop-i.invariant _ (omega arith) c.is_over.ensures c.if-is_over.true in
    ap At found ∙ sym (ap ending_of (over_first a.wait a.now (take a.n a.entries) (omega (arith, found, c.loop-i.invariant.within))))

pub loop-i-preserved : goal.loop-i-preserved
loop-i-preserved c = let l = c.loop-i in seek-next no_timer l.invariant _ (omega arith) c.is_over.ensures c.if-is_over.false

pub returns : goal.returns
returns c =
    let a = c.args in
    sym (ap ending_of (over_none a.wait a.now (take a.n a.entries) (omega (arith, seek-ends no_timer c.loop-i.invariant (omega arith), c.loop-i.invariant.within))))
