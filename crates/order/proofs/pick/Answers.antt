-- `order::pick` meets its contract: what is left to look for gives the answer of the whole.
-- Assumes nothing.
use mathlib.Core.Path.{◌≡◌, ap, sym, ◌∙◌}
use Prim.Native.Nat.{◌+◌, ◌-◌, ◌≤◌, ◌<◌}
use mathlib.Core.Bool.{true}
use native.Mathlib.Omega.{arith}
use native.Mathlib.Nat.{mul-le-mul, le_trans, lt_of_le_of_lt}
use mir.Val.{Fits}
use mir.Syntax.{w64}
use lib.ListN.{length}
use lib.Dec.{lit<}
use Rattle.order.specs.declared.Picked.{Picked}
use Rattle.order.specs.Views.{goes_further}
use Rattle.order.proofs.Picking.{Left, left-start, left_stop, left-short, left-look, left-count, look_bounds, used_fits}
use borrow.Author.Rules.{rules}
use Rattle.order.proofs.pick.Goals as goal

pub overflow_mul-left : goal.overflow_mul-left
overflow_mul-left c =
    record { fits = lt_of_le_of_lt (mul-le-mul c.looks.ensures.within (le_trans c.cap-capped.ensures.within.0 c.requires.1)) (lit< tt) }

pub loop-order-init : goal.loop-order-init
loop-order-init c =
    let a = c.args in
    left-start a.order a.n a.own a.exclusion a.wanted a.draws.now a.from c.cap-capped.result c.looks.result c.none-picks.result
    c.requires.0 c.requires.1 c.requires.2 c.cap-capped.ensures.value c.cap-capped.ensures.within c.looks.ensures.value c.none-picks.ensures

pub offset_bounds-row-position : goal.offset_bounds-row-position
offset_bounds-row-position c = omega (arith, c.loop-order.invariant.ready.place, c.loop-order.invariant.ready.few)

pub bounds-row-position : goal.bounds-row-position
bounds-row-position c = omega (arith, c.loop-order.invariant.ready.place, c.loop-order.invariant.ready.few)

pub advance-turned-requires : goal.advance-turned-requires
advance-turned-requires c =
    let i = c.loop-order.invariant in
    let b = look_bounds c.args.order c.args.n c.args.own c.args.exclusion c.args.wanted c.args.draws.now c.args.from c.cap-capped.result
    c.loop-order.left c.loop-order.ahead c.loop-order.picks c.loop-order.next c.loop-order.invariant (sym c.goes_on.ensures ∙ c.loop-order-test.true) in
    (i.ready, b.0, i.within)

pub overflow_add-next : goal.overflow_add-next
overflow_add-next c =
    let l = c.loop-order in
    let a = c.args in
    let h : l.next + c.in-Used.used ≤ length a.draws.now =
    used_fits a.order a.n a.own a.exclusion a.wanted a.draws.now a.from l.ahead l.next c.advance-turned.result _ l.invariant.within c.advance-turned.ensures c.in-Used.is in
    let long : Fits w64 (length a.draws.now) = search rules in
    omega (arith, long.fits)

pub returns-in-Refused : goal.returns-in-Refused
returns-in-Refused c =
    let l = c.loop-order in
    let a = c.args in
    let nobody : c.without.result.picks.count ≡ 0 = ap (λ (p : Picked). p.picks.count) c.without.ensures in record {
      value = c.without.ensures
          ∙ left-short a.order a.n a.own a.exclusion a.wanted a.draws.now a.from _ l.left l.ahead l.picks l.next c.advance-turned.result _
          l.invariant (sym c.goes_on.ensures ∙ c.loop-order-test.true) c.advance-turned.ensures c.in-Refused.is;
      within = omega arith;
    }

pub noted-picks-requires : goal.noted-picks-requires
noted-picks-requires c =
    let b = look_bounds c.args.order c.args.n c.args.own c.args.exclusion c.args.wanted c.args.draws.now c.args.from c.cap-capped.result
    c.loop-order.left c.loop-order.ahead c.loop-order.picks c.loop-order.next c.loop-order.invariant (sym c.goes_on.ensures ∙ c.loop-order-test.true) in
    b.2

pub overflow_sub-left : goal.overflow_sub-left
overflow_sub-left c =
    let b = look_bounds c.args.order c.args.n c.args.own c.args.exclusion c.args.wanted c.args.draws.now c.args.from c.cap-capped.result
    c.loop-order.left c.loop-order.ahead c.loop-order.picks c.loop-order.next c.loop-order.invariant (sym c.goes_on.ensures ∙ c.loop-order-test.true) in
    b.1

pub loop-order-smaller : goal.loop-order-smaller
loop-order-smaller c =
    let b = look_bounds c.args.order c.args.n c.args.own c.args.exclusion c.args.wanted c.args.draws.now c.args.from c.cap-capped.result
    c.loop-order.left c.loop-order.ahead c.loop-order.picks c.loop-order.next c.loop-order.invariant (sym c.goes_on.ensures ∙ c.loop-order-test.true) in
    omega (arith, b.1)

pub loop-order-preserved : goal.loop-order-preserved
loop-order-preserved c =
    let l = c.loop-order in
    let a = c.args in
    left-look a.order a.n a.own a.exclusion a.wanted a.draws.now a.from _ l.left l.ahead l.picks l.next c.advance-turned.result _ c.passed.result c.noted-picks.result
    l.invariant (sym c.goes_on.ensures ∙ c.loop-order-test.true) c.advance-turned.ensures c.in-Used.is c.passed.ensures c.noted-picks.ensures

pub overflow_sub-result : goal.overflow_sub-result
overflow_sub-result c = c.loop-order.invariant.after

pub returns : goal.returns
returns c =
    let l = c.loop-order in
    let a = c.args in record {
      value = left_stop a.order a.n a.own a.exclusion a.wanted a.draws.now a.from _ l.left l.ahead l.picks l.next
          l.invariant (sym c.goes_on.ensures ∙ c.loop-order-test.false);
      within = left-count a.order a.n a.own a.exclusion a.wanted a.draws.now a.from _ l.left l.ahead l.picks l.next l.invariant;
    }
