-- `order::shuffle` meets its contract: what is left to do gives the answer of the whole.
-- Assumes nothing.
use mathlib.Core.Path.{◌≡◌, refl, ap, sym, ◌∙◌}
use mathlib.Core.List.{List}
use Prim.Native.Nat.{ℕ, ◌+◌, ◌-◌, ◌≤◌, ◌<◌, ◌%◌}
use native.Mathlib.Omega.{arith}
use native.Mathlib.Nat.{mod-lt}
use lib.ListN.{length, get_or, take, drop, length-set}
use lib.Seq.{length-take-le}
use Rattle.address.specs.Here.{Addr, here}
use Rattle.model.specs.Rows.{swap}
use Rattle.model.specs.Members.{shuffle_from, shuffle}
use Rattle.order.specs.Views.{shuffled_as}
use Rattle.order.proofs.Turns.{shuffle-turn, shuffle-short, shuffle-over, take-swap, drop-swap, shuffled_done}
use borrow.Author.Rules.{rules}
use Rattle.order.proofs.shuffle.Invariants.{Left}
use Rattle.order.proofs.shuffle.Goals as goal

-- the other place is below i
below : (d i : ℕ) → 0 < i → d % i < i
below d i h = mod-lt d h

pub loop-i-init : goal.loop-i-init
unfolding shuffle
loop-i-init c =
    let hl : length c.args.row ≡ 64 = search rules in
    record {
      few = omega arith;
      after = omega arith;
      within = search rules;
      long = hl;
      rest = refl;
      same = ap (λ (m : ℕ). shuffle_from here.blank (m - 1) (take c.args.n c.args.row) (drop c.args.from c.args.draws.now))
          (length-take-le c.args.n c.args.row (omega arith));
    }

pub returns-then-draws-next : goal.returns-then-draws-next
returns-then-draws-next c =
    let a = c.args in
    let l = c.loop-i in
    ap (shuffled_as a.row a.n (length a.draws.now - a.from))
    (sym (shuffle-short here.blank l.i (take a.n l.out) a.draws.now l.next c.loop-i-test.true c.if-draws-next.true) ∙ sym l.invariant.same)

pub offset_bounds-out-j : goal.offset_bounds-out-j
offset_bounds-out-j c = omega (arith, below (get_or c.args.draws.now c.loop-i.next 0) c.loop-i.i (omega arith))

pub bounds-out-j : goal.bounds-out-j
bounds-out-j c = omega (arith, below (get_or c.args.draws.now c.loop-i.next 0) c.loop-i.i (omega arith))

pub offset_bounds-out-j-in-loop-i : goal.offset_bounds-out-j-in-loop-i
offset_bounds-out-j-in-loop-i c = omega (arith, below (get_or c.args.draws.now c.loop-i.next 0) c.loop-i.i (omega arith))

pub bounds-out-j-in-loop-i : goal.bounds-out-j-in-loop-i
bounds-out-j-in-loop-i c = omega (arith, below (get_or c.args.draws.now c.loop-i.next 0) c.loop-i.i (omega arith))

pub loop-i-preserved : goal.loop-i-preserved
unfolding swap
loop-i-preserved c =
    let a = c.args in
    let l = c.loop-i in
    let j : ℕ = get_or a.draws.now l.next 0 % l.i in
    let k : ℕ = l.i - 1 in
    record {
      few = omega (arith, l.invariant.few);
      after = omega (arith, l.invariant.after);
      within = omega arith;
      long = simp length-set l.invariant.long;
      rest = drop-swap here.blank a.n l.out k j (omega (arith, l.invariant.few)) (omega (arith, below (get_or c.args.draws.now c.loop-i.next 0) c.loop-i.i (omega arith), l.invariant.few)) ∙ l.invariant.rest;
      same =
          l.invariant.same
          ∙ shuffle-turn here.blank l.i (take a.n l.out) a.draws.now l.next (omega arith) (omega arith)
          ∙ ap (λ (r : List Addr). shuffle_from here.blank (k - 1) r (drop (l.next + 1) a.draws.now))
          (sym (take-swap here.blank a.n l.out k j (omega (arith, l.invariant.few)) (omega (arith, below (get_or c.args.draws.now c.loop-i.next 0) c.loop-i.i (omega arith), l.invariant.few))));
    }

pub returns : goal.returns
returns c =
    let a = c.args in
    let l = c.loop-i in
    shuffled_done a.row l.out a.draws.now a.n a.from l.next l.invariant.rest l.invariant.after l.invariant.within
    ∙ ap (shuffled_as a.row a.n (length a.draws.now - a.from))
    (sym (shuffle-over here.blank l.i (take a.n l.out) (drop l.next a.draws.now) c.loop-i-test.false) ∙ sym l.invariant.same)
