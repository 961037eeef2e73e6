-- `departed::sound::all_distinct` meets its contract: those from i on stand once, and their slots are marked.
-- Assumes nothing.
use mathlib.Core.Path.{◌≡◌, refl, ap, sym, ◌∙◌, subst}
use mathlib.Core.Bool.{true}
use Prim.Native.Nat.{ℕ, ◌-◌, ◌≤◌}
use native.Mathlib.Omega.{arith}
use lib.ListN.{length, drop}
use Rattle.address.specs.Here.{here}
use Rattle.model.specs.Sound.{distinct}
use Rattle.departed.proofs.Seeking.{addresses, none_left}
use Rattle.departed.proofs.Marking.{Marked, mark-start, unmarked, again, once, marks-next}
use borrow.Author.Rules.{rules}
use Rattle.departed.proofs.sound.all_distinct.Goals as goal

pub loop-i-init : goal.loop-i-init
loop-i-init c =
    let a = c.args in
    let long : length a.entries ≡ 128 = search rules in
    let w : a.n ≤ length a.entries = omega arith in
    let none = none_left a.entries a.n w a.n (omega arith) in
    (w, omega arith, ap (distinct here.same) none, rw none (mark-start _ refl))

pub stands_behind-requires : goal.stands_behind-requires
stands_behind-requires c =
    let a = c.args in
    let l = c.loop-i in
    (omega arith, l.invariant.1, unmarked l.marks _ _ c.slot-slot.result _ l.invariant.3 c.slot-slot.ensures.0 refl)

pub returns-then-stands_behind : goal.returns-then-stands_behind
returns-then-stands_behind c =
    let a = c.args in
    let l = c.loop-i in
    sym (again a.entries a.n l.invariant.0 l.i (l.i - 1) (omega arith) (omega arith) _ c.stands_behind.ensures c.if-stands_behind.true)

pub loop-i-preserved : goal.loop-i-preserved
loop-i-preserved c =
    let a = c.args in
    let l = c.loop-i in
    let s = c.slot-slot in
    let less : l.i - 1 ≤ a.n = omega arith in (
      l.invariant.0,
      less,
      once a.entries a.n l.invariant.0 l.i (l.i - 1) (omega arith) (omega arith) _ c.stands_behind.ensures c.if-stands_behind.false l.invariant.2,
      marks-next a.entries a.n l.invariant.0 l.i (l.i - 1) (omega arith) (omega arith) l.marks s.result l.invariant.3 s.ensures.0 s.ensures.1,
    )

pub returns : goal.returns
returns c =
    let l = c.loop-i in
    let done : l.i ≡ 0 = omega arith in
    sym (subst (λ (k : ℕ). distinct here.same (drop k (addresses c.args.entries c.args.n l.invariant.0)) ≡ true) done l.invariant.2)
