-- `outgoing::gossips_len` meets its contract: the records passed and their length.
-- Assumes nothing.
use mathlib.Core.Path.{◌≡◌, ap, ◌∙◌}
use native.Mathlib.Omega.{arith}
use Prim.Native.Nat.{ℕ, ◌-◌, ◌+◌, ◌*◌, ◌≤◌}
use lib.ListN.{length, take}
use Rattle.incoming.specs.Encode.{gossip_fields}
use Rattle.outgoing.specs.Laying.{gossips_count, no_count}
use borrow.Author.Rules.{rules}
use Rattle.outgoing.proofs.gossips_len.Goals as goal

pub loop-i-init : goal.loop-i-init
loop-i-init c =
    (search rules, no_count, search rules)

pub bounds-row-i : goal.bounds-row-i
bounds-row-i c =
    omega arith

pub overflow_add-sum : goal.overflow_add-sum
overflow_add-sum c =
    omega (arith, c.wide.ensures, c.len.ensures.1)

pub overflow_add-sum-in-loop-i : goal.overflow_add-sum-in-loop-i
overflow_add-sum-in-loop-i c =
    let l = c.loop-i in
    omega (arith, c.wide.ensures, c.len.ensures.1, l.invariant.2)

pub loop-i-preserved : goal.loop-i-preserved
loop-i-preserved c =
    let l = c.loop-i in
    let e = c.wide.ensures in
    let n = c.len.ensures in
    let t = gossips_count c.args.row l.i (search rules) l.sum c.len.result l.invariant.1 n.0 n.1 in
    (omega arith, ap (λ (x : ℕ). l.sum + (2 + x)) e ∙ t, omega (arith, n.1, l.invariant.2))

pub returns : goal.returns
returns c =
    let l = c.loop-i in
    let e : l.i ≡ c.args.n = omega arith in
    (l.invariant.1 ∙ ap (λ (x : ℕ). length (gossip_fields (take x c.args.row))) e, omega (arith, l.invariant.2))
