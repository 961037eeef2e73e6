-- `ranges::valid_rows` meets its contract: what is left of the records still decides the answer.
-- Assumes nothing.
use mathlib.Core.Path.{◌≡◌, refl, ap, sym, ◌∙◌}
use borrow.Author.Rules.{rules}
use mathlib.Core.Bool.{Bool}
use mathlib.Core.List.{List, map}
use Prim.Native.Nat.{◌-◌, ◌≤◌}
use native.Mathlib.Omega.{arith}
use lib.ListN.{length, take, drop}
use borrow.Author.Tests.{not-true, not-false}
use lib.Seq.{get_or-take, length-take-le}
use Rattle.address.specs.Here.{here}
use Rattle.model.specs.Rows.{every}
use Rattle.model.specs.Sound.{valid_gossip}
use Rattle.laws.specs.Bools.{every_map, loop_fails, loop_next, loop_ends}
use Rattle.types.specs.declared.Gossip.{Gossip}
use Rattle.types.specs.Views.{to_gossip, no_gossip}
use Rattle.ranges.proofs.valid_rows.Invariants.{valid}
use Rattle.ranges.proofs.valid_rows.Goals as goal

-- the records as the rules have them
as-rules : (l : List Gossip) → every valid l ≡ every (valid_gossip here) (map to_gossip l)
as-rules l = sym (every_map (valid_gossip here) to_gossip l)

pub loop-i-init : goal.loop-i-init
loop-i-init c = (omega arith, refl)

pub returns-then-not-valid_gossip : goal.returns-then-not-valid_gossip
returns-then-not-valid_gossip c =
    let at = c.loop-i in
    let a = c.args in
    let long : length a.rows ≡ 64 = search rules in
    let n : length (take a.given a.rows) ≡ a.given = length-take-le a.given a.rows (omega arith) in
    sym (loop_fails valid no_gossip (take a.given a.rows) _ at.i at.invariant.1 (omega arith)
    (ap valid (get_or-take a.given a.rows at.i no_gossip (omega arith)) ∙ sym c.valid_gossip.ensures ∙ c.if-not-valid_gossip.true))
    ∙ as-rules (take a.given a.rows)

pub loop-i-preserved : goal.loop-i-preserved
loop-i-preserved c =
    let at = c.loop-i in
    let a = c.args in
    let long : length a.rows ≡ 64 = search rules in
    let n : length (take a.given a.rows) ≡ a.given = length-take-le a.given a.rows (omega arith) in (
      omega arith,
      loop_next valid no_gossip (take a.given a.rows) _ at.i at.invariant.1 (omega arith)
          (ap valid (get_or-take a.given a.rows at.i no_gossip (omega arith)) ∙ sym c.valid_gossip.ensures ∙ c.if-not-valid_gossip.false),
    )

pub returns : goal.returns
returns c =
    let a = c.args in
    let long : length a.rows ≡ 64 = search rules in
    let n : length (take a.given a.rows) ≡ a.given = length-take-le a.given a.rows (omega arith) in
    sym (loop_ends valid no_gossip (take a.given a.rows) _ c.loop-i.i c.loop-i.invariant.1 (omega arith)) ∙ as-rules (take a.given a.rows)
