-- `outgoing::write_gossips` meets its contract: the records passed stand in the row.
-- Assumes nothing.
use mathlib.Core.Path.{◌≡◌, ap}
use native.Mathlib.Omega.{arith}
use Prim.Native.Nat.{ℕ, ◌-◌, ◌≤◌}
use lib.ListN.{take}
use Rattle.varint.specs.Laid.{Laid, laid_as}
use Rattle.incoming.specs.Encode.{gossip_fields}
use Rattle.outgoing.specs.Laying.{gossips_laid, gossips_room, no_laid}
use borrow.Author.Rules.{rules}
use Rattle.outgoing.proofs.write_gossips.Goals as goal

pub loop-i-init : goal.loop-i-init
loop-i-init c =
    (search rules, no_laid _ _)

pub bounds-row-i : goal.bounds-row-i
bounds-row-i c =
    omega arith

pub write_gossip-next-requires : goal.write_gossip-next-requires
write_gossip-next-requires c =
    let l = c.loop-i in
    gossips_room c.args.row l.i (search rules) c.args.n (search rules) (search rules) c.requires.1 l.invariant.1

pub loop-i-preserved : goal.loop-i-preserved
loop-i-preserved c =
    let l = c.loop-i in
    (omega arith, gossips_laid c.args.row l.i (search rules) l.invariant.1 c.write_gossip-next.ensures)

pub shape_of-out : goal.shape_of-out
shape_of-out c =
    c.loop-i.invariant.1.long

pub returns : goal.returns
returns c =
    let l = c.loop-i in
    let e : l.i ≡ c.args.n = omega arith in
    laid_as _ _ (ap (λ (x : ℕ). gossip_fields (take x c.args.row)) e) l.invariant.1
