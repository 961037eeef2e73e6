-- `image::needs_wide` meets its contract: own, then the rows passed.
-- Assumes nothing.
use mathlib.Core.Path.{◌≡◌}
use mathlib.Core.Bool.{◌||◌}
use Prim.Native.Nat.{◌-◌, ◌≤◌}
use Rattle.image.specs.Forms.{some}
use Rattle.image.specs.Versions.{is_v6}
use Rattle.image.specs.Views.{addresses_of}
use Rattle.image.proofs.Laying.{wide-none, wide-more, wide-told}
use native.Mathlib.Omega.{arith}
use borrow.Author.Rules.{rules}
use Rattle.image.proofs.needs_wide.Goals as goal

pub loop-i-init : goal.loop-i-init
loop-i-init c = (search rules, wide-none _)

pub loop-i-preserved : goal.loop-i-preserved
loop-i-preserved c =
    let l = c.loop-i in
    (omega arith, wide-more c.args.rows l.i (search rules) c.is_v6-found.result l.found _ _ l.invariant.1 c.is_v6.ensures c.either-found.ensures)

pub returns : goal.returns
returns c =
    let l = c.loop-i in
    let e : l.i ≡ c.args.n = omega arith in
    wide-told c.args.own c.args.rows c.args.n c.is_v6-found.result l.found c.is_v6-found.ensures (rw e at l.invariant.1)
