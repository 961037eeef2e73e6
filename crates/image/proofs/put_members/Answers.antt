-- `image::put_members` meets its contract: the rows passed stand there.
-- Assumes nothing.
use mathlib.Core.Path.{◌≡◌, ap}
use mathlib.Core.List.{map}
use Prim.Native.Nat.{ℕ, ◌-◌, ◌≤◌}
use lib.ListN.{take}
use Rattle.member.specs.Views.{to_member}
use Rattle.varint.specs.Laid.{Laid, laid_as}
use Rattle.image.specs.Views.{members_bytes}
use Rattle.image.proofs.Laying.{none-laid, place-room, more-laid}
use native.Mathlib.Omega.{arith}
use borrow.Author.Rules.{rules}
use Rattle.image.proofs.put_members.Goals as goal

pub loop-i-init : goal.loop-i-init
loop-i-init c = (search rules, none-laid _ _ _)

pub put_member-next-requires : goal.put_member-next-requires
put_member-next-requires c =
    let l = c.loop-i in
    place-room c.args.wide c.args.rows c.args.n l.i _ (search rules) (search rules) c.requires.1 l.invariant.1

pub loop-i-preserved : goal.loop-i-preserved
loop-i-preserved c =
    let l = c.loop-i in
    (omega arith, more-laid c.args.rows l.i (search rules) c.args.wide l.invariant.1 c.put_member-next.ensures)

pub shape_of-out : goal.shape_of-out
shape_of-out c = c.loop-i.invariant.1.long

pub returns : goal.returns
returns c =
    let l = c.loop-i in
    let e : l.i ≡ c.args.n = omega arith in
    laid_as _ _ (ap (λ (x : ℕ). members_bytes c.args.wide (map to_member (take x c.args.rows))) e) l.invariant.1
