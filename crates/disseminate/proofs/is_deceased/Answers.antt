-- `disseminate::is_deceased` meets its contract: what is left of the row gives the same answer.
-- Assumes nothing.
use mathlib.Core.Path.{◌≡◌, refl, sym, ◌∙◌}
use mathlib.Core.List.{map}
use Prim.Native.Nat.{◌≤◌, ◌-◌}
use native.Mathlib.Omega.{arith}
use lib.ListN.{length, take, drop}
use Rattle.address.specs.Here.{here}
use Rattle.model.specs.Choose.{death}
use Rattle.heap.specs.Views.{to_entry, packed-length}
use Rattle.disseminate.proofs.Dying.{found, onward, nowhere}
use borrow.Author.Rules.{rules}
use Rattle.disseminate.proofs.is_deceased.Goals as goal

pub loop-i-init : goal.loop-i-init
loop-i-init c =
    let h = c.args.h in
    let p = c.requires in
    (p.few, omega (arith, packed-length h p, p.few), refl)

pub returns-in-At : goal.returns-in-At
returns-in-At c =
    let a = c.args in
    found a.a a.h.len a.h.entries c.loop-i.invariant.1 c.loop-i.i _ (search rules) c.loop-i.invariant.2
    (sym c.death_in-f.ensures ∙ c.in-At.is)

pub loop-i-preserved : goal.loop-i-preserved
loop-i-preserved c =
    let a = c.args in (
      c.loop-i.invariant.0,
      c.loop-i.invariant.1,
      onward a.a a.h.len a.h.entries c.loop-i.invariant.1 c.loop-i.i (search rules) c.loop-i.invariant.2
          (sym c.death_in-f.ensures ∙ c.in_default.is),
    )

pub returns : goal.returns
returns c =
    let a = c.args in
    nowhere a.a a.h.len a.h.entries c.loop-i.invariant.1 _ c.loop-i-test.false c.loop-i.invariant.2
