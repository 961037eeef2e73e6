-- `saving::save` meets its contract: 2, then 12, else the image.
-- Assumes nothing.
use mathlib.Core.Path.{sym, ◌∙◌}
use native.Mathlib.Omega.{arith}
use Rattle.node.specs.Rows.{sound_ready}
use Rattle.saving.proofs.Ordering.{count_is}
use Rattle.saving.proofs.Keeping.{save_unsound, save-short, save-whole}
use Rattle.saving.proofs.save.Goals as goal

pub returns-then-not-sound : goal.returns-then-not-sound
returns-then-not-sound c =
    let a = c.args in
    save_unsound a.node a.out.now (sym c.sound.ensures ∙ c.if-not-sound.true)

pub len-n-requires : goal.len-n-requires
len-n-requires c = (sound_ready c.args.node c.has_rows.ensures (sym c.sound.ensures ∙ c.if-not-sound.false)).members

pub in_order-rows-requires : goal.in_order-rows-requires
in_order-rows-requires c = (sound_ready c.args.node c.has_rows.ensures (sym c.sound.ensures ∙ c.if-not-sound.false)).members

pub write-written-requires : goal.write-written-requires
write-written-requires c =
    let held = (sound_ready c.args.node c.has_rows.ensures (sym c.sound.ensures ∙ c.if-not-sound.false)).members in
    omega (arith, count_is _ held _ c.len-n.ensures.value, held.packed.few)

pub returns-in-TooLong : goal.returns-in-TooLong
returns-in-TooLong c =
    let a = c.args in
    let held = (sound_ready c.args.node c.has_rows.ensures (sym c.sound.ensures ∙ c.if-not-sound.false)).members in
    save-short a.node a.out.now (sym c.sound.ensures ∙ c.if-not-sound.false) _ _ held c.in_order-rows.ensures (count_is _ held _ c.len-n.ensures.value) _ _
    c.write-written.ensures.0 c.write-written.ensures.1 c.in-TooLong.is

pub returns-in-Whole : goal.returns-in-Whole
returns-in-Whole c =
    let a = c.args in
    let held = (sound_ready c.args.node c.has_rows.ensures (sym c.sound.ensures ∙ c.if-not-sound.false)).members in
    save-whole a.node a.out.now (sym c.sound.ensures ∙ c.if-not-sound.false) _ _ held c.in_order-rows.ensures (count_is _ held _ c.len-n.ensures.value) _ _
    c.write-written.ensures.0 c.write-written.ensures.1 _ c.in-Whole.is
