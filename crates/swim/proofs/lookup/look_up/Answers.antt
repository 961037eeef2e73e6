-- 2, 5, then what the list answers.
use Rattle.std.proofs.Common.{true, false, sym, ◌∙◌}
use Rattle.node.specs.Views.{view_node}
use Rattle.node.specs.Rows.{sound_ready}
use Rattle.swim.specs.declared.lookup.Lookup.TheVariants as look
use Rattle.swim.proofs.Looking.{look_unsound, look_address, look-says}
use Rattle.swim.proofs.lookup.look_up.Goals as goal

pub returns-then-not-sound : goal.returns-then-not-sound
returns-then-not-sound c = look_unsound c.args.node c.args.a (sym c.sound.ensures ∙ c.if-not-sound.true)

pub returns-then-not-in_range : goal.returns-then-not-in_range
returns-then-not-in_range c =
    look_address c.args.node (sym c.sound.ensures ∙ c.if-not-sound.false) c.args.a (sym c.in_range.ensures ∙ c.if-not-in_range.true)

pub lists-requires : goal.lists-requires
lists-requires c = (sound_ready c.args.node c.has_rows.ensures (sym c.sound.ensures ∙ c.if-not-sound.false)).members

pub returns-then-not-lists : goal.returns-then-not-lists
unfolding view_node
returns-then-not-lists c =
    look-says c.args.node (sym c.sound.ensures ∙ c.if-not-sound.false) c.args.a (sym c.in_range.ensures ∙ c.if-not-in_range.false) false (sym c.lists.ensures ∙ c.if-not-lists.true)

pub member_state-state-requires : goal.member_state-state-requires
member_state-state-requires c = (sound_ready c.args.node c.has_rows.ensures (sym c.sound.ensures ∙ c.if-not-sound.false)).members

pub member_number-number-requires : goal.member_number-number-requires
member_number-number-requires c = (sound_ready c.args.node c.has_rows.ensures (sym c.sound.ensures ∙ c.if-not-sound.false)).members

pub returns : goal.returns
unfolding view_node
returns c =
    (λ i. look.Listed c.args.a (c.member_state-state.ensures i) (c.member_number-number.ensures i))
    ∙ look-says c.args.node (sym c.sound.ensures ∙ c.if-not-sound.false) c.args.a (sym c.in_range.ensures ∙ c.if-not-in_range.false) true (sym c.lists.ensures ∙ c.if-not-lists.false)
