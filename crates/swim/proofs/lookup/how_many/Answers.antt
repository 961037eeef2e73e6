-- 2, then what the list answers.
use Rattle.std.proofs.Common.{ap, sym, ◌∙◌}
use Rattle.node.specs.Views.{view_node}
use Rattle.node.specs.Rows.{sound_ready}
use Rattle.swim.specs.declared.lookup.Tally.TheVariants as tally
use Rattle.swim.proofs.Looking.{many_unsound, many-listed}
use Rattle.swim.proofs.lookup.how_many.Goals as goal

pub returns-then-not-sound : goal.returns-then-not-sound
returns-then-not-sound c = many_unsound c.args.node (sym c.sound.ensures ∙ c.if-not-sound.true)

pub len-requires : goal.len-requires
len-requires c = (sound_ready c.args.node c.has_rows.ensures (sym c.sound.ensures ∙ c.if-not-sound.false)).members

pub returns : goal.returns
unfolding view_node
returns c = ap tally.Listed c.len.ensures.value ∙ many-listed c.args.node (sym c.sound.ensures ∙ c.if-not-sound.false)
