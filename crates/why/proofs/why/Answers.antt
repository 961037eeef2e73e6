-- `why::why` meets its contract: 2, 5, then the rules.
-- Assumes nothing.
-- what has passed where each test was left
use mathlib.Core.Path.{◌≡◌, sym, ◌∙◌}
use mathlib.Core.Bool.{true}
use Rattle.address.specs.Here.{here}
use Rattle.model.specs.Sound.{sound}
use Rattle.node.specs.Views.{stored_view}
use Rattle.node.specs.Rows.{sound_ready}
use Rattle.why.proofs.Weighing.{why_unsound, why-out_of_range, why_weighs}
use Rattle.why.proofs.why.Lts as lts
use Rattle.why.proofs.why.Tie as tie
use Rattle.why.proofs.why.Reads as reads
use Rattle.why.proofs.why.Goals as goal

sound-there : (c : lts.Else1 tie.the-claims reads.Pre reads.Post) → sound here (stored_view c.args.node) ≡ true
sound-there c = sym c.sound.ensures ∙ c.if-not-sound.false

pub returns-then-not-sound : goal.returns-then-not-sound
returns-then-not-sound c =
    let a = c.args in
    why_unsound a.node a.g a.draws.now (sym c.sound.ensures ∙ c.if-not-sound.true)

pub returns-then-not-valid_gossip : goal.returns-then-not-valid_gossip
returns-then-not-valid_gossip c =
    let a = c.args in
    why-out_of_range a.node a.g a.draws.now (sound-there c.before.before.before) (sym c.valid_gossip.ensures ∙ c.if-not-valid_gossip.true)

pub weigh-requires : goal.weigh-requires
weigh-requires c = sound_ready c.args.node c.has_rows.ensures (sound-there c.before.before.before)

pub returns : goal.returns
returns c =
    let a = c.args in
    c.weigh.ensures ∙ why_weighs a.node a.g a.draws.now (sound-there c.before.before.before.before) (sym c.valid_gossip.ensures ∙ c.if-not-valid_gossip.false)
