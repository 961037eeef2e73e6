-- `why::weigh` meets its contract: the verdict is stopped, or it is the reason.
-- Assumes nothing.
-- the answer of the rules, and the reason of the verdict unless it is stopped
use mathlib.Core.Path.{ap, sym, ◌∙◌}
use Rattle.types.specs.declared.Parts.{Parts}
use Rattle.disseminate.specs.declared.Found.{Found}
use Rattle.node.specs.declared.Node.{Node}
use Rattle.rules.specs.declared.Verdict.{Verdict}
use Rattle.types.specs.Views.{to_parts}
use Rattle.member.specs.Views.{view_members}
use Rattle.node.specs.Views.{view_node}
use Rattle.rules.specs.Views.{to_verdict}
use Rattle.why.specs.declared.Grounds.{Grounds}
use Rattle.why.specs.declared.Stop.{Stop}
use Rattle.why.specs.Stopped.{unless_stopped, parts_grounds}
use Rattle.why.proofs.Weighing.{weighing}
use Rattle.why.proofs.weigh.Goals as goal

-- the reason that is given unless the stop is one
abbrev reason_unless : Node → Parts → Found → Verdict → Stop → Grounds
reason_unless n p d v x = unless_stopped x (parts_grounds (view_members n.members).table (to_parts p) d (to_verdict v))

pub returns-in-By : goal.returns-in-By
unfolding view_node
returns-in-By c =
    let a = c.args in
    let reason = reason_unless a.node c.parts_of-parts.result c.death_of-dead.result c.judge-verdict.result in
    sym (ap reason c.in-By.is)
    ∙ ap reason c.stop_of-stop.ensures
    ∙ weighing a.node a.g.event a.draws.now c.parts_of-parts.result c.death_of-dead.result c.judge-verdict.result c.parts_of-parts.ensures c.death_of-dead.ensures c.judge-verdict.ensures

pub returns-in-Nothing : goal.returns-in-Nothing
unfolding view_node
returns-in-Nothing c =
    let a = c.args in
    let reason = reason_unless a.node c.parts_of-parts.result c.death_of-dead.result c.judge-verdict.result in
    c.because.ensures
    ∙ sym (ap reason c.in-Nothing.is)
    ∙ ap reason c.stop_of-stop.ensures
    ∙ weighing a.node a.g.event a.draws.now c.parts_of-parts.result c.death_of-dead.result c.judge-verdict.result c.parts_of-parts.ensures c.death_of-dead.ensures c.judge-verdict.ensures
