-- `saving::set_up` meets its contract: 1, or the node.
-- Assumes nothing.
use mathlib.Core.Path.{◌∙◌}
use Rattle.saving.proofs.Restoring.{set_up_refused, set_up_done}
use mathlib.Core.Path.{ap}
use mathlib.Core.Bool.{not}
use Rattle.saving.proofs.set_up.Goals as goal

pub returns-then-not-in_range : goal.returns-then-not-in_range
returns-then-not-in_range c =
    let a = c.args in
    set_up_refused a.loaded a.settings a.tick _ _ c.in_range.ensures (ap not c.if-not-in_range.true) c.refused.ensures

pub returns : goal.returns
returns c =
    let a = c.args in
    (λ i. record { answer = c.plain.ensures i; wait = c.new-4.ensures i })
    ∙ set_up_done a.loaded a.settings a.tick _ _ c.in_range.ensures (ap not c.if-not-in_range.false)
    (λ i. record {
      settings = a.settings;
      own = a.loaded.own;
      members = c.members_of.ensures i;
      disseminator = c.new.ensures i;
      timers = c.new-2.ensures i;
      departed = c.new-3.ensures i;
    })
