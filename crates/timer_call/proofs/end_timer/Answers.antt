-- `timer_call::end_timer` meets its contract: 2, 3, not due, then the timer that ends.
-- Assumes nothing.
use mathlib.Core.Path.{◌≡◌, ap, sym, ◌∙◌}
use mathlib.Core.Bool.{true}
use native.Mathlib.Omega.{arith}
use borrow.Author.Rules.{rules}
use borrow.Author.Tests.{not-true, not-false}
use Rattle.address.specs.Here.{here}
use Rattle.model.specs.Sound.{sound}
use Rattle.node.specs.Views.{stored_view, view_node}
use Rattle.node.specs.Rows.{Ready, sound_ready}
use Rattle.timer_call.specs.declared.Ended.{Ended}
use Rattle.timer_call.proofs.TimerEnds.{timer_short, timer_room-there, ending-some, ending-none, over_in, Call, end_unsound, end_short, end_not_due, end_due}
use Rattle.timer_call.proofs.end_timer.Lts as lts
use Rattle.timer_call.proofs.end_timer.Tie as tie
use Rattle.timer_call.proofs.end_timer.Reads as reads
use Rattle.timer_call.proofs.end_timer.Goals as goal

abbrev call : lts.Start tie.the-claims reads.Pre reads.Post → Call
call s = record { node = s.args.node; tick = s.args.tick; lent = record { gossip = s.args.gossip_room; events = s.args.event_room } }

sound-there : (c : lts.Else1 tie.the-claims reads.Pre reads.Post) → sound here (stored_view c.args.node) ≡ true
sound-there c = sym c.sound.ensures ∙ c.if-not-sound.false

ready-there : (c : lts.Else1 tie.the-claims reads.Pre reads.Post) → Ready c.args.node
ready-there c = sound_ready c.args.node c.has_rows.ensures (sound-there c)

pub returns-then-not-sound : goal.returns-then-not-sound
returns-then-not-sound c =
    let q = ap (λ (x : Ended). x.reported) c.plain.ensures in
    (c.plain.ensures ∙ end_unsound (call c.before.before.before.before) (sym c.sound.ensures ∙ c.if-not-sound.true), omega (arith, q), omega (arith, q))

pub returns-then-event_room-lt-EVENTS : goal.returns-then-event_room-lt-EVENTS
returns-then-event_room-lt-EVENTS c =
    let q = ap (λ (x : Ended). x.reported) c.plain-then-event_room-lt-EVENTS.ensures in
    (c.plain-then-event_room-lt-EVENTS.ensures ∙ end_short (call c.before.before.before.before.before) (sound-there c.before.before) (timer_short (call c.before.before.before.before.before).lent c.if-event_room-lt-EVENTS.true), omega (arith, q), omega (arith, q))

pub first_over-ending-requires : goal.first_over-ending-requires
first_over-ending-requires c = (ready-there c.before.before.before.before).timers.few

pub end_at-requires : goal.end_at-requires
end_at-requires c =
    let a = c.args in
    (ready-there c.before.before.before.before.before.before, over_in a.node (ready-there c.before.before.before.before.before.before) a.node.settings.suspect_timeout a.tick _ (ending-some _ _ (sym c.first_over-ending.ensures ∙ c.in-At.is)))

pub returns-in-Nothing : goal.returns-in-Nothing
unfolding view_node
returns-in-Nothing c =
    let q = ap (λ (x : Ended). x.reported) c.plain-in-Nothing.ensures in (
      c.plain-in-Nothing.ensures
          ∙ end_not_due (call c.before.before.before.before.before.before.before.before.before.before) (sound-there c.before.before.before.before.before.before.before) (timer_room-there (call c.before.before.before.before.before.before.before.before.before.before).lent c.if-event_room-lt-EVENTS.false) (ending-none _ (sym c.first_over-ending.ensures ∙ c.in-Nothing.is)),
      omega (arith, q),
      omega (arith, q),
    )

pub returns-in-At : goal.returns-in-At
unfolding view_node
returns-in-At c = (
  c.end_at.ensures.0
      ∙ end_due (call c.before.before.before.before.before.before.before.before.before.before) (sound-there c.before.before.before.before.before.before.before) (timer_room-there (call c.before.before.before.before.before.before.before.before.before.before).lent c.if-event_room-lt-EVENTS.false) (ending-some _ _ (sym c.first_over-ending.ensures ∙ c.in-At.is)),
  omega (arith, c.end_at.ensures.1, c.if-event_room-lt-EVENTS.false),
  c.end_at.ensures.1,
)
