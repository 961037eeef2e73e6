-- `accounts::end_timer` meets its contract: where its rules ran, one timer ended.
-- Assumes nothing.
use mathlib.Core.Path.{◌≡◌, ap, sym, ◌∙◌, subst}
use mathlib.Core.Bool.{Bool, true, false}
use mathlib.Core.List.{[]}
use mathlib.Core.Option.{some}
use Prim.Native.Nat.{ℕ, ◌<◌}
use native.Mathlib.Omega.{arith}
use lib.ListN.{get_or}
use Rattle.address.specs.Here.{Addr, here}
use Rattle.model.specs.Bounds.{Room}
use Rattle.model.specs.Node as M
use Rattle.model.specs.Detector as D
use Rattle.model.specs.Calls as calls
use Rattle.history.specs.Histories.{Timer, moments}
use Rattle.timers.specs.declared.Ending.{Ending}
use Rattle.timers.specs.declared.Ending.TheVariants.{Nothing, At}
use Rattle.timers.specs.Views.{timers_view, no_timer, ending_of}
use Rattle.timer_call.specs.declared.Ended.{Ended}
use Rattle.timer_call.specs.Views.{ended_of}
use Rattle.node.specs.declared.Node.{Node}
use Rattle.node.specs.Views.{stored_view, unstored, answer_of}
use Rattle.node.specs.Rows.{Ready, sound_ready}
use Rattle.laws_node.specs.Good.{FullRows}
use Rattle.accounts.specs.Changes.{account_of, changes}
use Rattle.accounts.specs.Audits.{has_run, resting}
use Rattle.accounts.specs.Once.{Once, once_held, once_is}
use Rattle.accounts.specs.Timed.{ending-some, ending-none, Timed, timer_idle, timer_once, none_over, over_in, timed_once}
use Rattle.accounts.proofs.end_timer.Goals as goal

module _ (n : Node) (tick gossip events : ℕ) where
  abbrev lent : Room
  lent = record { gossip = gossip; events = events }

  abbrev outcome : calls.Outcome Addr
  outcome = calls.end_timer here (stored_view n) tick lent

  -- the rules ran, if its reply says so
  tested : {r : Ended} {ran : Bool} → r ≡ ended_of outcome → ran ≡ has_run r.answer.reply → ran ≡ has_run outcome.reply
  unfolding ended_of answer_of
  tested e f = f ∙ ap (λ (x : Ended). has_run x.answer.reply) e

  -- the node that it handed back
  after_is : {r : Ended} → r ≡ ended_of outcome → r.answer.node ≡ unstored outcome.node
  unfolding ended_of answer_of
  after_is e = ap (λ (x : Ended). x.answer.node) e

  module _ (full : FullRows (stored_view n)) where
    idle : {r : Ended} {ran : Bool} → r ≡ ended_of outcome → ran ≡ has_run r.answer.reply → ran ≡ false → changes (moments here (Timer tick lent) (resting n)) ≡ []
    idle e f h = timer_idle n full tick lent (sym (tested e f) ∙ h)

    module _ {r : Ended} {ran : Bool} (e : r ≡ ended_of outcome) (f : ran ≡ has_run r.answer.reply) (h : ran ≡ true) where
      timed : Timed n full tick lent outcome (moments here (Timer tick lent) (resting n))
      timed = timer_once n full tick lent (sym (tested e f) ∙ h)

      ready : Ready n
      ready = sound_ready n full timed.sounds

      none_ends : {o : Ending} → o ≡ ending_of (D.first_over here n.settings.suspect_timeout tick (timers_view n.timers)) → o ≡ Nothing → ◌≡◌ {A = ℕ} 0 1
      none_ends g k = none_over n full tick lent ready outcome _ timed (ending-none _ (sym g ∙ k))

      -- the place that was found
      module _ {o : Ending} {i : ℕ} (g : o ≡ ending_of (D.first_over here n.settings.suspect_timeout tick (timers_view n.timers))) (k : o ≡ At i) where
        place : D.first_over here n.settings.suspect_timeout tick (timers_view n.timers) ≡ some i
        place = ending-some _ _ (sym g ∙ k)

        in_row : i < 16
        in_row = omega (arith, over_in n full tick lent ready i place, ready.timers.few)

        once : Once (M.loaded (stored_view n)) r.answer.node (moments here (Timer tick lent) (resting n)) (get_or n.timers.entries i no_timer).addr (get_or n.timers.entries i no_timer).number
        once =
            let t = get_or n.timers.entries i no_timer in
            subst (λ (m : Node). Once (M.loaded (stored_view n)) m (moments here (Timer tick lent) (resting n)) t.addr t.number) (sym (after_is e))
            (timed_once n full tick lent ready outcome _ timed i place)

pub returns-then-not-has_run : goal.returns-then-not-has_run
returns-then-not-has_run c =
    let a = c.args in (
      c.end_timer-ended.ensures.0,
      c.none.ensures ∙ ap account_of (sym (idle a.node a.tick a.gossip_room a.event_room c.has_rows.ensures c.end_timer-ended.ensures.0 c.has_run.ensures c.if-not-has_run.true)),
    )

pub first_over-ending-requires : goal.first_over-ending-requires
first_over-ending-requires c =
    let a = c.args in
    (ready a.node a.tick a.gossip_room a.event_room c.has_rows.ensures c.end_timer-ended.ensures.0 c.has_run.ensures c.if-not-has_run.false).timers.few

pub offset_bounds-entries-place : goal.offset_bounds-entries-place
offset_bounds-entries-place c =
    let a = c.args in
    let room = in_row a.node a.tick a.gossip_room a.event_room c.has_rows.ensures c.end_timer-ended.ensures.0 c.has_run.ensures c.if-not-has_run.false c.first_over-ending.ensures c.in-At.is in
    omega arith

pub bounds-entries-place : goal.bounds-entries-place
bounds-entries-place c =
    let a = c.args in
    let room = in_row a.node a.tick a.gossip_room a.event_room c.has_rows.ensures c.end_timer-ended.ensures.0 c.has_run.ensures c.if-not-has_run.false c.first_over-ending.ensures c.in-At.is in
    omega arith

pub one_change-requires : goal.one_change-requires
one_change-requires c =
    let a = c.args in (
      (ready a.node a.tick a.gossip_room a.event_room c.has_rows.ensures c.end_timer-ended.ensures.0 c.has_run.ensures c.if-not-has_run.false).members,
      once_held a.node _ _ _ _
          (once a.node a.tick a.gossip_room a.event_room c.has_rows.ensures c.end_timer-ended.ensures.0 c.has_run.ensures c.if-not-has_run.false c.first_over-ending.ensures c.in-At.is),
    )

pub returns-in-Nothing : goal.returns-in-Nothing
returns-in-Nothing c =
    let a = c.args in
    let z = none_ends a.node a.tick a.gossip_room a.event_room c.has_rows.ensures c.end_timer-ended.ensures.0 c.has_run.ensures c.if-not-has_run.false c.first_over-ending.ensures c.in-Nothing.is in
    absurd (omega arith)

pub returns-in-At : goal.returns-in-At
returns-in-At c =
    let a = c.args in (
      c.end_timer-ended.ensures.0,
      once_is a.node _ _ _ _
          (once a.node a.tick a.gossip_room a.event_room c.has_rows.ensures c.end_timer-ended.ensures.0 c.has_run.ensures c.if-not-has_run.false c.first_over-ending.ensures c.in-At.is)
          c.one_change.result c.one_change.ensures,
    )
