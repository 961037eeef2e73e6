-- A TIME-OUT THAT TAKES NOBODY OUT, answered "refuted" or "gone": the node is the one handed in without that timer, no event, no letter, the row as lent, no draw.
-- Assumes nothing.
use Rattle.std.specs.Prelude.{◌≡◌, ◌⊎◌, List, [], ◌∷◌, ◌++◌, ℕ, ◌+◌, ◌-◌, ◌%◌, ◌^◌, ◌≤◌, ◌<◌}
use Rattle.model.specs.Words as W
use Rattle.model.specs.Node as M
use Rattle.model.specs.Calls as calls
use Rattle.laws_node.specs.Good.{FullRows}
use Rattle.address.specs.Here.{Addr, here}
use Rattle.history.specs.Tells.{At}
use Rattle.types.specs.declared.Gossip.{Gossip}
use Rattle.timers.specs.Views.{pack_timers}
use Rattle.node.specs.declared.Node.{Node}
use Rattle.node.specs.Views.{stored_view, view_node}
use Rattle.swim.specs.declared.Outcome.{Outcome}
use Rattle.swim.specs.Promises.{EndsTimer}
use Rattle.promises.specs.Stops.{Refutes, IsGone}
use Rattle.promises.specs.Made.{letters_of}

-- the ticks from one to another, which come round at 2^32
abbrev pub ticks_from : ℕ → ℕ → ℕ
ticks_from since tick = (tick + 2 ^ 32 - since) % 2 ^ 32

-- the timers that run, in starting order: those before the first that is over, this one, and those behind it
pub record FirstOver (wait tick : ℕ) (timers : List (W.Timer Addr)) : Type 0 where
  pub earlier : List (W.Timer Addr)
  pub ended : W.Timer Addr
  pub later : List (W.Timer Addr)
  pub running : timers ≡ earlier ++ (ended ∷ later)
  pub waiting : (i : ℕ) (t : W.Timer Addr) → At earlier i t → ticks_from t.since tick < wait
  pub over : wait ≤ ticks_from ended.since tick

-- what a time-out leaves that took nobody out
pub record TookNobodyOut (node : Node) (tick : ℕ) (events : List Gossip) (r : Outcome) (events' : List Gossip) : Type 0 where
  pub first : FirstOver node.settings.suspect_timeout tick (view_node node).timers
  -- its address is listed, but Alive or at a greater number; or isn't listed
  pub spared : Refutes here first.ended (view_node node) ⊎ IsGone here first.ended (view_node node)
  -- the timers are those that ran without it, in their order, and the places behind them are zero
  pub timers : r.answer.node.timers ≡ pack_timers (first.earlier ++ first.later)
  -- every other row of the node is as it was handed in
  pub settings : r.answer.node.settings ≡ node.settings
  pub own : r.answer.node.own ≡ node.own
  pub members : r.answer.node.members ≡ node.members
  pub disseminator : r.answer.node.disseminator ≡ node.disseminator
  pub departed : r.answer.node.departed ≡ node.departed
  -- no letter, no event, nothing collected, no draw; the lent row as it was
  pub letters : letters_of r.answer ≡ []
  pub reported : r.reported ≡ 0
  pub collected : r.answer.collected ≡ 0
  pub draws : calls.draws_used r.answer.reply ≡ 0
  pub row : events' ≡ events

module _ (node : Node) (full : FullRows (stored_view node)) (tick : ℕ) (events : List Gossip) (r : Outcome) (events' : List Gossip) (met : EndsTimer node tick events r events') where
  abbrev pub s : M.Stored Addr
  s = stored_view node

  abbrev pub wait : ℕ
  wait = s.settings.suspect_timeout
