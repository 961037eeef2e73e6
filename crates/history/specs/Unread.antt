-- Nothing but a push reads the setting: where a rule of a node that collects took nothing, the same node with the setting off does the same. For any type of address and any node.
-- Assumes nothing.
use Rattle.std.specs.Prelude.{◌≡◌}
use Rattle.std.proofs.Common.{arith}
use Rattle.std.proofs.Math.Bool.{false}
use mathlib.Core.List.{[]}
use Rattle.model.specs.declared.Settings.{Settings}
use Rattle.model.specs.declared.Reply.{Reply}
use Rattle.model.specs.declared.Reply.TheVariants.{Done, Already, NotDue, Refuted, Gone, Refused, RefusedAt}
use Rattle.model.specs.Answers.{Answer, done, refused}
use Rattle.model.specs.Words.{Address}
use Rattle.model.specs.Node.{Node, Out, Effect, Stored}
use Rattle.model.specs.Detector as D
use Rattle.model.specs.Calls as calls
use Rattle.history.specs.Histories.{World, outcome}

-- the setting off, all else as it is
abbrev pub settings_off : Settings → Settings
settings_off t =
    record {
      ping_interval = t.ping_interval;
      ping_timeout = t.ping_timeout;
      ping_req_timeout = t.ping_req_timeout;
      suspect_timeout = t.suspect_timeout;
      ping_req_group_size = t.ping_req_group_size;
      send_constant = t.send_constant;
      max_selected = t.max_selected;
      max_size = t.max_size;
      collect = false;
      remember = t.remember;
    }

module _ {A : Type 0} where
  abbrev pub off : Node A → Node A
  off s = record { settings = settings_off s.settings; own = s.own; members = s.members; disseminator = s.disseminator; timers = s.timers; departed = s.departed }

  -- what a rule gave, and what it gives with the setting off: if it took nothing, the same
  abbrev pub Same : Answer (Out A) → Answer (Out A) → Type 0
  Same (refused r) y = Unit {0}
  Same (done o rest) y = o.collected ≡ 0 → y ≡ done (record { node = off o.node; said = o.said; collected = 0 }) rest

  abbrev pub SameEffect : Answer (Effect A) → Answer (Effect A) → Type 0
  SameEffect (refused r) y = Unit {0}
  SameEffect (done e rest) y = e.collected ≡ 0 → y ≡ done (record { node = off e.node; messages = e.messages; events = e.events; collected = 0 }) rest

  abbrev pub SameStep : Answer (D.Stepped A) → Answer (D.Stepped A) → Type 0
  SameStep (refused r) y = Unit {0}
  SameStep (done t rest) y =
      let e = t.effect in
      e.collected ≡ 0 → y ≡ done (record { effect = record { node = off e.node; messages = e.messages; events = e.events; collected = 0 }; wait = t.wait }) rest

module _ {A : Type 0} (address : Address A) where
  -- ---- the calls
  abbrev pub stored_off : Stored A → Stored A
  stored_off s =
      record {
        settings = settings_off s.settings;
        own = s.own;
        table = s.table;
        order = s.order;
        listed = s.listed;
        position = s.position;
        lamps = s.lamps;
        alive = s.alive;
        deceased = s.deceased;
        timers = s.timers;
        departed = s.departed;
      }

  -- a kept call that collected nothing is the same with the setting off: how it ended, the node, the messages, the events and the wait record
  abbrev pub Unless : Reply → Type 0 → Type 0
  Unless (Done used) t = t
  Unless Already t = t
  Unless NotDue t = t
  Unless Refuted t = t
  Unless Gone t = t
  Unless (Refused r) t = Unit {0}
  Unless (RefusedAt r at) t = Unit {0}

  abbrev pub outcome_off : calls.Outcome A → calls.Outcome A
  outcome_off o = record { reply = o.reply; node = stored_off o.node; messages = o.messages; events = o.events; collected = 0 }

  abbrev pub SameCall : calls.StepOutcome A → calls.StepOutcome A → Type 0
  SameCall o o' = Unless o.outcome.reply (o.outcome.collected ≡ 0 → o' ≡ record { outcome = outcome_off o.outcome; wait = o.wait })

  abbrev pub world_off : World A → World A
  world_off w = record { node = stored_off w.node; wait = w.wait }
