-- A node that is full comes back: lend its steps a fresh wait record. Such a step is refused by no full heap, and after so many of them the alive heap has room.
-- Assumes nothing.
use Rattle.std.specs.Prelude.{◌≡◌, List, [], ◌∷◌, ℕ, ◌+◌, ◌-◌, ◌≤◌, ◌<◌, min}
use Rattle.std.proofs.Common.{arith}
use Rattle.std.proofs.Math.Bool.{true}
use Rattle.std.proofs.Math.Option.{some}
use Rattle.std.proofs.Math.ListN.{length}
use Rattle.model.specs.declared.Settings.{Settings}
use Rattle.model.specs.declared.Refusal.TheVariants.{Unsound, ShortRow, DrawsShort}
use Rattle.model.specs.declared.Reply.{Reply}
use Rattle.model.specs.declared.Reply.TheVariants.{Done, NotDue, Refused}
use Rattle.model.specs.Bounds.{step_room}
use Rattle.model.specs.Answers.{done}
use Rattle.model.specs.Words.{Address, Lawful, Wait, SendingPing}
use Rattle.model.specs.Node.{Node, Stored, loaded, stored}
use Rattle.model.specs.Detector.{Stepped, is_over}
use Rattle.model.specs.Calls.{Outcome, StepOutcome, kept, detect}
use Rattle.laws_rules.specs.Keeps.{Keeps}
use Rattle.supply.specs.Shuffles.{pick_draws}
use Rattle.supply.specs.Owed.{owed}
use Rattle.supply.specs.Drains.{limit_at, Carries, Drained}

-- a fresh wait record: SendingPing at a tick
abbrev pub fresh_wait : {A : Type 0} → ℕ → Wait A
fresh_wait since = record { state = SendingPing; since = since }

-- all that a step from a fresh wait record answers: 0, or refused 2, 3 or 8
pub data Afresh : Reply → Type 0 where
  unsound : Afresh (Refused Unsound)
  short_row : Afresh (Refused ShortRow)
  short-draws : Afresh (Refused DrawsShort)
  not_due : Afresh NotDue
  kept_step : (used : ℕ) → Afresh (Done used)

-- one step that a host makes with a fresh wait record: the record's tick, the tick now, and the draws
pub record Turn : Type 0 where
  pub since : ℕ
  pub now : ℕ
  pub draws : List ℕ

-- it is due, and lent the draws that it may take at n listed
pub record Ready (c : Settings) (n : ℕ) (t : Turn) : Type 0 where
  pub over : is_over c.ping_interval t.now t.since ≡ true
  pub supplied : pick_draws 1 1 n ≤ length t.draws

abbrev pub ReadyAll : Settings → ℕ → List Turn → Type 0
ReadyAll c n [] = Unit {0}
ReadyAll c n (t ∷ ts) = Ready c n t × ReadyAll c n ts

module _ {A : Type 0} (address : Address A) where
  -- one such step, into rows that are long enough
  abbrev pub takes_turn : Stored A → Turn → StepOutcome A
  takes_turn s t = detect address s (fresh_wait t.since) t.now t.draws step_room

  -- the node after such steps, one after another
  abbrev pub after : List Turn → Stored A → Stored A
  after [] s = s
  after (t ∷ ts) s = after ts (takes_turn s t).outcome.node

  -- what such a step does to a stored node: so many records are taken from the alive heap and from the other, each counts as a send, the message has them all, and there is
  -- a message wherever there is a target
  pub record Counted (s : Stored A) (o : Outcome A) : Type 0 where
    pub used : ℕ
    pub from-alive : ℕ
    pub from-deceased : ℕ
    pub reply : o.reply ≡ Done used
    pub alive : owed (limit_at address (loaded s)) (loaded o.node).disseminator.alive + from-alive ≡ owed (limit_at address (loaded s)) (loaded s).disseminator.alive
    pub deceased : owed (limit_at address (loaded s)) (loaded o.node).disseminator.deceased + from-deceased ≡ owed (limit_at address (loaded s)) (loaded s).disseminator.deceased
    pub some : 0 < length (loaded s).disseminator.alive → 1 ≤ from-alive
    pub shorter : o.node.alive.used ≤ length (loaded s).disseminator.alive
    pub message : Carries address (from-alive + from-deceased) o.messages
    pub target : length o.messages ≡ min 1 (length (loaded s).members.table - 1)

module _ {A : Type 0} (address : Address A) (lawful : Lawful address) (texts : (a : A) → address.valid a ≡ true → address.chars a ≤ 47) where
  -- ---- a step that is ready is kept
  pub record Kept (x : Node A) (t : Turn) : Type 0 where
    pub gave : Stepped A
    pub rest : List ℕ
    pub is : detect address (stored address x) (fresh_wait t.since) t.now t.draws step_room
        ≡ record { outcome = kept address (stored address x) t.draws (done gave.effect rest); wait = gave.wait }
    pub drained : Drained address x gave
    pub keeps : Keeps address x gave.effect.node
