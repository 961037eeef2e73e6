-- How the handler's values carry the model's answers.
-- Assumes nothing.
use Rattle.std.specs.Prelude.{◌≡◌, Bool, true, false, List, [], ◌∷◌, map, ℕ, zero, suc, ◌+◌, ◌-◌, ◌≤◌, ◌<◌, length, take, set, replicate, leb}
use Rattle.std.proofs.Math.Option.{Option, none, some}
use Rattle.model.specs.declared.Kind.{Kind}
use Rattle.model.specs.declared.Refusal.{Refusal}
use Rattle.model.specs.declared.Refusal.TheVariants.{AliveFull}
use Rattle.model.specs.declared.Cause.{Cause}
use Rattle.model.specs.declared.Cause.TheVariants.{Sender}
use Rattle.model.specs.declared.Drew.TheVariants.{Used, Refused}
use Rattle.model.specs.Rows.{pad_to, every, pick}
use Rattle.model.specs.Answers.{Answer, done, refused, full_of}
use Rattle.address.specs.Here.{Addr, here}
use Rattle.model.specs.Words as W
use Rattle.model.specs.Sound.{valid_gossip}
use Rattle.model.specs.Departed.{death_of}
use Rattle.model.specs.Node as M
use Rattle.model.specs.Handler as handler
use Rattle.types.specs.declared.Gossip.{Gossip}
use Rattle.types.specs.Views.{to_gossip, from_event, from_gossip, no_gossip}
use Rattle.heap.specs.declared.Heap.{Heap}
use Rattle.heap.specs.Views.{heap_view}
use Rattle.departed.specs.declared.DepartedRow.{DepartedRow}
use Rattle.departed.specs.Views.{departed_view}
use Rattle.disseminate.specs.Views.{same_kind, of_kind, emitted, cleared_by}
use Rattle.node.specs.declared.Node.{Node}
use Rattle.node.specs.Views.{pack_node}
use Rattle.message.specs.declared.gossip.Heard.{Heard}
use Rattle.message.specs.declared.gossip.Report.{Report}

-- the records that a message brings: the first of a row
abbrev pub records_of : List Gossip → ℕ → List (W.Gossip Addr)
records_of rows given = map to_gossip (take given rows)

-- what is asked of them: a whole row, no more of it than there is, and addresses in range
pub record Heeded (rows : List Gossip) (given : ℕ) : Type 0 where
  pub long : length rows ≡ 64
  pub few : given ≤ 64
  pub valid : every (valid_gossip here) (records_of rows given) ≡ true

abbrev pub Rule : Type 0
Rule = M.Node Addr → List ℕ → Answer (M.Out Addr)

-- the rule of a sender that is to come in, if there is one
abbrev pub sender_rule : Option Addr → Rule
sender_rule none m ds = M.quiet m ds
sender_rule (some a) m ds = handler.admit here a m ds

-- D of each address, by the setting, the row and the heap
abbrev pub deaths_of : Bool → DepartedRow → Heap → Addr → Option ℕ
deaths_of on r h a = death_of here on a (departed_view r) (heap_view h)

-- the verdict whose turn it is: on the records in their order, and then on the sender
unfoldable pub verdict_at : Addr → List (W.Member Addr) → (Addr → Option ℕ) → List (W.Gossip Addr) → Option Addr → ℕ → handler.Verdict Addr
verdict_at own t dead [] none i = handler.Skip
verdict_at own t dead [] (some a) i = handler.judge_sender here t (dead a) a
verdict_at own t dead (g ∷ gs) sender zero = handler.judge here own t (dead (W.parts_of here g.event).subject) g.event
verdict_at own t dead (g ∷ gs) sender (suc i) = verdict_at own t dead gs sender i

-- D, for an event that is judged by it
abbrev pub death_for : W.Event Addr → (Addr → Option ℕ) → Option ℕ
death_for W.Nothing dead = none
death_for (W.Joined f a n) dead = dead a
death_for (W.Recovered f a n) dead = none
death_for (W.Suspected f a n) dead = none
death_for (W.Deceased f a n) dead = none

-- the alive heap without what news outdates, as it came where that is nothing
abbrev pub cleared_for : ℕ → handler.News Addr → Heap → Heap
cleared_for old handler.Silent h = h
cleared_for old (handler.Emits k e) h = cleared_by old k (record { event = e }) h

-- does a verdict leave list, departed and heaps as they are, and say nothing?
abbrev pub leaves_all : handler.Verdict Addr → Bool
leaves_all handler.Skip = true
leaves_all handler.Unknown = true
leaves_all handler.Equal = true
leaves_all handler.Low = true
leaves_all handler.AtEnd = false
leaves_all (handler.Refute n) = false
leaves_all (handler.Enter a n) = false
leaves_all (handler.Raise a n) = false
leaves_all (handler.Recover a n) = false
leaves_all (handler.Suspect a n) = false
leaves_all (handler.Bury a n) = false

-- does news go to the heap of a kind?
abbrev pub goes_to : Kind → handler.News Addr → Bool
goes_to k handler.Silent = false
goes_to k (handler.Emits j e) = same_kind j k

-- is the heap full that news goes to, by how many entries both hold?
abbrev pub finds_full : handler.News Addr → ℕ → ℕ → Bool
finds_full handler.Silent alive deceased = false
finds_full (handler.Emits k e) alive deceased = leb 128 (of_kind k alive deceased)

-- the refusal of news that finds its heap full; none that is silent does
abbrev pub full_for : handler.News Addr → Refusal
full_for handler.Silent = AliveFull
full_for (handler.Emits k e) = full_of k

-- a heap of so many entries has room for what goes to it
abbrev pub RoomFor : Kind → handler.News Addr → ℕ → Type 0
RoomFor k handler.Silent held = Unit {0}
RoomFor k (handler.Emits j e) held = same_kind j k ≡ true → held < 128

-- the heap of a kind with the news that goes to it, or as it came
abbrev pub told_to : Kind → handler.News Addr → Heap → Heap
told_to k handler.Silent h = h
told_to k (handler.Emits j e) h = pick (same_kind j k) (emitted h (record { event = e })) h

-- what is reported of it; and behind the other events, where so many were collected for it
abbrev pub said_by : handler.News Addr → List (W.Gossip Addr)
said_by handler.Silent = []
said_by (handler.Emits k e) = record { event = e } ∷ []

abbrev pub noted : Report → handler.News Addr → ℕ → Report
noted r handler.Silent old = r
noted r (handler.Emits k e) old =
    record { events = set r.events r.count (record { event = from_event e }); count = r.count + 1; collected = r.collected + old }

-- what was heard of a message: the node, the events to report and the draws used; or a rule was refused, and whose
abbrev pub refused_heard : Node → Refusal → Cause → Heard
refused_heard n u at = record { node = n; events = replicate 65 no_gossip; reported = 0; collected = 0; drew = Refused u; at = at }

abbrev pub heard_of : Node → List ℕ → Cause → Answer (M.Out Addr) → Heard
heard_of n ds at (refused u) = refused_heard n u at
heard_of n ds at (done o rest) =
    record {
      node = pack_node o.node;
      events = pad_to 65 no_gossip (map from_gossip o.said);
      reported = length o.said;
      collected = o.collected;
      drew = Used (length ds - length rest);
      at = Sender;
    }
