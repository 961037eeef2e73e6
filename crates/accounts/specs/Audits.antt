-- What the reply of a call tells of its moments.
-- Assumes nothing.
use Rattle.std.proofs.Math.Path.{◌≡◌, refl, ap}
use Rattle.std.proofs.Common.{sym, ◌∙◌, arith, ltb-false}
use Rattle.std.specs.Prelude.{Bool, ℕ, ◌≤◌, length}
use Rattle.std.proofs.Math.Bool.{true, false}
use mathlib.Core.List.{List, [], ◌∷◌, ◌++◌}
use Rattle.std.proofs.Math.Option.{Option, none, some}
use Rattle.std.proofs.lemmas.Bool.{not-false}
use Rattle.model.specs.declared.Reply.{Reply}
use Rattle.model.specs.declared.Reply.TheVariants.{Done, Already, NotDue, Refuted, Gone, Refused, RefusedAt}
use Rattle.model.specs.Bounds.{Room}
use Rattle.model.specs.Rows.{one, every}
use Rattle.laws.specs.Bools.{and_split}
use Rattle.model.specs.Answers.{Answer, done, refused}
use Rattle.address.specs.Here.{Addr, here}
use Rattle.model.specs.Words as W
use Rattle.model.specs.Node as M
use Rattle.model.specs.Handler as handler
use Rattle.model.specs.Sound.{sound, valid_gossip}
use Rattle.model.specs.Calls as calls
use Rattle.laws_node.specs.Good.{FullRows}
use Rattle.history.specs.Moments.{Moment, Sender, moment, stepped, trace_then, trace_spread, trace_ack, trace_gossip, trace_admit, trace_message}
use Rattle.history.specs.Worlds.{Passed}
use Rattle.history.proofs.Worlds.{first_cases}
use Rattle.model.specs.Detector.{Stepped, step}
use Rattle.history.specs.Histories.{World, Call, Receive, Step, Lends, outcome, world_of, moments_by, moments, trace}
use Rattle.types.specs.declared.Gossip.{Gossip}
use Rattle.node.specs.declared.Node.{Node}
use Rattle.node.specs.Views.{view_node, stored_view}
use Rattle.node.specs.Rows.{Ready, sound_ready, loaded_view}
use Rattle.message.specs.Views.{Heeded, records_of}
use Rattle.message.specs.Answers.{lent_rows}
use Rattle.message.specs.Tested.{lent-count, lent_few}
use Rattle.accounts.specs.declared.Change.{Change}
use Rattle.accounts.specs.Changes.{changes}
use Rattle.accounts.specs.Admitting.{trace_sender, heard_changes, changes-append}

-- did the rules run? An add of a listed address is read by the ledger too
abbrev pub has_run : Reply → Bool
has_run (Done used) = true
has_run Already = true
has_run NotDue = false
has_run Refuted = true
has_run Gone = true
has_run (Refused r) = false
has_run (RefusedAt r at) = false

-- "Ping: gossip; then an unlisted sender ..": nobody else comes in behind the records
abbrev pub entrant_of : W.Action Addr → Option Addr
entrant_of (W.Ping from by) = some from
entrant_of (W.PingReq from suspect) = none
entrant_of (W.Ack from to) = none

-- a node with a wait record that these calls do not look at: whichever it is, the moments are the same
abbrev pub resting : Node → World Addr
resting n = record { node = stored_view n; wait = record { state = W.SendingPing; since = 0 } }

pub any_wait : (action : W.Action Addr) (gs : List (W.Gossip Addr)) (ds : List ℕ) (lent : Room) (n : Node) (w : W.Wait Addr)
    → moments here (Receive action gs ds lent) (record { node = stored_view n; wait = w }) ≡ moments here (Receive action gs ds lent) (resting n)
any_wait action gs ds lent n w = refl

-- what a message does behind its records and its sender changes no list
message-changes : (action : W.Action Addr) (gs : List (W.Gossip Addr)) (s : M.Node Addr) (ds : List ℕ) → changes (trace_message here action gs s ds) ≡ heard_changes gs (entrant_of action) s ds
message-changes (W.Ping from by) gs s ds =
    changes-append (trace_gossip here gs s ds) _ ∙ ap (λ (y : List Change). changes (trace_gossip here gs s ds) ++ y) (by_answer (handler.gossip here gs s ds))
  where
    admitted : (s' : M.Node Addr) (x : Answer (M.Out Addr)) → changes (moment (Sender from) s' x ++ trace_then x (λ t rest. trace_spread here t)) ≡ changes (moment (Sender from) s' x)
    admitted s' (refused u) = refl
    admitted s' (done o rest) = refl

    by_answer : (x : Answer (M.Out Addr)) → changes (trace_then x (trace_admit here from)) ≡ changes (trace_then x (trace_sender (some from)))
    by_answer (refused u) = refl
    by_answer (done o rest) = admitted o.node (handler.admit here from o.node rest)
message-changes (W.PingReq from suspect) gs s ds =
    changes-append (trace_gossip here gs s ds) _ ∙ ap (λ (y : List Change). changes (trace_gossip here gs s ds) ++ y) (by_answer (handler.gossip here gs s ds))
  where
    by_answer : (x : Answer (M.Out Addr)) → changes (trace_then x (λ s' rest. trace_spread here s')) ≡ changes (trace_then x (trace_sender none))
    by_answer (refused u) = refl
    by_answer (done o rest) = refl
message-changes (W.Ack from to) gs s ds =
    changes-append (trace_gossip here gs s ds) _ ∙ ap (λ (y : List Change). changes (trace_gossip here gs s ds) ++ y) (by_answer to (handler.gossip here gs s ds))
  where
    by_answer : (o : Option Addr) (x : Answer (M.Out Addr)) → changes (trace_then x (λ s' rest. trace_ack here from o s')) ≡ changes (trace_then x (trace_sender none))
    by_answer o (refused u) = refl
    by_answer none (done p rest) = refl
    by_answer (some to) (done p rest) = refl

pub entrant_valid : (action : W.Action Addr) → calls.valid_action here action ≡ true → calls.valid_option here (entrant_of action) ≡ true
unfolding calls.valid_action
entrant_valid (W.Ping from by) v = (and_split (here.valid from) (calls.valid_option here by) v).0
entrant_valid (W.PingReq from suspect) v = refl
entrant_valid (W.Ack from to) v = refl

module _ (n : Node) (full : FullRows (stored_view n)) (action : W.Action Addr) (rows : List Gossip) (given₀ : ℕ) (ds : List ℕ) (lent : Room) (long : length rows ≡ 64) where
  abbrev s : M.Stored Addr
  s = stored_view n

  abbrev gs : List (W.Gossip Addr)
  gs = lent_rows rows given₀

  abbrev out : calls.Outcome Addr
  out = calls.message here s action gs ds lent

  abbrev ran : List (Moment Addr)
  ran = trace_message here action gs (M.loaded s) ds

  -- its rules did not run
  pub message_idle : has_run out.reply ≡ false → changes (moments here (Receive action gs ds lent) (resting n)) ≡ []
  unfolding calls.message
  message_idle =
      first_cases (λ (o : calls.Outcome Addr). has_run o.reply ≡ false → changes (moments_by here o.reply ran []) ≡ []) (calls.message_tests here s action gs lent) (calls.refuses s) _
      (λ r e. refl)
      (λ p. by (handler.handle here action gs (M.loaded s) ds))
    where
      by : (x : Answer (M.Effect Addr)) → (let o = calls.kept_message here s (handler.stops_at here gs (M.loaded s) ds) ds x in has_run o.reply ≡ false → changes (moments_by here o.reply ran []) ≡ [])
      by (refused u) e = refl
      by (done o rest) e = let z : ◌≡◌ {A = ℕ} 1 0 = ap one e in absurd (omega arith)

  -- its rules ran: its tests were passed, and they are its moments
  message-ran : has_run out.reply ≡ true → Passed (calls.message_tests here s action gs lent) × (moments here (Receive action gs ds lent) (resting n) ≡ ran)
  unfolding calls.message
  message-ran =
      first_cases (λ (o : calls.Outcome Addr). has_run o.reply ≡ true → Passed (calls.message_tests here s action gs lent) × (moments_by here o.reply ran [] ≡ ran)) (calls.message_tests here s action gs lent) (calls.refuses s) _
      (λ r e. let z : ◌≡◌ {A = ℕ} 0 1 = ap one e in absurd (omega arith))
      (λ p. by p (handler.handle here action gs (M.loaded s) ds))
    where
      by : Passed (calls.message_tests here s action gs lent) → (x : Answer (M.Effect Addr))
          → (let o = calls.kept_message here s (handler.stops_at here gs (M.loaded s) ds) ds x in has_run o.reply ≡ true → Passed (calls.message_tests here s action gs lent) × (moments_by here o.reply ran [] ≡ ran))
      by p (refused u) e = let z : ◌≡◌ {A = ℕ} 0 1 = ap one e in absurd (omega arith)
      by p (done o rest) e = (p, refl)

  module _ (run : has_run out.reply ≡ true) where
    passed : Passed (calls.message_tests here s action gs lent)
    passed = (message-ran run).0

    pub ran_ready : Ready n
    ran_ready = sound_ready n full (not-false (sound here s) passed.0)

    few : given₀ ≤ 64
    few = omega (arith, ltb-false 64 (length gs) passed.1.1.0, lent-count rows given₀ long)

    gs_is : gs ≡ records_of rows given₀
    gs_is = lent_few rows given₀ few

    valid : (calls.valid_action here action ≡ true) × (every (valid_gossip here) gs ≡ true)
    valid = and_split (calls.valid_action here action) (every (valid_gossip here) gs) (not-false _ passed.1.1.1.0)

    pub ran_valid : calls.valid_action here action ≡ true
    ran_valid = valid.0

    pub ran_heeded : Heeded rows given₀
    ran_heeded = record { long = long; few = few; valid = ap (every (valid_gossip here)) (sym gs_is) ∙ valid.1 }

    pub ran-changes : changes (moments here (Receive action gs ds lent) (resting n)) ≡ heard_changes (records_of rows given₀) (entrant_of action) (view_node n) ds
    ran-changes =
        ap changes (message-ran run).1
        ∙ message-changes action gs (M.loaded s) ds
        ∙ (λ j. heard_changes (gs_is j) (entrant_of action) (loaded_view n j) ds)

-- Call by call: the changes of a history are those of its calls, one after the other; a detector step has none, nor has a wait record that the host lends
pub trace-changes : (c : Call Addr) (h : List (Call Addr)) (w : World Addr) → changes (trace here (c ∷ h) w) ≡ changes (moments here c w) ++ changes (trace here h (world_of here (outcome here c w)))
trace-changes c h w = changes-append (moments here c w) (trace here h (world_of here (outcome here c w)))

pub step-changes : (now : ℕ) (ds : List ℕ) (lent : Room) (w : World Addr) → changes (moments here (Step now ds lent) w) ≡ []
step-changes now ds lent w = by_reply (outcome here (Step now ds lent) w).outcome.reply (step here w.wait.state now (M.loaded w.node) ds)
  where
    made : (x : Answer (Stepped Addr)) → changes (stepped (M.loaded w.node) x) ≡ []
    made (refused u) = refl
    made (done e rest) = refl

    by_reply : (r : Reply) (x : Answer (Stepped Addr)) → changes (moments_by here r (stepped (M.loaded w.node) x) []) ≡ []
    by_reply (Done used) x = made x
    by_reply Already x = refl
    by_reply NotDue x = refl
    by_reply Refuted x = made x
    by_reply Gone x = made x
    by_reply (Refused r) x = refl
    by_reply (RefusedAt r at) x = refl

pub lends_changes : (wait : W.Wait Addr) (w : World Addr) → changes (moments here (Lends wait) w) ≡ []
lends_changes wait w = refl
