-- Declaring: a timer is started, or 16 are running.
-- Assumes nothing.
use mathlib.Core.Path.{◌≡◌, refl, ap, sym, ◌∙◌}
use mathlib.Core.Bool.{Bool, true, false}
use mathlib.Core.List.{List, [], ◌∷◌, ◌++◌}
use Prim.Native.Nat.{ℕ, ◌-◌, ◌≤◌, ◌<◌}
use native.Mathlib.Omega.{arith}
use lib.ListN.{length}
use lib.Dec.{leb}
use borrow.Author.Tests.{le-leb, lt-leb}
use Rattle.model.specs.declared.Refusal.TheVariants.{TimersFull}
use Rattle.model.specs.declared.Reply.TheVariants.{Done, Refused}
use Rattle.model.specs.Answers.{done, refused, when}
use Rattle.address.specs.Here.{Addr, here}
use Rattle.model.specs.Words as W
use Rattle.model.specs.Node as M
use Rattle.model.specs.Detector as D
use Rattle.model.specs.Calls.{StepOutcome, step_of_kept}
use Rattle.laws.specs.Packing.{view_length}
use Rattle.timers.specs.declared.Timers.{Timers}
use Rattle.timers.specs.Views.{to_timer, from_timer, no_timer, timers_view, pack_timers}
use Rattle.node.specs.declared.Node.{Node}
use Rattle.node.specs.Views.{view_node, stored_view, with_timers}
use Rattle.node.specs.Rows.{Ready}
use Rattle.node.specs.Parts.{part_timers}
use Rattle.wait.specs.declared.Wait.{Wait}
use Rattle.wait.specs.Views.{to_wait, fresh_wait, stepped_of, step_plain}
use Rattle.wait.specs.Ends.{plain_step, kept_step}

module _ (n : Node) (r : Ready n) (w : Wait) (a : Addr) (number tick : ℕ) where
  abbrev started : M.Node Addr
  started = M.with_timers (view_node n) ((view_node n).timers ++ (record { addr = a; number = number; since = tick } ∷ []))

  abbrev either : List ℕ → Bool → StepOutcome Addr
  either ds u = step_of_kept here (stored_view n) (to_wait w) ds (when u (refused TimersFull) (done (D.moves here W.SendingPing tick started) ds))

  many : length (view_node n).timers ≡ n.timers.len
  unfolding view_node
  many = view_length to_timer from_timer (λ b. refl) 16 no_timer n.timers.entries n.timers.len r.timers

  pub declare-full : 16 ≤ n.timers.len → step_plain (Refused TimersFull) n w ≡ stepped_of (step_of_kept here (stored_view n) (to_wait w) [] (D.declare here a number tick (view_node n) []))
  unfolding D.declare when
  declare-full h =
      plain_step (Refused TimersFull) n w
      ∙ sym (ap (λ (u : Bool). stepped_of (either [] u)) (le-leb 16 (length (view_node n).timers) (omega (arith, h, many))))

  pub declare-kept : n.timers.len < 16 → (t : Timers) → t ≡ pack_timers (timers_view n.timers ++ (record { addr = a; number = number; since = tick } ∷ []))
      → step_plain (Done 0) (with_timers n t) (fresh_wait tick) ≡ stepped_of (step_of_kept here (stored_view n) (to_wait w) [] (D.declare here a number tick (view_node n) []))
  unfolding D.declare when view_node
  declare-kept h t e =
      kept_step 0 started (with_timers n t) (D.enters W.SendingPing tick) (fresh_wait tick) (part_timers n r ((view_node n).timers ++ (record { addr = a; number = number; since = tick } ∷ [])) t e) refl
      ∙ sym (ap (λ (u : Bool). stepped_of (either [] u)) (lt-leb 16 (length (view_node n).timers) (omega (arith, h, many))))

  -- draws that stand behind are not read
  pub declare-draws : (ds : List ℕ) → step_of_kept here (stored_view n) (to_wait w) [] (D.declare here a number tick (view_node n) []) ≡ step_of_kept here (stored_view n) (to_wait w) ds (D.declare here a number tick (view_node n) ds)
  unfolding D.declare when
  declare-draws ds =
      elim (leb 16 (length (view_node n).timers)) as (λ u. either [] u ≡ either ds u) [
        | true ↦ refl
        | false ↦ let z : ◌≡◌ {A = ℕ} 0 (length ds - length ds) = omega arith in λ i. record { outcome = record { reply = Done (z i); node = M.stored here started; messages = []; events = []; collected = 0 }; wait = D.enters W.SendingPing tick }
      ]
