-- "The row is exactly what the history of removals says under that rule": of every history from the node that creation or a restart gave.
-- Assumes nothing.
use Rattle.std.specs.Prelude.{◌≡◌, ℕ, ◌<◌, length}
use Rattle.std.proofs.Math.Path.{refl}
use Rattle.std.proofs.Common.{ap, sym, ◌∙◌, subst}
use Rattle.std.proofs.Math.Bool.{true, false}
use mathlib.Core.List.{List, [], ◌∷◌}
use Rattle.std.proofs.Math.Option.{Option, none, some}
use Rattle.std.proofs.lemmas.Bool.{not-false}
use Rattle.model.specs.declared.Cause.{Cause}
use Rattle.model.specs.declared.Fate.{Fate}
use Rattle.model.specs.declared.Fate.TheVariants.{Leaves, Stays, Absent}
use Rattle.model.specs.Rows.{every}
use Rattle.laws.specs.Bools.{and_split}
use Rattle.model.specs.Answers.{Answer, done, and_then}
use Rattle.laws.specs.After.{After, halts, gives, after_then, after_both}
use Rattle.model.specs.Words.{Address, Lawful, Wait}
use Rattle.model.specs.Members.{Members}
use Rattle.model.specs.Node.{Node, Effect, Stored, loaded, stored, fresh, with_members, lists}
use Rattle.model.specs.Detector as D
use Rattle.model.specs.Sound.{valid_gossip}
use Rattle.model.specs.Calls as calls
use Rattle.laws_node.specs.Good.{Good, loaded-stored}
use Rattle.laws_rules.specs.Keeps.{Keeps, add-keeps}
use Rattle.laws_rules.specs.KeepsCalls.{handle-keeps, step_keeps, end_keeps, first_over_in}
use Rattle.history.specs.Beginnings.{Beginning, Creation, Restart, own_of, Gave}
use Rattle.history.specs.Moments.{Added, Moment, moment, silent, trace_add, trace_message, trace_step, trace_timer}
use Rattle.history.specs.Ledger.{Tally, tally}
use Rattle.history.specs.Histories.{World, Call, Add, Receive, Step, Lends, outcome, world_of, run, ending_at, moments_by, moments, trace, start}
use Rattle.history.specs.Histories as history
use Rattle.history.specs.Worlds.{Stands, stands}
use Rattle.history.proofs.Worlds.{call-stands, first_cases}
use Rattle.history.proofs.Demand3 as demand3
use Rattle.remembering.specs.Removals.{removals, row_by}
use Rattle.remembering.specs.Entering.{Along}
use Rattle.remembering.specs.Rows.{Remembers}
use Rattle.remembering.proofs.Rows.{aside, remembers_on, message_remembers, step_remembers, timer_remembers}

module _ {A : Type 0} (address : Address A) (lawful : Lawful address) (s : Node A) (w : Wait A) (g : Good address s) where
  abbrev seen : Node A
  seen = loaded (stored address s)

  good : Good address seen
  good = rw (loaded-stored address lawful s g.whole) g

  abbrev here : World A
  here = record { node = stored address s; wait = w }

  -- the row after a call is what the call's removals make of the row before
  abbrev Keeping : List (Moment A) → calls.Outcome A → Type 0
  Keeping ms o = Remembers address lawful ms seen (loaded o.node)

  kept_row : (ms : List (Moment A)) (s' : Node A) → Good address s' → Remembers address lawful ms seen s' → Remembers address lawful ms seen (loaded (stored address s'))
  kept_row ms s' k p = subst (λ (x : Node A). Remembers address lawful ms seen x) (sym (loaded-stored address lawful s' k.whole)) p

  effect_row : (ds : List ℕ) (ms idle : List (Moment A)) {x : Answer (Effect A)} → After (λ e. Keeps address seen e.node × Remembers address lawful ms seen e.node) x
      → let o = calls.kept address (stored address s) ds x in Keeping (moments_by address o.reply ms idle) o
  effect_row ds ms idle halts = (refl, tt)
  effect_row ds ms idle (gives {b = e} q) = kept_row ms e.node q.0.good q.1

  message-row : (at : Cause) (ds : List ℕ) (ms : List (Moment A)) {x : Answer (Effect A)} → After (λ e. Keeps address seen e.node × Remembers address lawful ms seen e.node) x
      → let o = calls.kept_message address (stored address s) at ds x in Keeping (moments_by address o.reply ms []) o
  message-row at ds ms halts = (refl, tt)
  message-row at ds ms (gives {b = e} {ds = rest} q) = effect_row ds ms [] (gives {b = e} {ds = rest} q)

  abbrev StepKeeping : List (Moment A) → calls.StepOutcome A → Type 0
  StepKeeping ms o = Keeping (moments_by address o.outcome.reply ms []) o.outcome

  step_row : (ds : List ℕ) (ms : List (Moment A)) {x : Answer (D.Stepped A)} → After (λ e. Keeps address seen e.effect.node × Remembers address lawful ms seen e.effect.node) x
      → StepKeeping ms (calls.step_of_kept address (stored address s) w ds x)
  step_row ds ms halts = (refl, tt)
  step_row ds ms (gives {b = e} q) = kept_row ms e.effect.node q.0.good q.1

  add_row : (b : A) (n : ℕ) (ds : List ℕ) {x : Answer (Members A)} → After (λ m. Keeps address seen (with_members seen m)) x
      → let o = calls.kept address (stored address s) ds (and_then x λ m rest. done (record { node = with_members seen m; messages = []; events = []; collected = 0 }) rest) in
      Keeping (moments_by address o.reply (moment (Added b n) seen (and_then x λ m rest. done (record { node = with_members seen m; said = []; collected = 0 }) rest)) (silent (Added b n) seen seen)) o
  add_row b n ds halts = (refl, tt)
  add_row b n ds (gives {b = m} q) = kept_row (silent (Added b n) seen (with_members seen m)) (with_members seen m) q.good (refl, (aside address lawful seen (with_members seen m) (Added b n) [] refl, tt))

  end_row : (v : Fate) (ms : List (Moment A)) {x : Answer (Effect A)} → After (λ e. Keeps address seen e.node × Remembers address lawful ms seen e.node) x
      → let o = calls.kept_end address (stored address s) v x in Keeping (moments_by address o.reply ms []) o
  end_row v ms halts = (refl, tt)
  end_row Leaves ms (gives {b = e} q) = kept_row ms e.node q.0.good q.1
  end_row Stays ms (gives {b = e} q) = kept_row ms e.node q.0.good q.1
  end_row Absent ms (gives {b = e} q) = kept_row ms e.node q.0.good q.1

  timer_row : (o : Option ℕ) → ((i : ℕ) → o ≡ some i → i < length seen.timers) → let x = calls.ends_at address (stored address s) o in Keeping (moments_by address x.reply (ending_at address o seen) []) x
  timer_row none h = (refl, tt)
  timer_row (some i) h =
      end_row (D.fate_at address i seen) (trace_timer address i seen)
      (after_then (after_both (λ o x y. (x, y)) (end_keeps address lawful i seen [] good (h i refl)) (timer_remembers address lawful i seen)) (λ o rest q. gives q))

  call-row : (c : Call A) → Keeping (moments address c here) (outcome address c here).outcome
  unfolding calls.add_peer calls.message calls.detect calls.end_timer loaded
  call-row (Add b n ds) =
      first_cases (λ (o : calls.Outcome A). Keeping (moments_by address o.reply (trace_add address b n seen ds) (silent (Added b n) seen seen)) o) (calls.add_tests address (stored address s) b) (calls.refuses (stored address s)) _ (λ r. (refl, tt))
      (λ p.
      (elim (lists address b seen) as (λ u. lists address b seen ≡ u → let o = calls.or_already u (stored address s) (calls.kept address (stored address s) ds (calls.joins address b n seen ds)) in
      Keeping (moments_by address o.reply (trace_add address b n seen ds) (silent (Added b n) seen seen)) o) [
        | true ↦ λ e. (refl, (aside address lawful seen seen (Added b n) [] refl, tt))
        | false ↦ λ e. add_row b n ds (add-keeps address lawful b n seen ds good (not-false (address.valid b) p.1.0) e)
      ]) refl)
  call-row (Receive action gs ds lent) =
      first_cases (λ (o : calls.Outcome A). Keeping (moments_by address o.reply (trace_message address action gs seen ds) []) o) (calls.message_tests address (stored address s) action gs lent) (calls.refuses (stored address s)) _ (λ r. (refl, tt))
      (λ p.
      let v = and_split (calls.valid_action address action) (every (valid_gossip address) gs) (not-false _ p.1.1.1.0) in
      message-row _ ds (trace_message address action gs seen ds) (after_both (λ e x y. (x, y)) (handle-keeps address lawful action gs seen ds good v.0 v.1) (message_remembers address lawful action gs seen ds)))
  call-row (Step now ds lent) =
      first_cases (StepKeeping (trace_step address w.state now seen ds)) (calls.step_tests address (stored address s) w lent) (λ r. record { outcome = calls.refuses (stored address s) r; wait = w }) _ (λ r. (refl, tt))
      (λ p.
      elim (D.due (stored address s).settings w now) as (λ u. StepKeeping (trace_step address w.state now seen ds) (calls.when_due u (stored address s) w (calls.step_of_kept address (stored address s) w ds (D.step address w.state now seen ds)))) [
        | true ↦ step_row ds (trace_step address w.state now seen ds) (after_both (λ e x y. (x, y)) (step_keeps address lawful w.state now seen ds good (not-false (calls.valid_state address w.state) p.1.1.0)) (step_remembers address lawful w.state now seen ds))
        | false ↦ (refl, tt)
      ])
  call-row (Lends wait) = (refl, tt)
  call-row (history.Timer now lent) =
      first_cases (λ (o : calls.Outcome A). Keeping (moments_by address o.reply (ending_at address (D.first_over address seen.settings.suspect_timeout now seen.timers) seen) []) o) (calls.timer_tests address (stored address s) lent) (calls.refuses (stored address s)) _ (λ r. (refl, tt))
      (λ p. timer_row _ (first_over_in address lawful seen.settings.suspect_timeout now seen.timers))

module _ {A : Type 0} (address : Address A) (lawful : Lawful address) (a own : A) where
  one-call : (t : Tally) (c : Call A) (w : World A) → Stands address lawful a own t w → Remembers address lawful (moments address c w) (loaded w.node) (loaded (outcome address c w).outcome.node)
  one-call t c _ (stands s w g k) = call-row address lawful s w g c

  runs_row : (h : List (Call A)) (w : World A) (t : Tally) → Stands address lawful a own t w → Remembers address lawful (trace address h w) (loaded w.node) (loaded (run address h w).node)
  runs_row [] w t k = (refl, tt)
  runs_row (c ∷ h) w t k =
      let w' = world_of address (outcome address c w) in
      remembers_on address lawful (moments address c w) (trace address h w') (loaded w.node) (loaded w'.node) (loaded (run address h w').node) (one-call t c w k)
      (runs_row h w' (tally address a (moments address c w) t) (call-stands address lawful a own t c w k).stands)

module _ {A : Type 0} (address : Address A) (lawful : Lawful address) (tick : ℕ) where
  walked : (b : Beginning A) (node : Stored A) → Gave address b node → (h : List (Call A))
      → let w = start address b tick in Remembers address lawful (trace address h w) (loaded w.node) (loaded (run address h w).node)
  walked b node gave h =
      runs_row address lawful (own_of b) (own_of b) h (start address b tick) _ (demand3.stood address lawful b tick node gave [] (own_of b))

  nobody : (b : Beginning A) → (loaded (start address b tick).node).departed ≡ []
  unfolding loaded stored fresh
  nobody (Creation settings own n) = refl
  nobody (Restart settings own rows position) = refl

  -- the row of every node that a history made, by the removals of the history alone: from nobody
  pub row_is : (b : Beginning A) (node : Stored A) → Gave address b node → (h : List (Call A))
      → (loaded (run address h (start address b tick)).node).departed ≡ row_by address.same (removals address (trace address h (start address b tick))) []
  row_is b node gave h = (walked b node gave h).0 ∙ ap (row_by address.same (removals address (trace address h (start address b tick)))) (nobody b)

  -- and at each of its moments, with whom the moment lets in
  pub row_along : (b : Beginning A) (node : Stored A) → Gave address b node → (h : List (Call A)) → Along address (trace address h (start address b tick)) []
  row_along b node gave h = subst (Along address (trace address h (start address b tick))) (nobody b) (walked b node gave h).1
