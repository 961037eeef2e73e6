-- The ledger along every call and every history: the rows hold a good node, and every moment is fine.
-- Assumes nothing.
use Rattle.std.proofs.Math.Path.{◌≡◌, refl, ap}
use Rattle.std.proofs.Common.{sym}
use Rattle.std.specs.Prelude.{Bool, length, get_or}
use Rattle.std.proofs.Math.Bool.{true, false}
use mathlib.Core.List.{List, [], ◌∷◌}
use Rattle.std.proofs.Math.Option.{Option, none, some}
use Prim.Native.Nat.{ℕ, ◌+◌, ◌<◌}
use native.Mathlib.Omega.{arith}
use borrow.Author.Tests.{not-false}
use Rattle.model.specs.declared.Cause.{Cause}
use Rattle.model.specs.declared.Refusal.{Refusal}
use Rattle.model.specs.declared.Settings.{Settings}
use Rattle.model.specs.declared.Fate.{Fate}
use Rattle.model.specs.declared.Fate.TheVariants.{Leaves, Stays, Absent}
use Rattle.model.specs.Rows.{one, pick, every}
use Rattle.laws.specs.Bools.{and_split}
use Rattle.model.specs.Answers.{Answer, done, and_then}
use Rattle.laws.specs.After.{After, halts, gives, after_then, after_both}
use Rattle.model.specs.Words.{Address, Lawful, Wait, SendingPing, no_timer}
use Rattle.model.specs.Members.{Members}
use Rattle.model.specs.Node.{Node, Effect, Stored, loaded, stored, fresh, restarted, with_members, lists}
use Rattle.model.specs.Detector.{Stepped, step as step_rule, due, first_over, fate_at}
use Rattle.model.specs.Sound.{in_range, valid_gossip}
use Rattle.laws_node.specs.Good.{Good, loaded-stored}
use Rattle.laws_rules.specs.Keeps.{Keeps, add-keeps}
use Rattle.laws_rules.specs.KeepsCalls.{handle-keeps, step_keeps, end_keeps, first_over_in, fresh_good, restarted_good}
use Rattle.model.specs.Calls.{Created, created, not_created, create, create_tests, Outcome, StepOutcome, first_of, refuses, or_already, when_due, kept, kept_message, step_of_kept, kept_end, joins, add_tests, message_tests, step_tests, timer_tests, add_peer, message, detect, ends_at, end_timer, valid_action, valid_state}
use Rattle.history.specs.Moments.{Moment, Added, moment, silent, trace_add, trace_message, trace_step, trace_timer, ended_deed}
use Rattle.history.specs.Beginnings.{Beginning, Creation, Restart, own_of, first_node, Gave, creates, restarts}
use Rattle.history.specs.Ledger.{Tally, tally, begun}
use Rattle.history.specs.Did.{Did, Kept}
use Rattle.history.proofs.Rules.{add_did, already_did, timer_did}
use Rattle.history.specs.Walk.{Walked}
use Rattle.history.proofs.Walk.{tally-append, along_append, one-step, one-moment, walk-message}
use Rattle.history.proofs.WalkSteps.{walk_step}
use Rattle.history.specs.Histories.{World, Call, Add, Receive, Step, Timer, Lends, outcome, world_of, run, ending_at, moments_by, moments, trace, start}
use Rattle.history.specs.Worlds.{Passed, Stands, Went, stands}

-- a call that tests first: it refuses, or every test was passed
pub first_cases : {B : Type 0} (P : B → Type 0) (ts : List (Bool × Refusal)) (refuse : Refusal → B) (go : B) → ((r : Refusal) → P (refuse r)) → (Passed ts → P go) → P (first_of ts refuse go)
first_cases P [] refuse go f g = g tt
first_cases P (t ∷ ts) refuse go f g =
    (elim t.0 as (λ u. t.0 ≡ u → P (elim u [ true ↦ refuse t.1 | false ↦ first_of ts refuse go ])) [
      | true ↦ λ e. f t.1
      | false ↦ λ e. first_cases P ts refuse go f (λ p. g (e, p))
    ]) refl

module _ {A : Type 0} (address : Address A) (lawful : Lawful address) (a : A) where
  module _ (own : A) (t : Tally) (s : Node A) (w : Wait A) (g : Good address s) (k : Kept address a own s t) where
    abbrev kept_node : Stored A
    kept_node = stored address s

    -- the node that the rules run on: what is stored is loaded
    abbrev seen : Node A
    seen = loaded (stored address s)

    seen_is : seen ≡ s
    seen_is = loaded-stored address lawful s g.whole

    good : Good address seen
    good = rw seen_is g

    counted-so_far : Kept address a own seen t
    counted-so_far = rw seen_is k

    stayed : (Went address lawful a) own t [] (record { node = stored address s; wait = w })
    stayed = record { stands = stands s w g k; fine = tt }

    -- an effect was kept, or nothing was
    effect_went : (ds : List ℕ) (ms idle : List (Moment A)) {x : Answer (Effect A)} → After (λ e. Keeps address seen e.node × Walked address a own t ms e.node) x
        → (Went address lawful a) own t (moments_by address (kept address (stored address s) ds x).reply ms idle) (record { node = (kept address (stored address s) ds x).node; wait = w })
    effect_went ds ms idle halts = stayed
    effect_went ds ms idle (gives {b = e} q) =
        record { stands = stands e.node w q.0.good q.1.kept; fine = q.1.fine }

    message_went : (at : Cause) (ds : List ℕ) (ms idle : List (Moment A)) {x : Answer (Effect A)} → After (λ e. Keeps address seen e.node × Walked address a own t ms e.node) x
        → (Went address lawful a) own t (moments_by address (kept_message address (stored address s) at ds x).reply ms idle) (record { node = (kept_message address (stored address s) at ds x).node; wait = w })
    message_went at ds ms idle halts = stayed
    message_went at ds ms idle (gives {b = e} {ds = rest} q) = effect_went ds ms idle (gives {b = e} {ds = rest} q)

    step_went : (ds : List ℕ) (ms idle : List (Moment A)) {x : Answer (Stepped A)} → After (λ e. Keeps address seen e.effect.node × Walked address a own t ms e.effect.node) x
        → (Went address lawful a) own t (moments_by address (step_of_kept address (stored address s) w ds x).outcome.reply ms idle) (world_of address (step_of_kept address (stored address s) w ds x))
    step_went ds ms idle halts = stayed
    step_went ds ms idle (gives {b = e} q) = record { stands = stands e.effect.node e.wait q.0.good q.1.kept; fine = q.1.fine }

    add_went : (b : A) (n : ℕ) (ds : List ℕ) (idle : List (Moment A)) {x : Answer (Members A)}
        → After (λ m. Keeps address seen (with_members seen m) × Did address a seen (Added b n) (record { node = with_members seen m; said = []; collected = 0 })) x
        → (Went address lawful a) own t
        (moments_by address (kept address (stored address s) ds (and_then x λ m rest. done (record { node = with_members seen m; messages = []; events = []; collected = 0 }) rest)).reply
        (moment (Added b n) seen (and_then x λ m rest. done (record { node = with_members seen m; said = []; collected = 0 }) rest))
        idle)
        (record { node = (kept address (stored address s) ds (and_then x λ m rest. done (record { node = with_members seen m; messages = []; events = []; collected = 0 }) rest)).node; wait = w })
    add_went b n ds idle halts = stayed
    add_went b n ds idle (gives {b = m} {ds = rest} q) =
        let v = one-step address a own seen (Added b n) (record { node = with_members seen m; said = []; collected = 0 }) t counted-so_far q.1 in
        effect_went ds _ [] (gives {b = record { node = with_members seen m; messages = []; events = []; collected = 0 }} {ds = rest} (q.0, v))

    -- an add of an address that is listed: no entry, by the ledger's own count
    already_went : (b : A) (n : ℕ) → lists address b seen ≡ true → (Went address lawful a) own t (silent (Added b n) seen seen) (record { node = stored address s; wait = w })
    already_went b n e =
        let v = one-step address a own seen (Added b n) (record { node = seen; said = []; collected = 0 }) t counted-so_far (already_did address lawful a b n seen good.whole e) in
        record { stands = stands s w g (rw (sym seen_is) v.kept); fine = v.fine }

    end_went : (v : Fate) (ms : List (Moment A)) {x : Answer (Effect A)} → After (λ e. Keeps address seen e.node × Walked address a own t ms e.node) x
        → (Went address lawful a) own t (moments_by address (kept_end address (stored address s) v x).reply ms []) (record { node = (kept_end address (stored address s) v x).node; wait = w })
    end_went v ms halts = stayed
    end_went Leaves ms (gives {b = e} q) = record { stands = stands e.node w q.0.good q.1.kept; fine = q.1.fine }
    end_went Stays ms (gives {b = e} q) = record { stands = stands e.node w q.0.good q.1.kept; fine = q.1.fine }
    end_went Absent ms (gives {b = e} q) = record { stands = stands e.node w q.0.good q.1.kept; fine = q.1.fine }

    -- a timer ended, or none was over
    timer_went : (o : Option ℕ) → ((i : ℕ) → o ≡ some i → i < length seen.timers)
        → (Went address lawful a) own t (moments_by address (ends_at address (stored address s) o).reply (ending_at address o seen) []) (record { node = (ends_at address (stored address s) o).node; wait = w })
    timer_went none h = stayed
    timer_went (some i) h =
        let d = ended_deed address (get_or seen.timers i (no_timer address)) in
        end_went (fate_at address i seen) (trace_timer address i seen)
        (after_then
        (after_both (λ o x y. (x, y)) (end_keeps address lawful i seen [] good (h i refl)) (one-moment address a own seen d t counted-so_far (timer_did address lawful a i seen [] good.whole)))
        (λ o rest q. gives q))

    call_went : (c : Call A) → (Went address lawful a) own t (moments address c (record { node = stored address s; wait = w })) (world_of address (outcome address c (record { node = stored address s; wait = w })))
    unfolding add_peer message detect end_timer loaded
    call_went (Add b n ds) =
        first_cases (λ (o : Outcome A). (Went address lawful a) own t (moments_by address o.reply (trace_add address b n seen ds) (silent (Added b n) seen seen)) (record { node = o.node; wait = w })) (add_tests address (stored address s) b) (refuses (stored address s)) _
        (λ r. stayed)
        (λ p.
        (elim (lists address b seen) as (λ u. lists address b seen ≡ u → let o = or_already u (stored address s) (kept address (stored address s) ds (joins address b n seen ds)) in
        (Went address lawful a) own t (moments_by address o.reply (trace_add address b n seen ds) (silent (Added b n) seen seen)) (record { node = o.node; wait = w })) [
          | true ↦ λ e. already_went b n e
          | false ↦ λ e. add_went b n ds (silent (Added b n) seen seen)
              (after_both (λ m x y. (x, y)) (add-keeps address lawful b n seen ds good (not-false (address.valid b) p.1.0) e) (add_did address lawful a b n seen ds good.whole e))
        ]) refl)
    call_went (Receive action gs ds lent) =
        first_cases (λ (o : Outcome A). (Went address lawful a) own t (moments_by address o.reply (trace_message address action gs seen ds) []) (record { node = o.node; wait = w })) (message_tests address (stored address s) action gs lent) (refuses (stored address s)) _
        (λ r. stayed)
        (λ p.
        let v = and_split (valid_action address action) (every (valid_gossip address) gs) (not-false _ p.1.1.1.0) in
        message_went _ ds (trace_message address action gs seen ds) []
        (after_both (λ e x y. (x, y)) (handle-keeps address lawful action gs seen ds good v.0 v.1) (walk-message address a lawful own action gs seen ds t counted-so_far)))
    call_went (Step now ds lent) =
        first_cases (λ (o : StepOutcome A). (Went address lawful a) own t (moments_by address o.outcome.reply (trace_step address w.state now seen ds) []) (world_of address o)) (step_tests address (stored address s) w lent) (λ r. record { outcome = refuses (stored address s) r; wait = w }) _
        (λ r. stayed)
        (λ p.
        elim (due (stored address s).settings w now) as (λ u. let o = when_due u (stored address s) w (step_of_kept address (stored address s) w ds (step_rule address w.state now seen ds)) in
        (Went address lawful a) own t (moments_by address o.outcome.reply (trace_step address w.state now seen ds) []) (world_of address o)) [
          | true ↦ step_went ds (trace_step address w.state now seen ds) []
              (after_both (λ e x y. (x, y)) (step_keeps address lawful w.state now seen ds good (not-false (valid_state address w.state) p.1.1.0)) (walk_step address a lawful own w.state now seen ds t counted-so_far))
          | false ↦ stayed
        ])
    call_went (Lends wait) = record { stands = stands s wait g k; fine = tt }
    call_went (Timer now lent) =
        first_cases (λ (o : Outcome A). (Went address lawful a) own t (moments_by address o.reply (ending_at address (first_over address seen.settings.suspect_timeout now seen.timers) seen) []) (record { node = o.node; wait = w })) (timer_tests address (stored address s) lent) (refuses (stored address s)) _
        (λ r. stayed)
        (λ p. timer_went (first_over address seen.settings.suspect_timeout now seen.timers) (first_over_in address lawful seen.settings.suspect_timeout now seen.timers))

  -- a call of any world that stands
  pub call-stands : (own : A) (t : Tally) (c : Call A) (w : World A) → (Stands address lawful a) own t w → (Went address lawful a) own t (moments address c w) (world_of address (outcome address c w))
  call-stands own t c _ (stands s w g k) = call_went own t s w g k c

  -- and so every history
  pub walk : (own : A) (h : List (Call A)) (w : World A) (t : Tally) → (Stands address lawful a) own t w → (Went address lawful a) own t (trace address h w) (run address h w)
  walk own [] w t k = record { stands = k; fine = tt }
  walk own (c ∷ h) w t k =
      let p = call-stands own t c w k in
      let w' = world_of address (outcome address c w) in
      let q = walk own h w' (tally address a (moments address c w) t) p.stands in
      record {
        stands = rw (tally-append address a (moments address c w) (trace address h w') t) q.stands;
        fine = along_append address a own (moments address c w) (trace address h w') t p.fine q.fine;
      }

  -- the first node and the fresh wait record, at any tick
  pub begins : (b : Beginning A) (tick : ℕ) → Good address (first_node b) → (Stands address lawful a) (own_of b) (begun address a b) (start address b tick)
  unfolding fresh
  begins (Creation settings own n) tick g =
      stands (fresh settings own n) (record { state = SendingPing; since = tick }) g
      (record {
        whole = g.whole;
        mine = refl;
        count = elim (address.same a own) as (λ u. one u ≡ 0 + one (pick u true false)) [ true ↦ refl | false ↦ refl ];
        low = λ _ _. omega arith;
      })
  begins (Restart settings own rows position) tick g =
      stands (restarted settings own rows position) (record { state = SendingPing; since = tick }) g
      (record { whole = g.whole; mine = refl; count = omega arith; low = λ _ _. omega arith })

  -- what creation gave is the fresh node, and it is good
  created_is : (settings : Settings) (own : A) (n : ℕ) (node : Stored A) → create address settings own n ≡ created node
      → (node ≡ stored address (fresh settings own n)) × (in_range settings ≡ true) × (address.valid own ≡ true)
  unfolding create
  created_is settings own n node =
      first_cases (λ (c : Created A). c ≡ created node → (node ≡ stored address (fresh settings own n)) × (in_range settings ≡ true) × (address.valid own ≡ true))
      (create_tests address settings own) not_created (created (stored address (fresh settings own n)))
      (λ r e. let z : ◌≡◌ {A = ℕ} 0 1 = ap kind e in absurd (omega arith))
      (λ p e. (cc, not-false (in_range settings) p.1.0, not-false (address.valid own) p.0))
    where
      kind : Created A → ℕ
      kind (not_created r) = 0
      kind (created s) = 1

-- the first node is good, and it is the one that was given
module _ {A : Type 0} (address : Address A) (lawful : Lawful address) where
  pub first_is : {b : Beginning A} {node : Stored A} → Gave address b node → node ≡ stored address (first_node b)
  first_is (creates {settings} {own} {n} {node} e) = (created_is address lawful own settings own n node e).0
  first_is (restarts c r) = refl

  pub first_good : {b : Beginning A} {node : Stored A} → Gave address b node → Good address (first_node b)
  first_good (creates {settings} {own} {n} {node} e) = let p = created_is address lawful own settings own n node e in fresh_good address lawful settings own n p.1 p.2
  first_good (restarts {settings} {own} {rows} {position} c r) = restarted_good address lawful settings own rows position c r.own_valid r.few r.valid r.once r.placed
