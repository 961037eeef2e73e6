-- The detector step: its tests, each way out, and what is due.
-- Assumes nothing.
use mathlib.Core.Path.{◌≡◌, refl, ap, sym, ◌∙◌}
use mathlib.Core.Bool.{Bool, true, false, not, ◌||◌, ◌&&◌}
use mathlib.Core.List.{List, [], ◌∷◌}
use Prim.Native.Nat.{ℕ, ◌-◌, ◌≤◌}
use native.Mathlib.Omega.{arith}
use lib.ListN.{length}
use lib.Dec.{ltb}
use borrow.Author.Tests.{not-true, not-false, ltb-false}
use Rattle.model.specs.declared.Refusal.{Refusal}
use Rattle.model.specs.declared.Refusal.TheVariants.{Unsound, ShortRow, AddressRange}
use Rattle.model.specs.declared.Reply.{Reply}
use Rattle.model.specs.declared.Reply.TheVariants.{Done, NotDue, Refused}
use Rattle.model.specs.Rows.{pick, one, every}
use Rattle.model.specs.Answers.{Answer}
use Rattle.model.specs.Bounds.{Room}
use Rattle.laws.specs.Bools.{and_split}
use Rattle.address.specs.Here.{Addr, here}
use Rattle.model.specs.Words as W
use Rattle.model.specs.Node as M
use Rattle.model.specs.Detector as D
use Rattle.model.specs.Sound.{sound}
use Rattle.model.specs.Calls.{StepOutcome, first_of, refuses, step_tests, valid_state, when_due, step_of_kept, detect}
use Rattle.node.specs.declared.Node.{Node}
use Rattle.node.specs.Views.{view_node, stored_view}
use Rattle.node.specs.Rows.{Ready, loaded_view}
use Rattle.node.specs.Parts.{ready_is}
use Rattle.wait.specs.declared.WaitState.{WaitState}
use Rattle.wait.specs.declared.WaitState.TheVariants.{SendingPing, SendingPingReq}
use Rattle.wait.specs.declared.Wait.{Wait}
use Rattle.wait.specs.declared.Stepped.{Stepped}
use Rattle.wait.specs.Views.{to_state, to_wait, from_state, from-to_state, stepped_of, Gives, step_plain, kept_of}
use Rattle.wait.specs.Ends.{plain_step, kept_step, plain_gives}
use Rattle.detection.specs.declared.Tested.{Tested}
use Rattle.detection.specs.Views.{heard_in, stopped, or_stop, tested_of}

-- the tests as the code joins them: a row of either kind that is short gives one answer
module _ (s : M.Stored Addr) (w : W.Wait Addr) (tick : ℕ) (lent : Room) where
  either : (a b : Bool) (t : Tested) → or_stop a (Refused ShortRow) (or_stop b (Refused ShortRow) t) ≡ or_stop (a || b) (Refused ShortRow) t
  unfolding or_stop
  either true b t = refl
  either false b t = refl

  joined : or_stop (not (sound here s)) (Refused Unsound) (or_stop (ltb lent.gossip 256 || ltb lent.events 1) (Refused ShortRow) (or_stop (not (valid_state here w.state)) (Refused AddressRange) (or_stop (not (D.due s.settings w tick)) NotDue (record { due = true; reply = Done 0 }))))
      ≡ tested_of s w tick lent
  unfolding tested_of or_stop
  joined = refl

  pub tested_is : {sounds valid over : Bool} {wait : ℕ} {due five events three all : Tested}
      → sounds ≡ sound here s → valid ≡ valid_state here w.state → wait ≡ D.wait_of s.settings w.state → over ≡ D.is_over wait tick w.since
      → due ≡ or_stop (not over) NotDue (record { due = true; reply = Done 0 }) → five ≡ or_stop (not valid) (Refused AddressRange) due
      → events ≡ or_stop (ltb lent.events 1) (Refused ShortRow) five → three ≡ or_stop (ltb lent.gossip 256) (Refused ShortRow) events
      → all ≡ or_stop (not sounds) (Refused Unsound) three → all ≡ tested_of s w tick lent
  unfolding D.due
  tested_is {five = five} a b c d e f g h i = cc (joined, either (ltb lent.gossip 256) (ltb lent.events 1) five)

-- a step that is due has passed every test
all_passed : (ts : List (Bool × Refusal)) (t : Tested) → (first_of ts (λ r. stopped (Refused r)) t).due ≡ true → every (λ (x : Bool × Refusal). not x.0) ts ≡ true
unfolding or_stop
all_passed [] t h = refl
all_passed (x ∷ ts) t h =
    (elim x.0 as (λ u. (or_stop u (Refused x.1) (first_of ts (λ r. stopped (Refused r)) t)).due ≡ true → (not u && every (λ (y : Bool × Refusal). not y.0) ts) ≡ true) [
      | true ↦ λ z. z
      | false ↦ λ z. all_passed ts t z
    ]) h

neither : (a b : Bool) → (a || b) ≡ false → (a ≡ false) × (b ≡ false)
neither true b e = (e, cc)
neither false b e = (refl, e)

pub record Passed (s : M.Stored Addr) (w : W.Wait Addr) (lent : Room) : Type 0 where
  pub sound : sound here s ≡ true
  pub gossip : 256 ≤ lent.gossip
  pub events : 1 ≤ lent.events
  pub valid : valid_state here w.state ≡ true

pub passed : (s : M.Stored Addr) (w : W.Wait Addr) (tick : ℕ) (lent : Room) (t : Tested) → t ≡ tested_of s w tick lent → t.due ≡ true → Passed s w lent
unfolding tested_of
passed s w tick lent t e d =
    let p = and_split _ _ (all_passed (step_tests here s w lent) _ (sym (ap (λ (y : Tested). y.due) e) ∙ d)) in
    let r = and_split _ _ p.1 in
    let m = neither _ _ (not-true _ r.0) in
    record {
      sound = not-false _ (not-true _ p.0);
      gossip = ltb-false _ _ m.0;
      events = ltb-false _ _ m.1;
      valid = not-false _ (not-true _ (and_split _ _ r.1).0);
    }

-- a step as it is called
pub record Call : Type 0 where
  pub node : Node
  pub wait : Wait
  pub tick : ℕ
  pub draws : List ℕ
  pub lent : Room

module _ (q : Call) where
  abbrev s : M.Stored Addr
  s = stored_view q.node

  abbrev w : W.Wait Addr
  w = to_wait q.wait

  -- what a rule gives
  abbrev pub ruled : Answer (D.Stepped Addr) → StepOutcome Addr
  ruled x = step_of_kept here s w q.draws x

  abbrev pub rule : W.WaitState Addr → Answer (D.Stepped Addr)
  rule st = D.step here st q.tick (view_node q.node) q.draws

  -- what the call gives
  abbrev pub Answers : Stepped → Type 0
  Answers r =
      (r ≡ stepped_of (detect here s w q.tick q.draws q.lent))
      × (r.written ≤ q.lent.gossip) × (r.written ≤ 256) × (r.reported ≤ q.lent.events) × (r.reported ≤ 1)

  -- what the tests say of the call
  record Says (t : Tested) (o : StepOutcome Addr) : Type 0 where
    stops : t.due ≡ false → step_plain t.reply q.node q.wait ≡ stepped_of o
    goes : t.due ≡ true → ruled (rule w.state) ≡ o

  stop_says : (reply : Reply) (o : StepOutcome Addr) → step_plain reply q.node q.wait ≡ stepped_of o → Says (stopped reply) o
  stop_says reply o e = record { stops = λ z. e; goes = λ z. let x : ◌≡◌ {A = ℕ} 0 1 = ap one z in absurd (omega arith) }

  first_says : (ts : List (Bool × Refusal)) (t : Tested) (o : StepOutcome Addr) → Says t o → Says (first_of ts (λ r. stopped (Refused r)) t) (first_of ts (λ r. record { outcome = refuses s r; wait = w }) o)
  unfolding or_stop
  first_says [] t o h = h
  first_says (x ∷ ts) t o h =
      elim x.0 as (λ u. Says (or_stop u (Refused x.1) (first_of ts (λ r. stopped (Refused r)) t)) (elim u [ true ↦ record { outcome = refuses s x.1; wait = w } | false ↦ first_of ts (λ r. record { outcome = refuses s r; wait = w }) o ])) [
        | true ↦ stop_says (Refused x.1) _ (plain_step (Refused x.1) q.node q.wait)
        | false ↦ first_says ts t o h
      ]

  due-says : (u : Bool) → Says (or_stop (not u) NotDue (record { due = true; reply = Done 0 })) (when_due u s w (ruled (D.step here w.state q.tick (M.loaded s) q.draws)))
  unfolding or_stop
  due-says true =
      record {
        stops = λ z. let x : ◌≡◌ {A = ℕ} 1 0 = ap one z in absurd (omega arith);
        goes = λ z. ap (λ (m : M.Node Addr). ruled (D.step here w.state q.tick m q.draws)) (sym (loaded_view q.node));
      }
  due-says false = stop_says NotDue _ (plain_step NotDue q.node q.wait)

  module _ (t : Tested) (e : t ≡ tested_of s w q.tick q.lent) where
    says : Says t (detect here s w q.tick q.draws q.lent)
    unfolding tested_of detect
    says = rw e (first_says (step_tests here s w q.lent) _ _ (due-says (D.due s.settings w q.tick)))

    pub step-stops : {r : Stepped} → t.due ≡ false → r ≡ step_plain t.reply q.node q.wait → Answers r
    step-stops d f =
        let x = ap (λ (y : Stepped). y.written) f in
        let z = ap (λ (y : Stepped). y.reported) f in
        (f ∙ says.stops d, omega (arith, x), omega (arith, x), omega (arith, z), omega (arith, z))

    -- what its rule gives is what the call gives, and keeps to the rows
    pub by-rule : {r : Stepped} → t.due ≡ true → (st : WaitState) → q.wait.state ≡ st → Gives (ruled (rule (to_state st))) r → Answers r
    by-rule d st z g =
        let m = passed s w q.tick q.lent t e d in (
          g.is ∙ ap stepped_of (ap (λ (x : WaitState). ruled (rule (to_state x))) (sym z) ∙ says.goes d),
          omega (arith, g.written, m.gossip),
          g.written,
          omega (arith, g.reported, m.events),
          g.reported,
        )

    -- its address is in range
    pub target_valid : {a : Addr} {k : ℕ} → t.due ≡ true → q.wait.state ≡ SendingPingReq a k → here.valid a ≡ true
    unfolding valid_state
    target_valid d z = ap (λ (x : WaitState). valid_state here (to_state x)) (sym z) ∙ (passed s w q.tick q.lent t e d).valid

  -- waiting: the state goes on or back, and nothing else changes
  pub waited : {r : Stepped} {v : Wait} → Ready q.node → (a : Addr) (next : WaitState) → v ≡ record { state = pick (heard_in q.node.members a) SendingPing next; since = q.tick } → r ≡ step_plain (Done 0) q.node v
      → Gives (ruled (D.waited here a (to_state next) q.tick (view_node q.node) q.draws)) r
  unfolding D.waited D.heard view_node
  waited {v = v} h a next e f =
      let on = D.heard here a (view_node q.node) in
      let used : ◌≡◌ {A = ℕ} 0 (length q.draws - length q.draws) = omega arith in
      plain_gives f
      (kept_step 0 (view_node q.node) q.node (D.enters (pick on W.SendingPing (to_state next)) q.tick) v (sym (ready_is q.node h)) (e ∙ (λ i. record { state = back on i; since = q.tick }))
      ∙ ap (λ (k : ℕ). stepped_of (kept_of k (D.moves here (pick on W.SendingPing (to_state next)) q.tick (view_node q.node)))) used)
    where
      back : (u : Bool) → pick u SendingPing next ≡ from_state (pick u W.SendingPing (to_state next))
      back true = refl
      back false = sym (from-to_state next)
