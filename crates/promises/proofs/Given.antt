-- WHAT A CALL GIVES: its tests in their order, then "already" or "not due", then what stops the rules. By the rules, for any type of address.
-- Assumes nothing.
use Rattle.std.proofs.Math.Path.{◌≡◌, refl, ap}
use Rattle.std.proofs.Common.{sym, ◌∙◌, subst, arith, ltb-true, ltb-false}
use Rattle.std.specs.Prelude.{◌↔◌, Bool, not, ◌&&◌, List, [], ◌∷◌, ℕ, ◌≤◌, ◌<◌, ltb}
use Rattle.std.proofs.Math.Bool.{true, false}
use Rattle.std.proofs.Math.Option.{Option, none, some}
use Rattle.std.proofs.Math.Dec.{eqb}
use Rattle.model.specs.declared.Refusal.{Refusal}
use Rattle.model.specs.declared.Cause.{Cause}
use Rattle.model.specs.declared.Reply.{Reply}
use Rattle.model.specs.declared.Reply.TheVariants.{Done, Already, NotDue, Refuted, Gone, Refused, RefusedAt}
use Rattle.model.specs.declared.Fate.{Fate}
use Rattle.model.specs.declared.Fate.TheVariants.{Leaves, Stays, Absent}
use Rattle.model.specs.Bounds.{Room}
use Rattle.laws.specs.Bools.{none-some}
use Rattle.model.specs.Rows.{has}
use Rattle.model.specs.Answers.{Answer, done, refused, number_of}
use Rattle.model.specs.Words.{Address, Gossip, Action, Wait, Timer}
use Rattle.model.specs.Node.{Node, Out, Stored, Effect, loaded, lists, quiet}
use Rattle.model.specs.Handler.{handle, stops_at}
use Rattle.model.specs.Detector as D
use Rattle.model.specs.Calls as calls
use Rattle.model.specs.Calls.{reply_number, first_of}
use Rattle.promises.specs.Replies.{kind, NotDone}
use Rattle.promises.proofs.Replies.{cause_apart, already_apart, not_due_apart, same_number, not_zero}
use Rattle.history.proofs.Worlds.{first_cases}
use Rattle.promises.specs.Firsts.{FirstFails, Among, Passed}
use Rattle.promises.proofs.Firsts.{first-among, all_among, among_also, exactly, after-tests, by_tests}
use Rattle.promises.specs.Stops.{add_stops, step_stops, end_stops, MessageStops, Over, over_none}
use Rattle.promises.proofs.Stopping.{joins-refuses, step-refuses, end_refuses, end_among, step-among}
use Rattle.promises.specs.Records.{Told}
use Rattle.promises.proofs.Records.{message-among, handle_exactly}
use Rattle.promises.specs.Given.{Tabled, OneOf, reply_of, step_reply, idly, step_idly}

-- which numbers a call can give
pub numbers : {B : Type 0} {reply_of : B → Reply} {idly : Reply → B} {y : Reply} {ts : List (Bool × Refusal)} {P : Type 0} {S : Refusal → Type 0} {given : B} → Tabled reply_of idly y ts P S given
    → (ns : List ℕ) → OneOf ns 0 → Among (λ r. OneOf ns (number_of r)) ts → ((x : Refusal) → S x → OneOf ns (number_of x)) → OneOf ns (reply_number (reply_of given))
numbers {reply_of = reply_of} {given = given} t ns zero tests stops = by_reply (reply_of given) refl
  where
    by_number : (x : Refusal) → reply_number (reply_of given) ≡ number_of x → OneOf ns (number_of x)
    by_number x e =
        (elim (ltb (number_of x) 6) as (λ u. ltb (number_of x) 6 ≡ u → OneOf ns (number_of x)) [
          | true ↦ λ p. first-among (λ r. OneOf ns (number_of r)) ((t.tests x (ltb-true _ _ p)).0 e) tests
          | false ↦ λ p. stops x ((t.stops x (ltb-false _ _ p)).0 e).1
        ]) refl

    by_reply : (y : Reply) → reply_of given ≡ y → OneOf ns (reply_number y)
    by_reply (Done used) e = zero
    by_reply Already e = zero
    by_reply NotDue e = zero
    by_reply Refuted e = zero
    by_reply Gone e = zero
    by_reply (Refused x) e = by_number x (ap reply_number e)
    by_reply (RefusedAt x at) e = by_number x (ap reply_number e)

-- the words for nothing to do
data Idle : Reply → Type 0 where
  already : Idle Already
  not_due : Idle NotDue

idle_number : {y : Reply} → Idle y → reply_number y ≡ 0
idle_number already = refl
idle_number not_due = refl

idle_no_refusal : {y : Reply} → Idle y → (r : Refusal) → Refused r ≡ y → ⊥
idle_no_refusal already r e = already_apart (sym e)
idle_no_refusal not_due r e = not_due_apart (sym e)

-- the words of a kept call
data WasKept : Reply → Type 0 where
  by_done : (used : ℕ) → WasKept (Done used)
  by_refuted : WasKept Refuted
  by-gone : WasKept Gone

kept-number : {y : Reply} → WasKept y → reply_number y ≡ 0
kept-number (by_done n) = refl
kept-number by_refuted = refl
kept-number by-gone = refl

kept_done : {y : Reply} → WasKept y → NotDone y → ⊥
kept_done (by_done n) unkept = unkept
kept_done by_refuted unkept = unkept
kept_done by-gone unkept = unkept

kept_not_idle : {z y : Reply} → WasKept z → Idle y → z ≡ y → ⊥
kept_not_idle (by_done n) already e = let z : ◌≡◌ {A = ℕ} 0 1 = cc in omega arith
kept_not_idle (by_done n) not_due e = let z : ◌≡◌ {A = ℕ} 0 1 = cc in omega arith
kept_not_idle by_refuted already e = let z : ◌≡◌ {A = ℕ} 0 1 = cc in omega arith
kept_not_idle by_refuted not_due e = let z : ◌≡◌ {A = ℕ} 0 1 = cc in omega arith
kept_not_idle by-gone already e = let z : ◌≡◌ {A = ℕ} 0 1 = cc in omega arith
kept_not_idle by-gone not_due e = let z : ◌≡◌ {A = ℕ} 0 1 = cc in omega arith

fate-kept : (v : Fate) → WasKept (calls.fate_reply v)
fate-kept Leaves = by_done 0
fate-kept Stays = by_refuted
fate-kept Absent = by-gone

module _ {B : Type 0} (reply_of : B → Reply) (idly : Reply → B) where
  -- an outcome of the rules' answer: kept where they give something, and where they refuse nothing changes
  record Tells {C : Type 0} (outcome : Answer C → B) : Type 0 where
    gives : (c : C) (rest : List ℕ) → WasKept (reply_of (outcome (done c rest)))
    refusing : Refusal → Reply
    numbered : (r : Refusal) → reply_number (refusing r) ≡ number_of r
    refuses : (r : Refusal) → outcome (refused r) ≡ idly (refusing r)

  -- what comes after the tests
  record Goes (y : Reply) (P : Type 0) (S : Refusal → Type 0) (go : B) : Type 0 where
    stops : (x : Refusal) → (reply_number (reply_of go) ≡ number_of x) ↔ S x
    idles : (reply_of go ≡ y) ↔ P
    keeps : (z : Reply) → NotDone z → reply_of go ≡ z → go ≡ idly z

module _ {B : Type 0} (reply_of : B → Reply) (idly : Reply → B) (says : (z : Reply) → reply_of (idly z) ≡ z) {y : Reply} (word : Idle y) {P : Type 0} {S : Refusal → Type 0} where
  -- there is nothing to do
  rests : P → ((x : Refusal) → S x → ⊥) → Goes reply_of idly y P S (idly y)
  rests p never =
      record {
        stops = λ x. ((λ e. absurd (not_zero x (sym (ap reply_number (says y) ∙ idle_number word) ∙ e))), (λ h. absurd (never x h)));
        idles = ((λ e. p), (λ q. says y));
        keeps = λ z unkept e. ap idly (sym (says y) ∙ e);
      }

  -- the rules are asked
  asks : {C : Type 0} {outcome : Answer C → B} → Tells reply_of idly outcome → (P → ⊥) → (a : Answer C) → ((x : Refusal) → (a ≡ refused x) ↔ S x) → Goes reply_of idly y P S (outcome a)
  asks {C = C} {outcome = outcome} t otherwise a s =
      record {
        stops = λ x. ((λ e. (s x).0 ((told x a).0 e)), (λ h. (told x a).1 ((s x).1 h)));
        idles = ((λ e. absurd (never a e)), (λ p. absurd (otherwise p)));
        keeps = keeps a;
      }
    where
      reply : (r : Refusal) → reply_of (outcome (refused r)) ≡ t.refusing r
      reply r = ap reply_of (t.refuses r) ∙ says (t.refusing r)

      number : (r : Refusal) → reply_number (reply_of (outcome (refused r))) ≡ number_of r
      number r = ap reply_number (reply r) ∙ t.numbered r

      never : (a : Answer C) → reply_of (outcome a) ≡ y → ⊥
      never (refused r) e = not_zero r (sym (ap reply_number e ∙ idle_number word) ∙ number r)
      never (done c rest) e = kept_not_idle (t.gives c rest) word e

      told : (x : Refusal) (a : Answer C) → (reply_number (reply_of (outcome a)) ≡ number_of x) ↔ (a ≡ refused x)
      told x (refused r) = (
        (λ e. ap refused (same_number r x (sym (number r) ∙ e))),
        (λ e. let z : r ≡ x = cc in number r ∙ ap number_of z),
      )
      told x (done c rest) = (
        (λ e. absurd (not_zero x (sym (kept-number (t.gives c rest)) ∙ e))),
        (λ e. let z : ◌≡◌ {A = ℕ} 0 1 = cc in absurd (omega arith)),
      )

      keeps : (a : Answer C) (z : Reply) → NotDone z → reply_of (outcome a) ≡ z → outcome a ≡ idly z
      keeps (refused r) z unkept e = t.refuses r ∙ ap idly (sym (reply r) ∙ e)
      keeps (done c rest) z unkept e = absurd (kept_done (t.gives c rest) (subst NotDone (sym e) unkept))

  -- and so with the tests before it
  tabled : (ts : List (Bool × Refusal)) → Among (λ r. number_of r < 6) ts → ((x : Refusal) → S x → 6 ≤ number_of x) → {go : B} → Goes reply_of idly y P S go
      → Tabled reply_of idly y ts P S (first_of ts (λ r. idly (Refused r)) go)
  tabled ts low late {go = go} g =
      let refuse : Refusal → B = λ r. idly (Refused r) in
      let number : B → ℕ = λ b. reply_number (reply_of b) in
      let says-number : (r : Refusal) → number (refuse r) ≡ number_of r = λ r. ap reply_number (says (Refused r)) in
      let after : (reply_of (first_of ts refuse go) ≡ y) ↔ (Passed ts × (reply_of go ≡ y)) = after-tests reply_of Refused refuse (λ r. says (Refused r)) go y ts (all_among (idle_no_refusal word) ts) in
      record {
        tests = λ x early. by_tests number number_of refuse says-number go same_number x (λ e. absurd (omega (arith, early, late x ((g.stops x).0 e)))) ts;
        stops = λ x high.
            let t = after-tests number number_of refuse says-number go (number_of x) ts (among_also (λ r l e. omega arith) ts low) in
            ((λ e. ((t.0 e).0, (g.stops x).0 (t.0 e).1)), (λ h. t.1 (h.0, (g.stops x).1 h.1)));
        idles = ((λ e. ((after.0 e).0, g.idles.0 (after.0 e).1)), (λ h. after.1 (h.0, g.idles.1 h.1)));
        keeps = λ z unkept. first_cases (λ b. reply_of b ≡ z → b ≡ idly z) ts refuse go (λ r e. ap idly (sym (says (Refused r)) ∙ e)) (λ p. g.keeps z unkept);
      }

-- ---- timers
abbrev no_place : Option ℕ → Bool
no_place none = true
no_place (some i) = false

no_later : (o : Option ℕ) → no_place (D.later o) ≡ no_place o
no_later none = refl
no_later (some i) = refl

first-over : {A : Type 0} (address : Address A) (wait now : ℕ) (ts : List (Timer A)) → no_place (D.first_over address wait now ts) ≡ over_none wait now ts
unfolding D.first_over
first-over address wait now [] = refl
first-over address wait now (t ∷ ts) =
    elim (D.is_over wait now t.since) as (λ u. no_place (elim u [ true ↦ some 0 | false ↦ D.later (D.first_over address wait now ts) ]) ≡ (not u && over_none wait now ts)) [
      | true ↦ refl
      | false ↦ no_later (D.first_over address wait now ts) ∙ first-over address wait now ts
    ]

unlike : {C : Type 0} → true ≡ false → C
unlike e = let z : ◌≡◌ {A = ℕ} 0 1 = cc in absurd (omega arith)

-- where a test lets the rules go on, what they give is what stops them
lets : {u v : Bool} {Q R : Type 0} → u ≡ v → Q ↔ R → Q ↔ ((u ≡ v) × R)
lets e h = ((λ q. (e, h.0 q)), (λ f. h.1 f.1))

-- what holds of one place, said of a place that is named
at_place : {Q : Type 0} (R : ℕ → Type 0) {i : ℕ} → Q ↔ R i → Q ↔ ((j : ℕ) × (◌≡◌ {A = Option ℕ} (some i) (some j)) × R j)
at_place R {i} h = ((λ q. (i, refl, h.0 q)), (λ f. h.1 (subst R (sym (same_place f.1)) f.2)))
  where
    same_place : {j k : ℕ} → ◌≡◌ {A = Option ℕ} (some j) (some k) → j ≡ k
    same_place e = cc

module _ {A : Type 0} (address : Address A) (s : Stored A) where
  kept-tells : (ds : List ℕ) → Tells reply_of (idly address s) (calls.kept address s ds)
  kept-tells ds = record { gives = λ e rest. by_done _; refusing = Refused; numbered = λ r. refl; refuses = λ r. refl }

  message-tells : (at : Cause) (ds : List ℕ) → Tells reply_of (idly address s) (calls.kept_message address s at ds)
  message-tells at ds = record { gives = λ e rest. by_done _; refusing = λ r. RefusedAt r at; numbered = λ r. refl; refuses = λ r. refl }

  kept_step-tells : (w : Wait A) (ds : List ℕ) → Tells step_reply ((step_idly address s) w) (calls.step_of_kept address s w ds)
  kept_step-tells w ds = record { gives = λ e rest. by_done _; refusing = Refused; numbered = λ r. refl; refuses = λ r. refl }

  end_tells : (v : Fate) → Tells reply_of (idly address s) (calls.kept_end address s v)
  end_tells v = record { gives = λ e rest. fate-kept v; refusing = Refused; numbered = λ r. refl; refuses = λ r. refl }

  -- adding a peer: it is listed, or what stops an add
  pub add-table : (a : A) (n : ℕ) (ds : List ℕ)
      → Tabled reply_of (idly address s) Already (calls.add_tests address s a)
      (lists address a (loaded s) ≡ true)
      (λ x. (lists address a (loaded s) ≡ false) × FirstFails x (add_stops (loaded s) ds))
      (calls.add_peer address s a n ds)
  unfolding calls.add_peer
  add-table a n ds =
      tabled reply_of (idly address s) (λ z. refl) already (calls.add_tests address s a) (omega arith) (λ x h. first-among (λ r. 6 ≤ number_of r) h.1 (omega arith)) (listed (lists address a (loaded s)))
    where
      listed : (u : Bool) → Goes reply_of (idly address s) Already (u ≡ true) (λ x. (u ≡ false) × FirstFails x (add_stops (loaded s) ds)) (calls.or_already u s (calls.kept address s ds (calls.joins address a n (loaded s) ds)))
      listed true = rests reply_of (idly address s) (λ z. refl) already refl (λ x h. unlike h.0)
      listed false = asks reply_of (idly address s) (λ z. refl) already (kept-tells ds) (λ e. unlike (sym e)) (calls.joins address a n (loaded s) ds) (λ x. lets refl (exactly x (joins-refuses address a n (loaded s) ds)))

  -- the message: it is never without something to do
  pub message-table : (action : Action A) (gs : List (Gossip A)) (ds : List ℕ) (lent : Room)
      → Tabled reply_of (idly address s) NotDue (calls.message_tests address s action gs lent) ⊥ (λ x. MessageStops address gs (loaded s) ds x action) (calls.message address s action gs ds lent)
  unfolding calls.message
  message-table action gs ds lent =
      tabled reply_of (idly address s) (λ z. refl) not_due (calls.message_tests address s action gs lent) (omega arith) (λ x h. message-among (λ r. 6 ≤ number_of r) (omega arith) (omega arith) (omega arith) (omega arith) (omega arith) h)
      (asks reply_of (idly address s) (λ z. refl) not_due (message-tells _ ds) (λ e. e) (handle address action gs (loaded s) ds) (λ x. handle_exactly address x action gs (loaded s) ds))

  -- where its rules stopped
  kept_cause : (told at : Cause) (ds : List ℕ) (x : Refusal) (y : Answer (Effect A)) → ((calls.kept_message address s told ds y).reply ≡ RefusedAt x at) ↔ ((y ≡ refused x) × (told ≡ at))
  kept_cause told at ds x (refused r) = (
    (λ e. let z : r ≡ x = cc in (ap refused z, cc)),
    (λ h. let e = h.0 in let z : r ≡ x = cc in λ i. RefusedAt (z i) (h.1 i)),
  )
  kept_cause told at ds x (done e rest) = (
    (λ p. let z : ◌≡◌ {A = ℕ} 0 1 = cc in absurd (omega arith)),
    (λ h. let p = h.0 in let z : ◌≡◌ {A = ℕ} 0 1 = cc in absurd (omega arith)),
  )

  pub message_cause : (action : Action A) (gs : List (Gossip A)) (ds : List ℕ) (lent : Room) (x : Refusal) (at : Cause)
      → ((calls.message address s action gs ds lent).reply ≡ RefusedAt x at) ↔ (Passed (calls.message_tests address s action gs lent) × Told address x action gs (loaded s) ds at)
  unfolding calls.message
  message_cause action gs ds lent x at =
      let apart : (r : Refusal) → Refused r ≡ RefusedAt x at → ⊥ = λ r e. cause_apart e in
      let after = after-tests reply_of Refused (calls.refuses s) (λ r. refl) _ (RefusedAt x at) (calls.message_tests address s action gs lent) (all_among apart (calls.message_tests address s action gs lent)) in
      let at-rules = kept_cause (stops_at address gs (loaded s) ds) at ds x (handle address action gs (loaded s) ds) in
      ((λ e. ((after.0 e).0, at-rules.0 (after.0 e).1)), (λ h. after.1 (h.0, at-rules.1 h.1)))

  -- the detector step: it isn't due, or what stops a step of that state
  pub step-table : (w : Wait A) (now : ℕ) (ds : List ℕ) (lent : Room)
      → Tabled step_reply ((step_idly address s) w) NotDue (calls.step_tests address s w lent)
      (D.due s.settings w now ≡ false)
      (λ x. (D.due s.settings w now ≡ true) × FirstFails x (step_stops address w.state (loaded s) ds))
      (calls.detect address s w now ds lent)
  unfolding calls.detect
  step-table w now ds lent =
      tabled step_reply ((step_idly address s) w) (λ z. refl) not_due (calls.step_tests address s w lent) (omega arith)
      (λ x h. first-among (λ r. 6 ≤ number_of r) h.1 (step-among address (λ r. 6 ≤ number_of r) (omega arith) (omega arith) (omega arith) w.state (loaded s) ds))
      (due (D.due s.settings w now))
    where
      due : (u : Bool) → Goes step_reply ((step_idly address s) w) NotDue (u ≡ false) (λ x. (u ≡ true) × FirstFails x (step_stops address w.state (loaded s) ds))
          (calls.when_due u s w (calls.step_of_kept address s w ds (D.step address w.state now (loaded s) ds)))
      due true = asks step_reply ((step_idly address s) w) (λ z. refl) not_due (kept_step-tells w ds) unlike (D.step address w.state now (loaded s) ds) (λ x. lets refl (exactly x (step-refuses address w.state now (loaded s) ds)))
      due false = rests step_reply ((step_idly address s) w) (λ z. refl) not_due refl (λ x h. unlike (sym h.0))

  -- the timer call: no timer is over, or what stops the end of the first that is
  pub timer_table : (now : ℕ) (lent : Room) →
      let wait : ℕ = s.settings.suspect_timeout in
      Tabled reply_of (idly address s) NotDue (calls.timer_tests address s lent)
      (over_none wait now (loaded s).timers ≡ true)
      (λ x. Over address wait now (loaded s) (λ t. FirstFails x (end_stops (D.fate_of address t (loaded s).members.table) (loaded s))))
      (calls.end_timer address s now lent)
  unfolding calls.end_timer
  timer_table now lent =
      tabled reply_of (idly address s) (λ z. refl) not_due (calls.timer_tests address s lent) (omega arith) (λ x h. first-among (λ r. 6 ≤ number_of r) h.2 (end_among address (λ r. 6 ≤ number_of r) (omega arith) (D.fate_at address h.0 (loaded s)) (loaded s)))
      (ended (D.first_over address s.settings.suspect_timeout now (loaded s).timers) (first-over address s.settings.suspect_timeout now (loaded s).timers))
    where
      ended : (o : Option ℕ) {u : Bool} → no_place o ≡ u
          → Goes reply_of (idly address s) NotDue (u ≡ true) (λ x. (i : ℕ) × (o ≡ some i) × FirstFails x (end_stops (D.fate_at address i (loaded s)) (loaded s))) (calls.ends_at address s o)
      ended none e = rests reply_of (idly address s) (λ z. refl) not_due (sym e) (λ x h. none-some h.1)
      ended (some i) e =
          asks reply_of (idly address s) (λ z. refl) not_due (end_tells (D.fate_at address i (loaded s))) (λ f. unlike (sym (e ∙ f))) (calls.reports address (D.end_at address i (loaded s) []))
          (λ x. at_place (λ j. FirstFails x (end_stops (D.fate_at address j (loaded s)) (loaded s))) (exactly x (end_refuses address i (loaded s) [])))

  -- "refuted" and "already gone": the first timer that is over ends by that fate
  ends_by : (u : Fate) → (calls.fate_reply u ≡ NotDue → ⊥) → ((i : ℕ) → ((calls.ends_at address s (some i)).reply ≡ calls.fate_reply u) ↔ (D.fate_at address i (loaded s) ≡ u))
      → (o : Option ℕ) → ((calls.ends_at address s o).reply ≡ calls.fate_reply u) ↔ ((i : ℕ) × (o ≡ some i) × (D.fate_at address i (loaded s) ≡ u))
  ends_by u never h none = ((λ e. absurd (never (sym e))), (λ f. none-some f.1))
  ends_by u never h (some i) = at_place (λ j. D.fate_at address j (loaded s) ≡ u) (h i)

  timer_ends : (u : Fate) → (calls.fate_reply u ≡ NotDue → ⊥) → ((r : Refusal) → Refused r ≡ calls.fate_reply u → ⊥)
      → ((i : ℕ) → ((calls.ends_at address s (some i)).reply ≡ calls.fate_reply u) ↔ (D.fate_at address i (loaded s) ≡ u)) → (now : ℕ) (lent : Room)
      → ((calls.end_timer address s now lent).reply ≡ calls.fate_reply u)
      ↔ (Passed (calls.timer_tests address s lent) × Over address s.settings.suspect_timeout now (loaded s) (λ t. D.fate_of address t (loaded s).members.table ≡ u))
  unfolding calls.end_timer
  timer_ends u never apart h now lent =
      let after = after-tests reply_of Refused (calls.refuses s) (λ r. refl) _ (calls.fate_reply u) (calls.timer_tests address s lent) (all_among apart (calls.timer_tests address s lent)) in
      let ends = ends_by u never h (D.first_over address s.settings.suspect_timeout now (loaded s).timers) in
      ((λ e. ((after.0 e).0, ends.0 (after.0 e).1)), (λ f. after.1 (f.0, ends.1 f.1)))

  removal-told : (x : Answer (Out A)) (y : Reply) → (calls.kept_end address s Leaves (calls.reports address x)).reply ≡ y → OneOf (0 ∷ 3 ∷ []) (kind y)
  unfolding kind
  removal-told (refused r) y e = ap (λ (z : Reply). has eqb (kind z) (0 ∷ 3 ∷ [])) (sym e)
  removal-told (done o rest) y e = ap (λ (z : Reply). has eqb (kind z) (0 ∷ 3 ∷ [])) (sym e)

  refuted_by : (v : Fate) (t : Timer A) (m : Node A) → ((calls.kept_end address s v (calls.reports address (D.by_fate address v t m []))).reply ≡ Refuted) ↔ (v ≡ Stays)
  unfolding D.by_fate quiet kind
  refuted_by Leaves t m = ((λ e. unlike (sym (removal-told (D.by_fate address Leaves t m []) Refuted e))), (λ e. let z : ◌≡◌ {A = ℕ} 0 1 = cc in absurd (omega arith)))
  refuted_by Stays t m = ((λ e. refl), (λ e. refl))
  refuted_by Absent t m = ((λ e. let z : ◌≡◌ {A = ℕ} 0 1 = cc in absurd (omega arith)), (λ e. let z : ◌≡◌ {A = ℕ} 0 1 = cc in absurd (omega arith)))

  gone-by : (v : Fate) (t : Timer A) (m : Node A) → ((calls.kept_end address s v (calls.reports address (D.by_fate address v t m []))).reply ≡ Gone) ↔ (v ≡ Absent)
  unfolding D.by_fate quiet kind
  gone-by Leaves t m = ((λ e. unlike (sym (removal-told (D.by_fate address Leaves t m []) Gone e))), (λ e. let z : ◌≡◌ {A = ℕ} 0 1 = cc in absurd (omega arith)))
  gone-by Stays t m = ((λ e. let z : ◌≡◌ {A = ℕ} 0 1 = cc in absurd (omega arith)), (λ e. let z : ◌≡◌ {A = ℕ} 0 1 = cc in absurd (omega arith)))
  gone-by Absent t m = ((λ e. refl), (λ e. refl))

  pub timer_refutes : (now : ℕ) (lent : Room) → ((calls.end_timer address s now lent).reply ≡ Refuted)
      ↔ (Passed (calls.timer_tests address s lent) × Over address s.settings.suspect_timeout now (loaded s) (λ t. D.fate_of address t (loaded s).members.table ≡ Stays))
  unfolding D.end_at
  timer_refutes =
      timer_ends Stays (λ e. let z : ◌≡◌ {A = ℕ} 0 1 = cc in omega arith) (λ r e. let z : ◌≡◌ {A = ℕ} 0 1 = cc in omega arith)
      (λ i. refuted_by (D.fate_at address i (loaded s)) (D.timer_at address i (loaded s)) (D.freed address i (loaded s)))

  pub timer_finds_gone : (now : ℕ) (lent : Room) → ((calls.end_timer address s now lent).reply ≡ Gone)
      ↔ (Passed (calls.timer_tests address s lent) × Over address s.settings.suspect_timeout now (loaded s) (λ t. D.fate_of address t (loaded s).members.table ≡ Absent))
  unfolding D.end_at
  timer_finds_gone =
      timer_ends Absent (λ e. let z : ◌≡◌ {A = ℕ} 0 1 = cc in omega arith) (λ r e. let z : ◌≡◌ {A = ℕ} 0 1 = cc in omega arith)
      (λ i. gone-by (D.fate_at address i (loaded s)) (D.timer_at address i (loaded s)) (D.freed address i (loaded s)))

  -- "A detector, timer or add refusal has no record number."
  kept_causeless : (ds : List ℕ) (x : Answer (Effect A)) → calls.cause_of (calls.kept address s ds x).reply ≡ none
  kept_causeless ds (refused r) = refl
  kept_causeless ds (done e rest) = refl

  step_causeless : (w : Wait A) (ds : List ℕ) (x : Answer (D.Stepped A)) → calls.cause_of (calls.step_of_kept address s w ds x).outcome.reply ≡ none
  step_causeless w ds (refused r) = refl
  step_causeless w ds (done e rest) = refl

  pub add_no_cause : (a : A) (n : ℕ) (ds : List ℕ) → calls.cause_of (calls.add_peer address s a n ds).reply ≡ none
  unfolding calls.add_peer
  add_no_cause a n ds =
      first_cases (λ (o : calls.Outcome A). calls.cause_of o.reply ≡ none) (calls.add_tests address s a) (calls.refuses s) _ (λ r. refl)
      (λ p. elim (lists address a (loaded s)) as (λ u. calls.cause_of (calls.or_already u s (calls.kept address s ds (calls.joins address a n (loaded s) ds))).reply ≡ none) [
        | true ↦ refl
        | false ↦ kept_causeless ds (calls.joins address a n (loaded s) ds)
      ])

  pub step_no_cause : (w : Wait A) (now : ℕ) (ds : List ℕ) (lent : Room) → calls.cause_of (calls.detect address s w now ds lent).outcome.reply ≡ none
  unfolding calls.detect
  step_no_cause w now ds lent =
      first_cases (λ (o : calls.StepOutcome A). calls.cause_of o.outcome.reply ≡ none) (calls.step_tests address s w lent) (λ r. record { outcome = calls.refuses s r; wait = w }) _ (λ r. refl)
      (λ p. elim (D.due s.settings w now) as (λ u. calls.cause_of (calls.when_due u s w (calls.step_of_kept address s w ds (D.step address w.state now (loaded s) ds))).outcome.reply ≡ none) [
        | true ↦ step_causeless w ds (D.step address w.state now (loaded s) ds)
        | false ↦ refl
      ])

  end_causeless : (v : Fate) (x : Answer (Effect A)) → calls.cause_of (calls.kept_end address s v x).reply ≡ none
  end_causeless v (refused r) = refl
  end_causeless Leaves (done e rest) = refl
  end_causeless Stays (done e rest) = refl
  end_causeless Absent (done e rest) = refl

  ends_causeless : (o : Option ℕ) → calls.cause_of (calls.ends_at address s o).reply ≡ none
  ends_causeless none = refl
  ends_causeless (some i) = end_causeless (D.fate_at address i (loaded s)) (calls.reports address (D.end_at address i (loaded s) []))

  pub timer_no_cause : (now : ℕ) (lent : Room) → calls.cause_of (calls.end_timer address s now lent).reply ≡ none
  unfolding calls.end_timer
  timer_no_cause now lent =
      first_cases (λ (o : calls.Outcome A). calls.cause_of o.reply ≡ none) (calls.timer_tests address s lent) (calls.refuses s) _ (λ r. refl)
      (λ p. ends_causeless (D.first_over address s.settings.suspect_timeout now (loaded s).timers))
