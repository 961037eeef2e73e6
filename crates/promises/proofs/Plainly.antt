-- IN PLAIN WORDS: when a list of tests gives a refusal of 7 to 10. For any type of address.
-- Assumes nothing.
use Rattle.std.specs.Prelude.{◌≡◌, ◌⊎◌, ◌↔◌, Bool, true, false, List, [], ◌∷◌, ℕ, ◌≤◌, ◌<◌}
use Rattle.std.proofs.Math.Path.{refl}
use Rattle.std.proofs.Common.{ap, sym, ◌∙◌, arith}
use Rattle.std.proofs.Math.Logic.{inl, inr}
use Rattle.std.proofs.Math.ListN.{length}
use borrow.Author.Tests.{leb-true, leb-false, ltb-true, le-leb, lt-leb, lt-ltb}
use Rattle.model.specs.declared.Refusal.{Refusal}
use Rattle.model.specs.declared.Refusal.TheVariants.{ListFull, DrawsShort, AliveFull, TimersFull, DeceasedFull}
use Rattle.model.specs.declared.Fate.{Fate}
use Rattle.model.specs.declared.Fate.TheVariants.{Leaves, Stays, Absent}
use Rattle.model.specs.Rows.{is_empty}
use Rattle.model.specs.Bounds.{list_places, heap_places}
use Rattle.model.specs.Answers.{number_of}
use Rattle.model.specs.Words.{Address, is_alive, Timer, WaitState, SendingPing, WaitingForPingAck, SendingPingReq, WaitingForPingReqAck, Declaring}
use Rattle.model.specs.Node.{Node, state_of, numbered}
use Rattle.model.specs.Detector.{fate_of}
use Rattle.laws_rules.specs.Judged.{Fated, fated_leaves, fated_alive, fated_greater, fated_absent, fated}
use Rattle.promises.specs.Firsts.{FirstFails, fails, passes}
use Rattle.promises.proofs.Firsts.{first-among}
use Rattle.promises.specs.Stops.{add_stops, step_stops, end_stops, StepTimersFull, StepHeapFull, StepDrawsShort, Removes, Refutes, IsGone}

other : {C : Type 0} {r x : Refusal} → r ≡ x → (number_of r ≡ number_of x → ⊥) → C
other e apart = absurd (apart (ap number_of e))

empty_is : (ds : List ℕ) → is_empty ds ≡ true → ds ≡ []
empty_is [] e = refl
empty_is (d ∷ ds) e = let z : ◌≡◌ {A = ℕ} 0 1 = cc in absurd (omega arith)

-- adding a peer that is not listed
module _ {A : Type 0} (s : Node A) (ds : List ℕ) where
  pub add-full : FirstFails ListFull (add_stops s ds) ↔ (list_places ≤ length s.members.table)
  add-full = (only_if, (λ h. fails (le-leb _ _ h) refl))
    where
      only_if : FirstFails ListFull (add_stops s ds) → list_places ≤ length s.members.table
      only_if (fails p q) = leb-true _ _ p
      only_if (passes p (fails p' q)) = other q (omega arith)
      only_if (passes p (passes p' x)) = elim x [ ]

  pub add-short : FirstFails DrawsShort (add_stops s ds) ↔ ((length s.members.table < list_places) × (ds ≡ []))
  add-short = (only_if, (λ h. passes (lt-leb _ _ h.0) (fails (ap is_empty h.1) refl)))
    where
      only_if : FirstFails DrawsShort (add_stops s ds) → (length s.members.table < list_places) × (ds ≡ [])
      only_if (fails p q) = other q (omega arith)
      only_if (passes p (fails p' q)) = (leb-false _ _ p, empty_is ds p')
      only_if (passes p (passes p' x)) = elim x [ ]

none_fails : {C : Type 0} {x : Refusal} → FirstFails x [] → C
none_fails {C} f = first-among (λ r. C) f tt

-- an ended timer: what the fate of its address says, and 13
unlike : {C : Type 0} → ◌≡◌ {A = Bool} true false → C
unlike e = let z : ◌≡◌ {A = ℕ} 0 1 = cc in absurd (omega arith)

fate_place : Fate → ℕ
fate_place Leaves = 0
fate_place Stays = 1
fate_place Absent = 2

apart : {C : Type 0} {u v : Fate} → u ≡ v → (fate_place u ≡ fate_place v → ⊥) → C
apart e never = absurd (never (ap fate_place e))

module _ {A : Type 0} (address : Address A) (t : Timer A) (s : Node A) where
  leaves_if : (v : Fate) → Fated address t s.members.table v → (v ≡ Leaves) ↔ Removes address t s
  unfolding fate_place
  leaves_if _ (fated_leaves l a h) = ((λ e. (l, a, h)), (λ p. refl))
  leaves_if _ (fated_alive l a) = ((λ e. apart e (omega arith)), (λ p. unlike (sym a ∙ p.1)))
  leaves_if _ (fated_greater l h) = ((λ e. apart e (omega arith)), (λ p. absurd (omega (arith, h, p.2))))
  leaves_if _ (fated_absent l) = ((λ e. apart e (omega arith)), (λ p. unlike (sym p.0 ∙ l)))

  stays_if : (v : Fate) → Fated address t s.members.table v → (v ≡ Stays) ↔ Refutes address t s
  unfolding fate_place
  stays_if _ (fated_leaves l a h) = ((λ e. apart e (omega arith)), (λ p. clash p.1))
    where
      clash : (is_alive (state_of address t.addr s) ≡ true) ⊎ (t.number < numbered address t.addr s) → Leaves ≡ Stays
      clash (inl q) = unlike (sym q ∙ a)
      clash (inr q) = absurd (omega (arith, q, h))
  stays_if _ (fated_alive l a) = ((λ e. (l, inl a)), (λ p. refl))
  stays_if _ (fated_greater l h) = ((λ e. (l, inr h)), (λ p. refl))
  stays_if _ (fated_absent l) = ((λ e. apart e (omega arith)), (λ p. unlike (sym p.0 ∙ l)))

  absent_if : (v : Fate) → Fated address t s.members.table v → (v ≡ Absent) ↔ IsGone address t s
  unfolding fate_place
  absent_if _ (fated_leaves l a h) = ((λ e. apart e (omega arith)), (λ p. unlike (sym l ∙ p)))
  absent_if _ (fated_alive l a) = ((λ e. apart e (omega arith)), (λ p. unlike (sym l ∙ p)))
  absent_if _ (fated_greater l h) = ((λ e. apart e (omega arith)), (λ p. unlike (sym l ∙ p)))
  absent_if _ (fated_absent l) = ((λ e. l), (λ p. refl))

  -- refuted, and gone, in plain words
  pub end_refuted : (fate_of address t s.members.table ≡ Stays) ↔ Refutes address t s
  end_refuted = stays_if _ (fated address t s.members.table)

  pub end_gone : (fate_of address t s.members.table ≡ Absent) ↔ IsGone address t s
  end_gone = absent_if _ (fated address t s.members.table)

  full_if : (v : Fate) → (v ≡ Leaves) ↔ Removes address t s → FirstFails DeceasedFull (end_stops v s) ↔ (Removes address t s × (heap_places ≤ length s.disseminator.deceased))
  unfolding fate_place
  full_if Leaves h = (only_if, (λ p. fails (le-leb _ _ p.1) refl))
    where
      only_if : FirstFails DeceasedFull (end_stops Leaves s) → Removes address t s × (heap_places ≤ length s.disseminator.deceased)
      only_if (fails p q) = (h.0 refl, leb-true _ _ p)
      only_if (passes p x) = elim x [ ]
  full_if Stays h = (none_fails, (λ p. apart (h.1 p.0) (omega arith)))
  full_if Absent h = (none_fails, (λ p. apart (h.1 p.0) (omega arith)))

  -- 13: it would remove, and its event finds the deceased heap full
  pub end_full : FirstFails DeceasedFull (end_stops (fate_of address t s.members.table) s) ↔ (Removes address t s × (heap_places ≤ length s.disseminator.deceased))
  end_full = full_if _ (leaves_if _ (fated address t s.members.table))

-- a step that is due, by the state of the wait record
module _ {A : Type 0} (address : Address A) (s : Node A) (ds : List ℕ) where
  pub step-timers_full : (st : WaitState A) → FirstFails TimersFull (step_stops address st s ds) ↔ StepTimersFull st s
  step-timers_full st = (only_if st, (λ h. rw h.2 (fails (le-leb _ _ h.3) refl)))
    where
      only_if : (st : WaitState A) → FirstFails TimersFull (step_stops address st s ds) → StepTimersFull st s
      only_if SendingPing (fails p q) = other q (omega arith)
      only_if SendingPing (passes p x) = elim x [ ]
      only_if (WaitingForPingAck a n) x = elim x [ ]
      only_if (SendingPingReq a n) (fails p q) = other q (omega arith)
      only_if (SendingPingReq a n) (passes p (fails p' q)) = other q (omega arith)
      only_if (SendingPingReq a n) (passes p (passes p' x)) = elim x [ ]
      only_if (WaitingForPingReqAck a n) x = elim x [ ]
      only_if (Declaring a n) (fails p q) = (a, n, refl, leb-true _ _ p)
      only_if (Declaring a n) (passes p x) = elim x [ ]

  pub step-heap_full : (st : WaitState A) → FirstFails AliveFull (step_stops address st s ds) ↔ StepHeapFull address st s
  step-heap_full st = (only_if st, (λ h. rw h.2 (fails (le-leb _ _ h.3) refl)))
    where
      only_if : (st : WaitState A) → FirstFails AliveFull (step_stops address st s ds) → StepHeapFull address st s
      only_if SendingPing (fails p q) = other q (omega arith)
      only_if SendingPing (passes p x) = elim x [ ]
      only_if (WaitingForPingAck a n) x = elim x [ ]
      only_if (SendingPingReq a n) (fails p q) = (a, n, refl, leb-true _ _ p)
      only_if (SendingPingReq a n) (passes p (fails p' q)) = other q (omega arith)
      only_if (SendingPingReq a n) (passes p (passes p' x)) = elim x [ ]
      only_if (WaitingForPingReqAck a n) x = elim x [ ]
      only_if (Declaring a n) (fails p q) = other q (omega arith)
      only_if (Declaring a n) (passes p x) = elim x [ ]

  pub step_draws-short : (st : WaitState A) → FirstFails DrawsShort (step_stops address st s ds) ↔ StepDrawsShort address st s ds
  step_draws-short st = (only_if st, if)
    where
      only_if : (st : WaitState A) → FirstFails DrawsShort (step_stops address st s ds) → StepDrawsShort address st s ds
      only_if SendingPing (fails p q) = inl (refl, ltb-true _ _ p)
      only_if SendingPing (passes p x) = elim x [ ]
      only_if (WaitingForPingAck a n) x = elim x [ ]
      only_if (SendingPingReq a n) (fails p q) = other q (omega arith)
      only_if (SendingPingReq a n) (passes p (fails p' q)) = inr (a, n, refl, leb-false _ _ p, ltb-true _ _ p')
      only_if (SendingPingReq a n) (passes p (passes p' x)) = elim x [ ]
      only_if (WaitingForPingReqAck a n) x = elim x [ ]
      only_if (Declaring a n) (fails p q) = other q (omega arith)
      only_if (Declaring a n) (passes p x) = elim x [ ]

      if : StepDrawsShort address st s ds → FirstFails DrawsShort (step_stops address st s ds)
      if (inl h) = rw h.0 (fails (lt-ltb _ _ h.1) refl)
      if (inr h) = rw h.2 (passes (lt-leb _ _ h.3) (fails (lt-ltb _ _ h.4) refl))
