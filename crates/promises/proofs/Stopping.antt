-- EACH RULE REFUSES BY ITS TESTS, in the order of Stops.antt. For any type of address.
-- Assumes nothing.
use Rattle.std.specs.Prelude.{◌≡◌, ◌↔◌, Bool, true, false, leb, ltb}
use Rattle.std.proofs.Math.Path.{refl}
use Rattle.std.proofs.Common.{sym, arith}
use mathlib.Core.List.{List, [], ◌∷◌}
use Rattle.std.proofs.Math.Option.{Option, none, some}
use Prim.Native.Nat.{ℕ, ◌+◌, max, ◌<◌}
use Rattle.std.proofs.Math.ListN.{length}
use borrow.Author.Tests.{lt-ltb, le-ltb, le-leb, lt-leb}
use Rattle.model.specs.declared.Kind.{Kind}
use Rattle.model.specs.declared.Kind.TheVariants as kind
use Rattle.model.specs.declared.State.{State}
use Rattle.model.specs.declared.State.TheVariants as state
use Rattle.model.specs.declared.Refusal.{Refusal}
use Rattle.model.specs.declared.Refusal.TheVariants.{DrawsShort, AliveFull, TimersFull, DeceasedFull}
use Rattle.model.specs.declared.Fate.{Fate}
use Rattle.model.specs.declared.Fate.TheVariants.{Leaves, Stays, Absent}
use Rattle.model.specs.Rows.{pick, is_empty, remove_at}
use Rattle.laws.specs.Bools.{none-some}
use Rattle.model.specs.Bounds.{last_number}
use Rattle.model.specs.Answers.{Answer, done, refused, and_then, when, draw, full_of}
use Rattle.model.specs.Words.{Address, is_alive, parts_of, Event, Suspected, Gossip, Timer, WaitState, SendingPing, WaitingForPingAck, SendingPingReq, WaitingForPingReqAck, Declaring}
use Rattle.model.specs.Members as list
use Rattle.model.specs.Node as M
use Rattle.model.specs.Node.{Node, numbered, state_of, held_death}
use Rattle.model.specs.Collect.{is_old, collects}
use Rattle.laws_choose.specs.Collecting.{cleared-length}
use Rattle.model.specs.Handler as handler
use Rattle.laws_rules.specs.Judged.{Believed, of_alive, of_other, Judged, skipped, joined_at_end, joined_low, joined_raises, joined-enters, recovered_unknown, recovered_low, recovered_recovers, own-at_end, own_refutes, suspected_unknown, suspected_equal, suspected_low, suspected_suspects, deceased_unknown, deceased_low, deceased_buries, judged, SenderJudged, listed_already, sender_at_end, sender_enters, sender_judged}
use Rattle.model.specs.Detector as D
use Rattle.model.specs.Calls as calls
use Rattle.promises.specs.Firsts.{FirstFails, Among, fails, Refuses, halts, goes}
use Rattle.promises.proofs.Firsts.{exactly, untested, tested, then}
use Rattle.promises.specs.Reads.{pick_reads}
use Rattle.promises.proofs.PickReads.{pick_reading, reading_refuses}
use Rattle.promises.specs.Stops.{plus_one_or0, at_end, nothing_wanted, list_full, held_in, heap_full, timers_full, add_stops, wants_stops, end_stops, item_stops, admit_stops, ping_reads, group_reads, step_stops}

plus_some : (n m : ℕ) → M.one_added n ≡ some m → (leb last_number n ≡ false) × (n + 1 ≡ m)
plus_some n m =
    elim (leb last_number n) as (λ u. pick u none (some (n + 1)) ≡ some m → (u ≡ false) × (n + 1 ≡ m)) [
      | true ↦ λ e. none-some e
      | false ↦ λ e. (refl, cc)
    ]

plus_none : (n : ℕ) → M.one_added n ≡ none → leb last_number n ≡ true
plus_none n =
    elim (leb last_number n) as (λ u. pick u none (some (n + 1)) ≡ none → u ≡ true) [
      | true ↦ λ e. refl
      | false ↦ λ e. none-some (sym e)
    ]

-- D + 1 is there, or it is not
death-some : (d : Option ℕ) (m : ℕ) → M.death_plus_one d ≡ some m → (at_end d ≡ false) × (plus_one_or0 d ≡ m)
death-some none m e = (refl, cc)
death-some (some d) m e = plus_some d m e

death-none : (d : Option ℕ) → M.death_plus_one d ≡ none → at_end d ≡ true
death-none none e = cc
death-none (some d) e = plus_none d e

draw-refuses : {B : Type 0} (ds : List ℕ) {k : ℕ → List ℕ → Answer B} → ((d : ℕ) (rest : List ℕ) → Refuses [] (k d rest)) → Refuses ((is_empty ds, DrawsShort) ∷ []) (draw ds k)
draw-refuses [] h = halts (fails refl refl)
draw-refuses (d ∷ ds) h = untested (h d ds)

-- what is believed, and what is not
is_believed : (st : State) (x n : ℕ) → Believed st x n → handler.believed st x n ≡ true
unfolding handler.believed
is_believed st x n (of_alive a h) = rw a (le-leb x n h)
is_believed st x n (of_other a h) = rw a (lt-ltb x n h)

not_believed_low : (st : State) (x n : ℕ) → n < x → handler.believed st x n ≡ false
unfolding handler.believed
not_believed_low state.Alive x n h = lt-leb x n h
not_believed_low state.Pending x n h = le-ltb x n (omega arith)
not_believed_low state.Suspected x n h = le-ltb x n (omega arith)

not_believed_equal : (st : State) (x n : ℕ) → is_alive st ≡ false → n ≡ x → handler.believed st x n ≡ false
unfolding handler.believed
not_believed_equal st x n a e = rw a (le-ltb x n (omega arith))

-- a test, and two rules after it
tested_twice : {B C D : Type 0} (u : Bool) {r : Refusal} (b : B) (ds : List ℕ) {us : List (Bool × Refusal)} (f : B → List ℕ → Answer C) (k : C → List ℕ → Answer D)
    → Refuses us (and_then (f b ds) k) → Refuses ((u, r) ∷ us) (and_then (and_then (when u (refused r) (done b ds)) f) k)
unfolding when
tested_twice true b ds f k h = halts (fails refl refl)
tested_twice false b ds f k h = untested h

module _ {A : Type 0} (address : Address A) where
  quiet-refuses : (s : Node A) (ds : List ℕ) → Refuses [] (M.quiet s ds)
  unfolding M.quiet
  quiet-refuses s ds = goes tt

  add-refuses : (a : A) (n : ℕ) (s : Node A) (ds : List ℕ) → Refuses (add_stops s ds) (list.add address.same a n s.members ds)
  unfolding list.add
  add-refuses a n s ds = tested (list_full s) (draw-refuses ds (λ d rest. goes tt))

  -- what a heap holds when an event comes to it
  held_is : (k : Kind) (g : Gossip A) (s : Node A) → let p = parts_of address g.event in
      length (M.heap_of k (M.collecting address s.settings.collect k g s.disseminator)) ≡ held_in address k p.subject p.number s
  unfolding collects is_old
  held_is kind.Alive g s = omega (arith, cleared-length address kind.Alive g s.disseminator.alive s.settings.collect)
  held_is kind.Deceased g s = refl

  -- whether it finds its heap full
  abbrev full_on : Kind → Gossip A → Node A → Bool
  full_on k g s = let p = parts_of address g.event in heap_full address k p.subject p.number s

  emit-refuses : (k : Kind) (g : Gossip A) (s : Node A) (ds : List ℕ) → Refuses ((full_on k g s, full_of k) ∷ []) (M.emit address k g s ds)
  unfolding M.emit M.pushed
  emit-refuses k g s ds =
      let held : ℕ = length (M.heap_of k (M.collecting address s.settings.collect k g s.disseminator)) in
      rw (sym (held_is k g s)) (then ((leb 128 held, full_of k) ∷ []) (tested (leb 128 held) (goes tt)) (λ d rest. goes tt))

  -- nothing is asked for, one event, or an address with its event
  quiet_stops : (s : Node A) (ds : List ℕ) → Refuses (wants_stops address nothing_wanted s ds) (M.quiet s ds)
  quiet_stops s ds = untested (untested (untested (untested (quiet-refuses s ds))))

  push_stops : (d : Option ℕ) (k : Kind) (g : Gossip A) (s s' : Node A) (ds : List ℕ) → at_end d ≡ false → full_on k g s' ≡ full_on k g s
      → let p = parts_of address g.event in
      Refuses (wants_stops address (record { plus_one = d; adds = false; pushes = some (record { heap = k; about = p.subject; number = p.number }) }) s ds) (M.emit address k g s' ds)
  push_stops d k g s s' ds e f = rw (e, sym f) (untested (untested (untested (emit-refuses k g s' ds))))

  enter_stops : (d : Option ℕ) (a : A) (n : ℕ) (s : Node A) (ds : List ℕ) → at_end d ≡ false
      → Refuses (wants_stops address (record { plus_one = d; adds = true; pushes = some (record { heap = kind.Alive; about = a; number = n }) }) s ds) (handler.act address (handler.Enter a n) s ds)
  unfolding handler.act handler.list_after handler.row_after handler.news_of parts_of
  enter_stops d a n s ds e = rw e (untested (then (add_stops s ds) (add-refuses a n s ds) (λ m rest. emit-refuses kind.Alive _ _ rest)))

  judged-refuses : (e : Event A) (v : handler.Verdict A) (s : Node A) (ds : List ℕ) → Judged address s.own s.members.table (held_death address (parts_of address e).subject s) e v
      → Refuses (item_stops address e s ds) (handler.act address v s ds)
  unfolding handler.act handler.list_after handler.row_after handler.news_of parts_of
  judged-refuses _ _ s ds skipped = quiet_stops s ds
  judged-refuses _ _ s ds (joined_at_end {a = a} e) = halts (fails (death-none (held_death address a s) e) refl)
  judged-refuses _ _ s ds (joined_low {a = a} {n = n} least e l h) =
      let q = death-some (held_death address a s) least e in
      rw (q.0, q.1, l, le-ltb (numbered address a s) (max least n) h) (untested (untested (untested (untested (quiet-refuses s ds)))))
  judged-refuses _ _ s ds (joined_raises {a = a} {n = n} least e l h) =
      let q = death-some (held_death address a s) least e in
      rw (q.1, l, lt-ltb (numbered address a s) (max least n) h) (push_stops (held_death address a s) kind.Alive _ s _ ds q.0 refl)
  judged-refuses _ _ s ds (joined-enters {a = a} {n = n} least e l) =
      let q = death-some (held_death address a s) least e in
      rw (l, q.1) (enter_stops (held_death address a s) a (max least n) s ds q.0)
  judged-refuses _ _ s ds (recovered_unknown l) = rw l (quiet_stops s ds)
  judged-refuses _ _ s ds (recovered_low {a = a} {n = n} l h) = rw (l, le-ltb (numbered address a s) n h) (quiet_stops s ds)
  judged-refuses _ _ s ds (recovered_recovers {a = a} {n = n} l h) = rw (l, lt-ltb (numbered address a s) n h) (push_stops none kind.Alive _ s _ ds refl refl)
  judged-refuses _ _ s ds (own-at_end {n = n} o e) = rw o (halts (fails (plus_none n e) refl))
  judged-refuses _ _ s ds (own_refutes {n = n} next o e) = rw (o, (plus_some n next e).1) (push_stops (some n) kind.Alive _ s s ds (plus_some n next e).0 refl)
  judged-refuses _ _ s ds (suspected_unknown o l) = rw (o, l) (quiet_stops s ds)
  judged-refuses _ _ s ds (suspected_equal {a = a} {n = n} o l h e) = rw (o, l, not_believed_equal (state_of address a s) (numbered address a s) n h e) (quiet_stops s ds)
  judged-refuses _ _ s ds (suspected_low {a = a} {n = n} o l h) = rw (o, l, not_believed_low (state_of address a s) (numbered address a s) n h) (quiet_stops s ds)
  judged-refuses _ _ s ds (suspected_suspects {a = a} {n = n} o l h) = rw (o, l, is_believed (state_of address a s) (numbered address a s) n h) (push_stops none kind.Alive _ s _ ds refl refl)
  judged-refuses _ _ s ds (deceased_unknown l) = rw l (quiet_stops s ds)
  judged-refuses _ _ s ds (deceased_low {a = a} {n = n} l h) = rw (l, lt-leb (numbered address a s) n h) (quiet_stops s ds)
  judged-refuses _ _ s ds (deceased_buries {a = a} {n = n} l h) = rw (l, le-leb (numbered address a s) n h) (push_stops none kind.Deceased _ s _ ds refl refl)

  pub item-refuses : (e : Event A) (s : Node A) (ds : List ℕ) → Refuses (item_stops address e s ds) (handler.item address e s ds)
  unfolding handler.item
  item-refuses e s ds = judged-refuses e _ s ds (judged address s.own s.members.table (held_death address (parts_of address e).subject s) e)

  sender_refuses : (a : A) (v : handler.Verdict A) (s : Node A) (ds : List ℕ) → SenderJudged address s.own s.members.table (held_death address a s) a v → Refuses (admit_stops address a s ds) (handler.act address v s ds)
  unfolding handler.act handler.list_after handler.row_after handler.news_of
  sender_refuses a _ s ds (listed_already l) = rw l (quiet_stops s ds)
  sender_refuses a _ s ds (sender_at_end l e) = rw l (halts (fails (death-none (held_death address a s) e) refl))
  sender_refuses a _ s ds (sender_enters n l e) = rw (l, (death-some (held_death address a s) n e).1) (enter_stops (held_death address a s) a n s ds (death-some (held_death address a s) n e).0)

  admit-refuses : (a : A) (s : Node A) (ds : List ℕ) → Refuses (admit_stops address a s ds) (handler.admit address a s ds)
  unfolding handler.admit
  admit-refuses a s ds = sender_refuses a _ s ds (sender_judged address s.own s.members.table (held_death address a s) a)

  -- one gossip item, and one admission: exactly if
  pub item_exactly : (x : Refusal) (e : Event A) (s : Node A) (ds : List ℕ) → (handler.item address e s ds ≡ refused x) ↔ FirstFails x (item_stops address e s ds)
  item_exactly x e s ds = exactly x (item-refuses e s ds)

  pub admit_exactly : (x : Refusal) (a : A) (s : Node A) (ds : List ℕ) → (handler.admit address a s ds ≡ refused x) ↔ FirstFails x (admit_stops address a s ds)
  admit_exactly x a s ds = exactly x (admit-refuses a s ds)

  -- adding a peer that is not listed
  pub joins-refuses : (a : A) (n : ℕ) (s : Node A) (ds : List ℕ) → Refuses (add_stops s ds) (calls.joins address a n s ds)
  joins-refuses a n s ds = then (add_stops s ds) (add-refuses a n s ds) (λ m rest. goes tt)

  pick-refuses : (e : Option A) (wanted : ℕ) (s : Node A) (ds : List ℕ)
      → Refuses ((ltb (length ds) (pick_reads address.same address.blank s.own e wanted s.members ds), DrawsShort) ∷ []) (list.pick_from address.same address.blank s.own e wanted s.members ds)
  pick-refuses e wanted s ds = reading_refuses (pick_reading address.same address.blank s.own e wanted s.members ds)

  pub step-refuses : (st : WaitState A) (now : ℕ) (s : Node A) (ds : List ℕ) → Refuses (step_stops address st s ds) (D.step address st now s ds)
  unfolding D.send_ping D.waited D.send_ping_req D.suspect D.pick_group D.declare M.emit M.pushed M.change list.update pick_reads parts_of
  step-refuses SendingPing now s ds = then ((ltb (length ds) (ping_reads address s ds), DrawsShort) ∷ []) (pick-refuses none 1 s ds) (λ p rest. goes tt)
  step-refuses (WaitingForPingAck a n) now s ds = goes tt
  step-refuses (SendingPingReq a n) now s ds =
      let group : ℕ = s.settings.ping_req_group_size in
      rw (sym (held_is kind.Alive (record { event = Suspected s.own a n }) s))
      (tested_twice (leb 128 (length (M.heap_of kind.Alive (M.collecting address s.settings.collect kind.Alive (record { event = Suspected s.own a n }) s.disseminator)))) _ ds _ _
      (then ((ltb (length ds) (group_reads address a s ds), DrawsShort) ∷ []) (pick-refuses (some a) group (M.change address a state.Suspected n s) ds) (λ p rest. goes tt)))
  step-refuses (WaitingForPingReqAck a n) now s ds = goes tt
  step-refuses (Declaring a n) now s ds = tested (timers_full s) (goes tt)

  fate-refuses : (v : Fate) (t : Timer A) (ts : List (Timer A)) (s : Node A) (ds : List ℕ) → Refuses (end_stops v s) (calls.reports address (D.by_fate address v t (M.with_timers s ts) ds))
  unfolding D.by_fate M.leave parts_of
  fate-refuses Leaves t ts s ds = then (end_stops Leaves s) (emit-refuses kind.Deceased _ (M.leave address t.addr t.number (M.with_timers s ts)) ds) (λ o rest. goes tt)
  fate-refuses Stays t ts s ds = then [] (quiet-refuses (M.with_timers s ts) ds) (λ o rest. goes tt)
  fate-refuses Absent t ts s ds = then [] (quiet-refuses (M.with_timers s ts) ds) (λ o rest. goes tt)

  pub end_refuses : (i : ℕ) (s : Node A) (ds : List ℕ) → Refuses (end_stops (D.fate_at address i s) s) (calls.reports address (D.end_at address i s ds))
  unfolding D.end_at
  end_refuses i s ds = fate-refuses (D.fate_at address i s) (D.timer_at address i s) (remove_at s.timers i) s ds

  -- which refusals an ended timer can give
  pub end_among : (P : Refusal → Type 0) → P DeceasedFull → (v : Fate) (s : Node A) → Among P (end_stops v s)
  end_among P full Leaves s = (full, tt)
  end_among P full Stays s = tt
  end_among P full Absent s = tt

  -- which refusals a step can give
  pub step-among : (P : Refusal → Type 0) → P DrawsShort → P AliveFull → P TimersFull → (st : WaitState A) (s : Node A) (ds : List ℕ) → Among P (step_stops address st s ds)
  step-among P eight nine ten SendingPing s ds = (eight, tt)
  step-among P eight nine ten (WaitingForPingAck a n) s ds = tt
  step-among P eight nine ten (SendingPingReq a n) s ds = (nine, (eight, tt))
  step-among P eight nine ten (WaitingForPingReqAck a n) s ds = tt
  step-among P eight nine ten (Declaring a n) s ds = (ten, tt)
