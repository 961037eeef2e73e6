-- THE REASONS ARE EXHAUSTIVE AND EXCLUDE EACH OTHER: of every event, on every list and with every D, exactly one condition holds.
-- Assumes nothing.
use Rattle.std.specs.Prelude.{◌≡◌, Bool, List, ℕ, ◌+◌, max, ◌≤◌, ◌<◌, eqb, ltb, leb}
use Rattle.std.proofs.Math.Path.{refl}
use Rattle.std.proofs.Common.{sym, ◌∙◌, arith}
use Rattle.std.proofs.Math.Bool.{true, false}
use Rattle.std.proofs.Math.Option.{Option, none, some}
use borrow.Author.Tests.{ltb-true, ltb-false, leb-true, leb-false, eqb-true, eqb-false, lt-ltb, le-ltb, le-leb, lt-leb, eq-eqb, ne_eqb}
use Rattle.model.specs.Rows.{pick}
use Rattle.model.specs.Words.{Address, is_alive, Member, Event, Nothing, Joined, Recovered, Suspected, Deceased}
use Rattle.model.specs.Members.{listed}
use Rattle.laws_rules.specs.Judged.{pick_case}
use Rattle.promises.specs.Stops.{plus_one_or0}
use Rattle.why.specs.declared.Reason.{Reason}
use Rattle.why.specs.declared.Reason.TheVariants as reason
use Rattle.why_promises.specs.Conditions.{RaisedBy, greater, AsItCame, no_death, no_greater, held_at, state_at, no_event, own-suspected, unknown_recovered, unknown_suspected, unknown_deceased, equal_suspected, low_joined, low_recovered, low_suspected, low_deceased, HighEnough, new-joined, higher_joined, higher_recovered, alive-suspected, other_suspected, no_lower-deceased, raised-joined, accepted_joined, accepted_recovered, accepted_suspected, accepted_deceased, Holds}

raised_test : (d : Option ℕ) (n : ℕ) → RaisedBy d n → ltb n (plus_one_or0 d) ≡ true
raised_test _ n (greater {d = d} h) = lt-ltb n (d + 1) h

came_test : (d : Option ℕ) (n : ℕ) → AsItCame d n → ltb n (plus_one_or0 d) ≡ false
came_test _ n no_death = le-ltb n 0 (omega arith)
came_test _ n (no_greater {d = d} h) = le-ltb n (d + 1) h

pub test_raised : (d : Option ℕ) (n : ℕ) → n < plus_one_or0 d → RaisedBy d n
test_raised none n h = absurd (omega arith)
test_raised (some d) n h = greater h

pub test_came : (d : Option ℕ) (n : ℕ) → plus_one_or0 d ≤ n → AsItCame d n
test_came none n h = no_death
test_came (some d) n h = no_greater h

module _ {A : Type 0} (address : Address A) (own : A) (t : List (Member A)) (d : Option ℕ) where
  abbrev lists : A → Bool
  lists a = listed address.same a t

  abbrev holds : A → ℕ
  holds a = held_at address own t d a

  abbrev alive : A → Bool
  alive a = is_alive (state_at address own t d a)

  abbrev least : ℕ → ℕ
  least n = max (plus_one_or0 d) n

  -- the one reason, found by tests
  abbrev raised_or : ℕ → Reason
  raised_or n = pick (ltb n (plus_one_or0 d)) reason.Raised reason.Accepted

  unfoldable sole : Event A → Reason
  sole Nothing = reason.None
  sole (Joined f a n) = pick (lists a) (pick (ltb (holds a) (least n)) (raised_or n) reason.Low) (raised_or n)
  sole (Recovered f a n) = pick (lists a) (pick (ltb (holds a) n) reason.Accepted reason.Low) reason.Unknown
  sole (Suspected f a n) =
      pick (address.same own a) reason.Own
      (pick (lists a) (pick (alive a) (pick (leb (holds a) n) reason.Accepted reason.Low) (pick (ltb (holds a) n) reason.Accepted (pick (eqb n (holds a)) reason.Equal reason.Low))) reason.Unknown)
  sole (Deceased f a n) = pick (lists a) (pick (leb (holds a) n) reason.Accepted reason.Low) reason.Unknown

  -- where a condition holds it is that of the one reason
  joined-sole : (f a : A) (n : ℕ) (r : Reason) → raised_or n ≡ r → HighEnough address own t d (Joined f a n) → r ≡ sole (Joined f a n)
  unfolding sole
  joined-sole f a n r e (new-joined l) = rw l (sym e)
  joined-sole f a n r e (higher_joined l h) = rw (l, lt-ltb (holds a) (least n) h) (sym e)

  suspected-sole : (f a : A) (n : ℕ) → HighEnough address own t d (Suspected f a n) → reason.Accepted ≡ sole (Suspected f a n)
  unfolding sole
  suspected-sole f a n (alive-suspected o l s h) = rw (o, l, s, le-leb (holds a) n h)
  suspected-sole f a n (other_suspected o l s h) = rw (o, l, s, lt-ltb (holds a) n h)

  low_sole : (f a : A) (n : ℕ) (u : Bool) → alive a ≡ u → address.same own a ≡ false → lists a ≡ true → n < holds a → reason.Low ≡ sole (Suspected f a n)
  unfolding sole
  low_sole f a n true s o l h = rw (o, l, s, lt-leb (holds a) n h)
  low_sole f a n false s o l h = rw (o, l, s, le-ltb (holds a) n (omega arith), ne_eqb n (holds a) (λ e. omega arith))

  is_sole : (r : Reason) (e : Event A) → Holds address own t d r e → r ≡ sole e
  unfolding sole
  is_sole reason.None _ no_event = refl
  is_sole reason.Own _ (own-suspected o) = rw o
  is_sole reason.Unknown _ (unknown_recovered l) = rw l
  is_sole reason.Unknown _ (unknown_suspected o l) = rw (o, l)
  is_sole reason.Unknown _ (unknown_deceased l) = rw l
  is_sole reason.Equal _ (equal_suspected {a = a} {n = n} o l s e) = rw (o, l, s, le-ltb (holds a) n (omega arith), eq-eqb n (holds a) e)
  is_sole reason.Low _ (low_joined {a = a} {n = n} l h) = rw (l, le-ltb (holds a) (least n) h)
  is_sole reason.Low _ (low_recovered {a = a} {n = n} l h) = rw (l, le-ltb (holds a) n h)
  is_sole reason.Low _ (low_suspected {f = f} {a = a} {n = n} o l h) = low_sole f a n (alive a) refl o l h
  is_sole reason.Low _ (low_deceased {a = a} {n = n} l h) = rw (l, lt-leb (holds a) n h)
  is_sole reason.Raised _ (raised-joined {f = f} {a = a} {n = n} h r) = joined-sole f a n reason.Raised (rw (raised_test d n r)) h
  is_sole reason.Accepted _ (accepted_joined {f = f} {a = a} {n = n} h r) = joined-sole f a n reason.Accepted (rw (came_test d n r)) h
  is_sole reason.Accepted _ (accepted_recovered {n = n} (higher_recovered {a = a} l h)) = rw (l, lt-ltb (holds a) n h)
  is_sole reason.Accepted _ (accepted_suspected {f = f} {a = a} {n = n} h) = suspected-sole f a n h
  is_sole reason.Accepted _ (accepted_deceased {n = n} (no_lower-deceased {a = a} l h)) = rw (l, le-leb (holds a) n h)

  -- "exclude each other"
  pub exclusive : (r r' : Reason) (e : Event A) → Holds address own t d r e → Holds address own t d r' e → r ≡ r'
  exclusive r r' e h h' = is_sole r e h ∙ sym (is_sole r' e h')

  -- "exhaustive": the condition of the one reason holds
  abbrev Is : Event A → Reason → Type 0
  Is e r = Holds address own t d r e

  raised-or : (f a : A) (n : ℕ) → HighEnough address own t d (Joined f a n) → Is (Joined f a n) (raised_or n)
  raised-or f a n h =
      pick_case (Is (Joined f a n)) (ltb n (plus_one_or0 d)) reason.Raised reason.Accepted
      (λ q. raised-joined h (test_raised d n (ltb-true n (plus_one_or0 d) q)))
      (λ q. accepted_joined h (test_came d n (ltb-false n (plus_one_or0 d) q)))

  unequal : (n m : ℕ) → n ≤ m → (n ≡ m → ⊥) → n < m
  unequal n m h e = omega arith

  other_holds : (f a : A) (n : ℕ) → address.same own a ≡ false → lists a ≡ true → (u : Bool) → alive a ≡ u
      → Is (Suspected f a n) (pick u (pick (leb (holds a) n) reason.Accepted reason.Low) (pick (ltb (holds a) n) reason.Accepted (pick (eqb n (holds a)) reason.Equal reason.Low)))
  other_holds f a n o l true s =
      pick_case (Is (Suspected f a n)) (leb (holds a) n) reason.Accepted reason.Low
      (λ q. accepted_suspected (alive-suspected o l s (leb-true (holds a) n q)))
      (λ q. low_suspected o l (leb-false (holds a) n q))
  other_holds f a n o l false s =
      pick_case (Is (Suspected f a n)) (ltb (holds a) n) reason.Accepted _
      (λ q. accepted_suspected (other_suspected o l s (ltb-true (holds a) n q)))
      (λ q.
      pick_case (Is (Suspected f a n)) (eqb n (holds a)) reason.Equal reason.Low
      (λ p. equal_suspected o l s (eqb-true n (holds a) p))
      (λ p. low_suspected o l (unequal n (holds a) (ltb-false (holds a) n q) (eqb-false n (holds a) p))))

  sole-holds : (e : Event A) → Is e (sole e)
  unfolding sole
  sole-holds Nothing = no_event
  sole-holds (Joined f a n) =
      pick_case (Is (Joined f a n)) (lists a) _ _
      (λ l. pick_case (Is (Joined f a n)) (ltb (holds a) (least n)) _ _ (λ q. raised-or f a n (higher_joined l (ltb-true (holds a) (least n) q))) (λ q. low_joined l (ltb-false (holds a) (least n) q)))
      (λ l. raised-or f a n (new-joined l))
  sole-holds (Recovered f a n) =
      pick_case (Is (Recovered f a n)) (lists a) _ _
      (λ l. pick_case (Is (Recovered f a n)) (ltb (holds a) n) _ _ (λ q. accepted_recovered (higher_recovered l (ltb-true (holds a) n q))) (λ q. low_recovered l (ltb-false (holds a) n q)))
      unknown_recovered
  sole-holds (Suspected f a n) =
      pick_case (Is (Suspected f a n)) (address.same own a) _ _ own-suspected
      (λ o. pick_case (Is (Suspected f a n)) (lists a) _ _ (λ l. other_holds f a n o l (alive a) refl) (unknown_suspected o))
  sole-holds (Deceased f a n) =
      pick_case (Is (Deceased f a n)) (lists a) _ _
      (λ l. pick_case (Is (Deceased f a n)) (leb (holds a) n) _ _ (λ q. accepted_deceased (no_lower-deceased l (leb-true (holds a) n q))) (λ q. low_deceased l (leb-false (holds a) n q)))
      unknown_deceased

  pub exhaustive : (e : Event A) → (r : Reason) × Holds address own t d r e
  exhaustive e = (sole e, sole-holds e)
