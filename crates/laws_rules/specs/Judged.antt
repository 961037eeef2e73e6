-- What a verdict means: where it is given, its conditions hold. They are written out here for each kind of event.
-- Assumes nothing.
use Rattle.std.specs.Prelude.{◌≡◌, Bool, true, false, not, ◌&&◌, List, ℕ, ◌≤◌, ◌<◌, max, eqb, ltb, leb}
use Rattle.std.proofs.Math.Path.{refl}
use Rattle.std.proofs.Math.Option.{Option, none, some}
use Rattle.std.proofs.Common.{arith, ltb-true, ltb-false, leb-true, leb-false, eqb-true}
use Rattle.std.proofs.lemmas.Bool.{eqb-false}
use Rattle.model.specs.declared.State.{State}
use Rattle.model.specs.declared.State.TheVariants as state
use Rattle.model.specs.declared.Fate.{Fate}
use Rattle.model.specs.declared.Fate.TheVariants.{Leaves, Stays, Absent}
use Rattle.model.specs.Rows.{pick}
use Rattle.model.specs.Words.{Address, is_alive, Member, Timer, Event, Nothing, Joined, Recovered, Suspected, Deceased}
use Rattle.model.specs.Members.{listed, held, held_state}
use Rattle.model.specs.Node.{one_added, death_plus_one}
use Rattle.model.specs.Detector.{fate_of}
use Rattle.model.specs.Handler.{Verdict, Skip, Unknown, Equal, Low, AtEnd, Refute, Enter, Raise, Recover, Suspect, Bury, believed, or_end, joined_at, joined, recovered, suspected_other, suspected, deceased, judge, judge_sender}

-- a choice, by its test
pub pick_case : {B : Type 0} (P : B → Type 0) (u : Bool) (x y : B) → (u ≡ true → P x) → (u ≡ false → P y) → P (pick u x y)
pick_case P true x y p q = p refl
pick_case P false x y p q = q refl

-- a number plus one, if there is one
pub end_case : {A : Type 0} (P : Verdict A → Type 0) (o : Option ℕ) (k : ℕ → Verdict A) → (o ≡ none → P AtEnd) → ((m : ℕ) → o ≡ some m → P (k m)) → P (or_end o k)
end_case P none k p q = p refl
end_case P (some m) k p q = q m refl

below : (x y : ℕ) → x ≤ y → (x ≡ y → ⊥) → x < y
below x y p q = omega arith

-- what is no lower is believed of one that is Alive, and what is higher of any
pub data Believed (st : State) (x n : ℕ) : Type 0 where
  of_alive : is_alive st ≡ true → x ≤ n → Believed st x n
  of_other : is_alive st ≡ false → x < n → Believed st x n

pub believed_is : (st : State) (x n : ℕ) → believed st x n ≡ true → Believed st x n
unfolding believed
believed_is state.Alive x n e = of_alive refl (leb-true x n e)
believed_is state.Pending x n e = of_other refl (ltb-true x n e)
believed_is state.Suspected x n e = of_other refl (ltb-true x n e)

pub believed_le : (st : State) (x n : ℕ) → Believed st x n → x ≤ n
believed_le st x n (of_alive a h) = h
believed_le st x n (of_other a h) = omega arith

module _ {A : Type 0} (address : Address A) (own : A) (t : List (Member A)) (d : Option ℕ) where
  abbrev lists : A → Bool
  lists a = listed address.same a t

  abbrev holds : A → ℕ
  holds a = held address.same a t

  abbrev stands : A → State
  stands a = held_state address.same a t

  pub data Judged : Event A → Verdict A → Type 0 where
    skipped : Judged Nothing Skip
    -- Joined
    joined_at_end : {f a : A} {n : ℕ} → death_plus_one d ≡ none → Judged (Joined f a n) AtEnd
    joined_low : {f a : A} {n : ℕ} (least : ℕ) → death_plus_one d ≡ some least → lists a ≡ true → max least n ≤ holds a → Judged (Joined f a n) Low
    joined_raises : {f a : A} {n : ℕ} (least : ℕ) → death_plus_one d ≡ some least → lists a ≡ true → holds a < max least n → Judged (Joined f a n) (Raise a (max least n))
    joined-enters : {f a : A} {n : ℕ} (least : ℕ) → death_plus_one d ≡ some least → lists a ≡ false → Judged (Joined f a n) (Enter a (max least n))
    -- Recovered
    recovered_unknown : {f a : A} {n : ℕ} → lists a ≡ false → Judged (Recovered f a n) Unknown
    recovered_low : {f a : A} {n : ℕ} → lists a ≡ true → n ≤ holds a → Judged (Recovered f a n) Low
    recovered_recovers : {f a : A} {n : ℕ} → lists a ≡ true → holds a < n → Judged (Recovered f a n) (Recover a n)
    -- Suspected, of the own address and of another
    own-at_end : {f a : A} {n : ℕ} → address.same own a ≡ true → one_added n ≡ none → Judged (Suspected f a n) AtEnd
    own_refutes : {f a : A} {n : ℕ} (next : ℕ) → address.same own a ≡ true → one_added n ≡ some next → Judged (Suspected f a n) (Refute next)
    suspected_unknown : {f a : A} {n : ℕ} → address.same own a ≡ false → lists a ≡ false → Judged (Suspected f a n) Unknown
    suspected_equal : {f a : A} {n : ℕ} → address.same own a ≡ false → lists a ≡ true → is_alive (stands a) ≡ false → n ≡ holds a → Judged (Suspected f a n) Equal
    suspected_low : {f a : A} {n : ℕ} → address.same own a ≡ false → lists a ≡ true → n < holds a → Judged (Suspected f a n) Low
    suspected_suspects : {f a : A} {n : ℕ} → address.same own a ≡ false → lists a ≡ true → Believed (stands a) (holds a) n → Judged (Suspected f a n) (Suspect a n)
    -- Deceased
    deceased_unknown : {f a : A} {n : ℕ} → lists a ≡ false → Judged (Deceased f a n) Unknown
    deceased_low : {f a : A} {n : ℕ} → lists a ≡ true → n < holds a → Judged (Deceased f a n) Low
    deceased_buries : {f a : A} {n : ℕ} → lists a ≡ true → holds a ≤ n → Judged (Deceased f a n) (Bury a n)

  joined_is : (f a : A) (n : ℕ) → Judged (Joined f a n) (joined address d a n t)
  unfolding joined joined_at
  joined_is f a n =
      end_case (Judged (Joined f a n)) (death_plus_one d) (λ least. joined_at address a (max least n) t) joined_at_end
      (λ least e.
      pick_case (Judged (Joined f a n)) (lists a) _ _
      (λ l. pick_case (Judged (Joined f a n)) (ltb (holds a) (max least n)) _ _ (λ h. joined_raises least e l (ltb-true (holds a) (max least n) h)) (λ h. joined_low least e l (ltb-false (holds a) (max least n) h)))
      (λ l. joined-enters least e l))

  recovered_is : (f a : A) (n : ℕ) → Judged (Recovered f a n) (recovered address a n t)
  unfolding recovered
  recovered_is f a n =
      pick_case (Judged (Recovered f a n)) (lists a) _ _
      (λ l. pick_case (Judged (Recovered f a n)) (ltb (holds a) n) _ _ (λ h. recovered_recovers l (ltb-true (holds a) n h)) (λ h. recovered_low l (ltb-false (holds a) n h)))
      recovered_unknown

  not_higher : (f a : A) (n : ℕ) → address.same own a ≡ false → lists a ≡ true → is_alive (stands a) ≡ false → n ≤ holds a → Judged (Suspected f a n) (pick (eqb n (holds a)) Equal Low)
  not_higher f a n o l s h =
      pick_case (Judged (Suspected f a n)) (eqb n (holds a)) Equal Low
      (λ q. suspected_equal o l s (eqb-true n (holds a) q))
      (λ q. suspected_low o l (below n (holds a) h (eqb-false n (holds a) q)))

  -- a number that is not believed: equal to the held one, or below it
  not_believed : (f a : A) (n : ℕ) (st : State) → stands a ≡ st → address.same own a ≡ false → lists a ≡ true → believed st (holds a) n ≡ false
      → Judged (Suspected f a n) (pick (not (is_alive st) && eqb n (holds a)) Equal Low)
  unfolding believed
  not_believed f a n state.Alive e o l h = suspected_low o l (leb-false (holds a) n h)
  not_believed f a n state.Pending e o l h = not_higher f a n o l (rw e refl) (ltb-false (holds a) n h)
  not_believed f a n state.Suspected e o l h = not_higher f a n o l (rw e refl) (ltb-false (holds a) n h)

  suspected_is : (f a : A) (n : ℕ) → Judged (Suspected f a n) (suspected address own a n t)
  unfolding suspected suspected_other
  suspected_is f a n =
      pick_case (Judged (Suspected f a n)) (address.same own a) _ _
      (λ o. end_case (Judged (Suspected f a n)) (one_added n) Refute (own-at_end o) (λ next e. own_refutes next o e))
      (λ o.
      pick_case (Judged (Suspected f a n)) (lists a) _ _
      (λ l. pick_case (Judged (Suspected f a n)) (believed (stands a) (holds a) n) _ _
      (λ h. suspected_suspects o l (believed_is (stands a) (holds a) n h)) (λ h. not_believed f a n (stands a) refl o l h))
      (suspected_unknown o))

  deceased_is : (f a : A) (n : ℕ) → Judged (Deceased f a n) (deceased address a n t)
  unfolding deceased
  deceased_is f a n =
      pick_case (Judged (Deceased f a n)) (lists a) _ _
      (λ l. pick_case (Judged (Deceased f a n)) (leb (holds a) n) _ _ (λ h. deceased_buries l (leb-true (holds a) n h)) (λ h. deceased_low l (leb-false (holds a) n h)))
      deceased_unknown

  -- every event's verdict
  pub judged : (e : Event A) → Judged e (judge address own t d e)
  judged Nothing = skipped
  judged (Joined f a n) = joined_is f a n
  judged (Recovered f a n) = recovered_is f a n
  judged (Suspected f a n) = suspected_is f a n
  judged (Deceased f a n) = deceased_is f a n

  -- and a sender's
  pub data SenderJudged (a : A) : Verdict A → Type 0 where
    listed_already : lists a ≡ true → SenderJudged a Skip
    sender_at_end : lists a ≡ false → death_plus_one d ≡ none → SenderJudged a AtEnd
    sender_enters : (n : ℕ) → lists a ≡ false → death_plus_one d ≡ some n → SenderJudged a (Enter a n)

  pub sender_judged : (a : A) → SenderJudged a (judge_sender address t d a)
  unfolding judge_sender
  sender_judged a =
      pick_case (SenderJudged a) (lists a) _ _ listed_already
      (λ l. end_case (SenderJudged a) (death_plus_one d) (Enter a) (sender_at_end l) (λ n e. sender_enters n l e))

-- and what an ended timer's fate means
module _ {A : Type 0} (address : Address A) (t : Timer A) (m : List (Member A)) where
  abbrev there : Bool
  there = listed address.same t.addr m

  abbrev standing : State
  standing = held_state address.same t.addr m

  abbrev number : ℕ
  number = held address.same t.addr m

  pub data Fated : Fate → Type 0 where
    fated_leaves : there ≡ true → is_alive standing ≡ false → number ≤ t.number → Fated Leaves
    fated_alive : there ≡ true → is_alive standing ≡ true → Fated Stays
    fated_greater : there ≡ true → t.number < number → Fated Stays
    fated_absent : there ≡ false → Fated Absent

  listed-fate : (u : Bool) → is_alive standing ≡ u → there ≡ true → Fated (pick (not u && leb number t.number) Leaves Stays)
  listed-fate true e l = fated_alive l e
  listed-fate false e l =
      pick_case Fated (leb number t.number) Leaves Stays
      (λ h. fated_leaves l e (leb-true number t.number h))
      (λ h. fated_greater l (leb-false number t.number h))

  pub fated : Fated (fate_of address t m)
  unfolding fate_of
  fated = pick_case Fated there _ Absent (listed-fate (is_alive standing) refl) fated_absent
