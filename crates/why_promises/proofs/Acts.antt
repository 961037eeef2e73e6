-- THE HANDLER ACTS AS THE REASON SAYS: what it stores and what it emits of one record, wherever it does not refuse. For any type of address.
-- Assumes nothing.
use Rattle.std.specs.Prelude.{◌≡◌, refl, Bool, true, false, List, [], ◌∷◌, ℕ, ◌+◌, max, ◌≤◌, ◌<◌, length, get_or, drop, ltb, leb}
use Rattle.std.proofs.Common.{◌∙◌, subst, arith, ltb-true, ltb-false, lt-ltb, le-ltb}
use Rattle.std.proofs.Math.Option.{Option, none, some}
use Rattle.model.specs.declared.Kind.{Kind}
use Rattle.model.specs.declared.Kind.TheVariants as kind
use Rattle.model.specs.declared.Refusal.{Refusal}
use Rattle.model.specs.declared.Refusal.TheVariants.{ListFull}
use Rattle.model.specs.Rows.{pick}
use Rattle.model.specs.Bounds.{last_number, list_places, heap_places}
use Rattle.model.specs.Answers.{Answer, done, refused, and_then, when, draw}
use Rattle.model.specs.Words.{Address, Event, Joined, parts_of}
use Rattle.model.specs.Members as list
use Rattle.model.specs.Node as M
use Rattle.model.specs.Node.{Node, with_members, heap_of, collecting, held_death}
use Rattle.model.specs.Handler as handler
use Rattle.laws.specs.Bools.{none-some}
use Rattle.laws_rules.specs.Judged.{Judged, of_alive, of_other, skipped, joined_at_end, joined_low, joined_raises, joined-enters, recovered_unknown, recovered_low, recovered_recovers, own-at_end, own_refutes, suspected_unknown, suspected_equal, suspected_low, suspected_suspects, deceased_unknown, deceased_low, deceased_buries}
use Rattle.promises.specs.Stops.{plus_one_or0}
use Rattle.why.specs.declared.Reason.{Reason}
use Rattle.why.specs.declared.Reason.TheVariants as reason
use Rattle.why.specs.Why.{at_number, reason_of}
use Rattle.why_promises.specs.Conditions.{HighEnough, Holds, no_event, own-suspected, unknown_recovered, unknown_suspected, unknown_deceased, equal_suspected, low_joined, low_recovered, low_suspected, low_deceased, new-joined, higher_joined, higher_recovered, alive-suspected, other_suspected, no_lower-deceased, raised-joined, accepted_joined, accepted_recovered, accepted_suspected, accepted_deceased}
use Rattle.why_promises.proofs.Sole.{test_raised, test_came}
use Rattle.why_promises.specs.Acts.{Went, number_in, spoken, acting}

-- ---- the handler's steps, where they do not refuse
pushed-goes : {B C : Type 0} (u : Bool) (r : Refusal) (b : B) (ds : List ℕ) (k : B → C) → Went (and_then (when u (refused r) (done b ds)) λ d rest. done (k d) rest)
    → and_then (when u (refused r) (done b ds)) (λ d rest. done (k d) rest) ≡ done (k b) ds
unfolding when
pushed-goes true r b ds k h = absurd h
pushed-goes false r b ds k h = refl

added_goes : {B C : Type 0} (u : Bool) (ds : List ℕ) (k : ℕ → B) (f : B → List ℕ → Answer C) → Went (and_then (when u (refused ListFull) (draw ds λ d rest. done (k d) rest)) f)
    → and_then (when u (refused ListFull) (draw ds λ d rest. done (k d) rest)) f ≡ f (k (get_or ds 0 0)) (drop 1 ds)
unfolding when
added_goes true ds k f h = absurd h
added_goes false [] k f h = absurd h
added_goes false (d ∷ ds) k f h = refl

next_is : (n m : ℕ) → M.one_added n ≡ some m → n + 1 ≡ m
next_is n m =
    elim (leb last_number n) as (λ u. pick u none (some (n + 1)) ≡ some m → n + 1 ≡ m) [
      | true ↦ λ e. none-some e
      | false ↦ λ e. cc
    ]

least_is : (d : Option ℕ) (m : ℕ) → M.death_plus_one d ≡ some m → plus_one_or0 d ≡ m
least_is none m e = cc
least_is (some d) m e = next_is d m e

-- a Joined is kept at D + 1 if that is greater than its number, else at its number
number_case : (P : Reason → ℕ → Type 0) (least n : ℕ) → (n < least → P reason.Raised least) → (least ≤ n → P reason.Accepted n) → P (at_number n (max least n)) (max least n)
number_case P least n p q =
    (elim (ltb n least) as (λ u. ltb n least ≡ u → P (at_number n (max least n)) (max least n)) [
      | true ↦ λ t. let h : n < least = ltb-true n least t in let m : max least n ≡ least = omega (arith, h) in rw (m, lt-ltb n least h) (p h)
      | false ↦ λ t. let h : least ≤ n = ltb-false n least t in let m : max least n ≡ n = omega (arith, h) in rw (m, le-ltb n n (omega arith)) (q h)
    ]) refl

module _ {A : Type 0} (address : Address A) (s : Node A) (ds : List ℕ) where
  emit-goes : (k : Kind) (e : Event A) (s' : Node A) (rest : List ℕ) → Went (M.emit address k (record { event = e }) s' rest) → M.emit address k (record { event = e }) s' rest ≡ done (spoken address k e s') rest
  unfolding M.emit M.pushed
  emit-goes k e s' rest h = pushed-goes (leb heap_places (length (heap_of k (collecting address s'.settings.collect k (record { event = e }) s'.disseminator)))) _ _ rest _ h

  enter_goes : (a : A) (n : ℕ) → Went (handler.act address (handler.Enter a n) s ds)
      → handler.act address (handler.Enter a n) s ds ≡ done (spoken address kind.Alive (Joined s.own a n) (with_members s (list.added address.same a n (get_or ds 0 0) s.members))) (drop 1 ds)
  unfolding handler.act handler.list_after handler.row_after handler.news_of list.add
  enter_goes a n h =
      let e = added_goes (leb list_places (length s.members.table)) ds (λ d. list.added address.same a n d s.members) (λ m rest. handler.tell address (handler.Emits kind.Alive (Joined s.own a n)) (with_members s m) rest) h in
      e ∙ emit-goes kind.Alive (Joined s.own a n) (with_members s (list.added address.same a n (get_or ds 0 0) s.members)) (drop 1 ds) (subst Went e h)

  -- a verdict that is carried out: the condition of its reason holds, and what was done is what the reason says
  abbrev Does : Event A → Reason → handler.Verdict A → Type 0
  Does e r v =
      let d = held_death address (parts_of address e).subject s in
      Went (handler.act address v s ds) → Holds address s.own s.members.table d r e × (handler.act address v s ds ≡ done (acting address r d e s ds).out (acting address r d e s ds).left)

  pub does : (e : Event A) (v : handler.Verdict A) → Judged address s.own s.members.table (held_death address (parts_of address e).subject s) e v → Does e (reason_of v (number_in e)) v
  unfolding parts_of reason_of handler.act handler.list_after handler.row_after handler.news_of M.quiet M.leave
  does _ _ skipped = λ h. (no_event, refl)
  does _ _ (joined_at_end e) = λ h. absurd h
  does _ _ (joined_low {a = a} {n = n} least e l q) = λ h. (low_joined {n = n} l (rw (least_is (held_death address a s) least e) q), refl)
  does _ _ (joined_raises {f = f} {a = a} {n = n} least e l q) =
      let d = held_death address a s in
      let p : plus_one_or0 d ≡ least = least_is d least e in
      let high : HighEnough address s.own s.members.table d (Joined f a n) = higher_joined {n = n} l (rw p q) in
      number_case (λ r m. Does (Joined f a n) r (handler.Raise a m)) least n
      (λ b h. (raised-joined high (test_raised d n (rw p b)), rw (p, l) (emit-goes kind.Alive _ _ ds h)))
      (λ b h. (accepted_joined high (test_came d n (rw p b)), rw l (emit-goes kind.Alive _ _ ds h)))
  does _ _ (joined-enters {f = f} {a = a} {n = n} least e l) =
      let d = held_death address a s in
      let p : plus_one_or0 d ≡ least = least_is d least e in
      number_case (λ r m. Does (Joined f a n) r (handler.Enter a m)) least n
      (λ b h. (raised-joined (new-joined l) (test_raised d n (rw p b)), rw (p, l) (enter_goes a least h)))
      (λ b h. (accepted_joined (new-joined l) (test_came d n (rw p b)), rw l (enter_goes a n h)))
  does _ _ (recovered_unknown l) = λ h. (unknown_recovered l, refl)
  does _ _ (recovered_low l q) = λ h. (low_recovered l q, refl)
  does _ _ (recovered_recovers l q) = λ h. (accepted_recovered (higher_recovered l q), emit-goes _ _ _ ds h)
  does _ _ (own-at_end o e) = λ h. absurd h
  does _ _ (own_refutes {n = n} next o e) = λ h. (own-suspected o, rw (next_is n next e) (emit-goes _ _ _ ds h))
  does _ _ (suspected_unknown o l) = λ h. (unknown_suspected o l, refl)
  does _ _ (suspected_equal o l q e) = λ h. (equal_suspected o l q e, refl)
  does _ _ (suspected_low o l q) = λ h. (low_suspected o l q, refl)
  does _ _ (suspected_suspects o l (of_alive u q)) = λ h. (accepted_suspected (alive-suspected o l u q), emit-goes _ _ _ ds h)
  does _ _ (suspected_suspects o l (of_other u q)) = λ h. (accepted_suspected (other_suspected o l u q), emit-goes _ _ _ ds h)
  does _ _ (deceased_unknown l) = λ h. (unknown_deceased l, refl)
  does _ _ (deceased_low l q) = λ h. (low_deceased l q, refl)
  does _ _ (deceased_buries l q) = λ h. (accepted_deceased (no_lower-deceased l q), emit-goes _ _ _ ds h)
