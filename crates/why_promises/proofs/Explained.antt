-- EXACTLY. The call gives each refusal exactly if its test is the first that fails, and each reason exactly if all are passed and its condition holds; with the reason come its numbers. For any type of address.
-- Assumes nothing.
use Rattle.std.proofs.Math.Path.{◌≡◌, refl, ap}
use Rattle.std.proofs.Common.{◌∙◌, arith}
use Rattle.std.specs.Prelude.{◌↔◌, Bool, true, false, List, [], ◌∷◌, ◌++◌, ℕ}
use Rattle.std.proofs.Math.Option.{Option, some}
use Rattle.model.specs.declared.Refusal.{Refusal}
use Rattle.model.specs.Answers.{Answer, done, refused}
use Rattle.model.specs.Words.{Address, Gossip, Event, Nothing, Joined, Recovered, Suspected, Deceased}
use Rattle.model.specs.Node.{Node, Out, Stored, loaded}
use Rattle.model.specs.Handler as handler
use Rattle.model.specs.Calls.{first_of}
use Rattle.laws.specs.Bools.{none-some}
use Rattle.laws_rules.specs.Judged.{judged}
use Rattle.disseminate.specs.declared.Found.{Found}
use Rattle.promises.specs.Firsts.{FirstFails, fails, passes, Passed, Refuses, halts, goes}
use Rattle.promises.proofs.Firsts.{exactly, first_or-passed}
use Rattle.promises.specs.Stops.{item_stops}
use Rattle.promises.proofs.Stopping.{item-refuses}
use Rattle.why.specs.declared.Reason.{Reason}
use Rattle.why.specs.declared.Grounds.{Grounds}
use Rattle.why.specs.declared.Grounds.TheVariants.{Because, Refused}
use Rattle.why.specs.Why.{reason_of, unless_refused, because, verdict_on, weigh, why_tests, why}
use Rattle.why_promises.proofs.Sole.{exclusive}
use Rattle.why_promises.specs.Acts.{Went, number_in, acting}
use Rattle.why_promises.proofs.Acts.{does}
use Rattle.why_promises.specs.Explained.{reason_in, numbers_of, death_of, HoldsOn, why_stops, Explained}

module _ {A : Type 0} (address : Address A) where
  -- an answer by tests: the first that fails refuses, or all are passed and there is a reason
  data Decides (e : Event A) (s : Node A) (ds : List ℕ) (ts : List (Bool × Refusal)) : Grounds → Type 0 where
    refuses : {x : Refusal} → FirstFails x ts → Decides e s ds ts (Refused x)
    reasons : {r : Reason} {held number dead : Found} → Passed ts → (Explained address) e s ds r held number dead → Decides e s ds ts (Because r held number dead)

  -- the reason with its numbers
  because_is : (e : Event A) (s : Node A) → let n = (numbers_of address) e s in because address e s (verdict_on address e s) ≡ Because (reason_of (verdict_on address e s) (number_in e)) n.held n.number n.dead
  unfolding because reason_of
  because_is Nothing s = refl
  because_is (Joined f a n) s = refl
  because_is (Recovered f a n) s = refl
  because_is (Suspected f a n) s = refl
  because_is (Deceased f a n) s = refl

  weighed : (e : Event A) (s : Node A) (ds : List ℕ) (ts : List (Bool × Refusal)) (x : Answer (Out A)) → Refuses ts x → handler.item address e s ds ≡ x
      → (let r = reason_of (verdict_on address e s) (number_in e) in let d = acting address r ((death_of address) e s) e s ds in Went x → (HoldsOn address) s r e × (x ≡ done d.out d.left))
      → Decides e s ds ts (unless_refused x (Because (reason_of (verdict_on address e s) (number_in e)) ((numbers_of address) e s).held ((numbers_of address) e s).number ((numbers_of address) e s).dead))
  weighed e s ds ts _ (halts f) i k = refuses f
  weighed e s ds ts _ (goes p) i k = let q = k tt in reasons p (record { holds = q.0; acts = i ∙ q.1; told = refl })

  weigh_decides : (e : Event A) (s : Node A) (ds : List ℕ) → Decides e s ds (item_stops address e s ds) (weigh address e s ds)
  unfolding weigh handler.item
  weigh_decides e s ds =
      rw (because_is e s)
      (weighed e s ds (item_stops address e s ds) (handler.act address (verdict_on address e s) s ds) (item-refuses address e s ds) refl
      (does address s ds e (verdict_on address e s) (judged address s.own s.members.table ((death_of address) e s) e)))

  -- tests before other tests
  untested : {e : Event A} {s : Node A} {ds : List ℕ} {t : Bool × Refusal} {ts : List (Bool × Refusal)} {w : Grounds} → t.0 ≡ false → Decides e s ds ts w → Decides e s ds (t ∷ ts) w
  untested p (refuses f) = refuses (passes p f)
  untested p (reasons q x) = reasons (p, q) x

  tested : (e : Event A) (s : Node A) (ds : List ℕ) (ts us : List (Bool × Refusal)) (go : Grounds) → Decides e s ds us go → Decides e s ds (ts ++ us) (first_of ts Refused go)
  tested e s ds [] us go h = h
  tested e s ds (t ∷ ts) us go h =
      (elim t.0 as (λ u. t.0 ≡ u → Decides e s ds (t ∷ (ts ++ us)) (elim u [ true ↦ Refused t.1 | false ↦ first_of ts Refused go ])) [
        | true ↦ λ p. refuses (fails p refl)
        | false ↦ λ p. untested p (tested e s ds ts us go h)
      ]) refl

  why_decides : (s : Stored A) (g : Gossip A) (ds : List ℕ) → Decides g.event (loaded s) ds ((why_stops address) s g ds) (why address s g ds)
  unfolding why
  why_decides s g ds = tested g.event (loaded s) ds (why_tests address s g) (item_stops address g.event (loaded s) ds) _ (weigh_decides g.event (loaded s) ds)

  -- ---- read off it
  as_answer : Grounds → Answer (Unit {0})
  as_answer (Because r held number dead) = done tt []
  as_answer (Refused x) = refused x

  as_refuses : {e : Event A} {s : Node A} {ds : List ℕ} {ts : List (Bool × Refusal)} {w : Grounds} → Decides e s ds ts w → Refuses ts (as_answer w)
  unfolding as_answer
  as_refuses (refuses f) = halts f
  as_refuses (reasons p x) = goes p

  was-refused : (w : Grounds) (x : Refusal) → as_answer w ≡ refused x → w ≡ Refused x
  unfolding as_answer
  was-refused (Because r held number dead) x e = let z : ◌≡◌ {A = ℕ} 0 1 = cc in absurd (omega arith)
  was-refused (Refused y) x e = let z : y ≡ x = cc in ap Refused z

  refused_exactly : {e : Event A} {s : Node A} {ds : List ℕ} {ts : List (Bool × Refusal)} {w : Grounds} (x : Refusal) → Decides e s ds ts w → (w ≡ Refused x) ↔ FirstFails x ts
  unfolding as_answer
  refused_exactly {w = w} x d = let h = exactly x (as_refuses d) in ((λ e. h.0 (ap as_answer e)), (λ f. was-refused w x (h.1 f)))

  some_is : (r r' : Reason) → ◌≡◌ {A = Option Reason} (some r) (some r') → r ≡ r'
  some_is r r' e = cc

  reason_exactly : {e : Event A} {s : Node A} {ds : List ℕ} {ts : List (Bool × Refusal)} {w : Grounds} (r : Reason) → Decides e s ds ts w → (reason_in w ≡ some r) ↔ (Passed ts × (HoldsOn address) s r e)
  reason_exactly r (refuses f) = ((λ e. none-some e), (λ h. first_or-passed f h.0))
  reason_exactly {e = e} {s = s} r (reasons {r = r'} p x) = (
    (λ q. let z : r' ≡ r = some_is r' r q in (p, (rw z at x.holds))),
    (λ h. ap some (exclusive address s.own s.members.table ((death_of address) e s) r' r e x.holds h.1)),
  )

  explained : {e : Event A} {s : Node A} {ds : List ℕ} {ts : List (Bool × Refusal)} {w : Grounds} (r : Reason) (held number dead : Found) → Decides e s ds ts w → w ≡ Because r held number dead → (Explained address) e s ds r held number dead
  explained r held number dead (refuses f) e = let z : ◌≡◌ {A = ℕ} 0 1 = cc in absurd (omega arith)
  explained r held number dead (reasons {r = r'} {held = held'} {number = number'} {dead = dead'} p x) e =
      let a : r' ≡ r = cc in
      let b : held' ≡ held = cc in
      let c : number' ≡ number = cc in
      let d : dead' ≡ dead = cc in
      rw (a, b, c, d) at x

  module _ (s : Stored A) (g : Gossip A) (ds : List ℕ) where
    -- "Given exactly if"
    pub why-refused : (x : Refusal) → (why address s g ds ≡ Refused x) ↔ FirstFails x ((why_stops address) s g ds)
    why-refused x = refused_exactly x (why_decides s g ds)

    pub why_reason : (r : Reason) → (reason_in (why address s g ds) ≡ some r) ↔ (Passed ((why_stops address) s g ds) × (HoldsOn address) (loaded s) r g.event)
    why_reason r = reason_exactly r (why_decides s g ds)

    pub why_explained : (r : Reason) (held number dead : Found) → why address s g ds ≡ Because r held number dead → (Explained address) g.event (loaded s) ds r held number dead
    why_explained r held number dead e = explained r held number dead (why_decides s g ds) e
