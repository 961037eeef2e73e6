-- REFUSALS 2 AND 5 OF `swim::why`, in plain words: the node isn't sound; it is, and one of the event's two addresses is out of range.
-- Assumes nothing.
use Rattle.std.specs.Prelude.{◌≡◌, ◌↔◌, Bool, true, false, not, List, ◌∷◌, ℕ, ◌≤◌}
use Rattle.std.proofs.Math.Path.{refl}
use Rattle.std.proofs.Common.{ap, sym, ◌∙◌, arith}
use Rattle.std.proofs.Math.Option.{Option, none, some}
use Rattle.std.proofs.lemmas.Bool.{not-true, not-false}
use Rattle.model.specs.declared.Kind.TheVariants as kind
use Rattle.model.specs.declared.Refusal.{Refusal}
use Rattle.model.specs.declared.Refusal.TheVariants.{Unsound, AddressRange}
use Rattle.model.specs.Answers.{number_of, full_of}
use Rattle.address.specs.Here.{Addr, here}
use Rattle.model.specs.Words.{Address, Event, Nothing, Joined, Recovered, Suspected, Deceased, parts_of}
use Rattle.model.specs.Sound.{sound, valid_gossip}
use Rattle.types.specs.declared.Gossip.{Gossip}
use Rattle.types.specs.Views.{to_event}
use Rattle.node.specs.declared.Node.{Node}
use Rattle.node.specs.Views.{stored_view}
use Rattle.swim.specs.Promises.{Explains}
use Rattle.swim.specs.Lookups.{handed}
use Rattle.promises.specs.Firsts.{FirstFails, fails, passes}
use Rattle.promises.proofs.Firsts.{first-among}
use Rattle.promises.specs.Stops.{Push, full_for, item_wants, item_stops}
use Rattle.why.specs.declared.Grounds.{Grounds}
use Rattle.why.specs.declared.Grounds.TheVariants.{Refused}
use Rattle.why_promises.proofs.Told.{told_refusal}
use Rattle.why_promises.specs.Plain.{both_in_range}

module _ {A : Type 0} (address : Address A) where
  valid_is : (e : Event A) → valid_gossip address (record { event = e }) ≡ (both_in_range address) e
  unfolding valid_gossip parts_of
  valid_is Nothing = refl
  valid_is (Joined f a n) = refl
  valid_is (Recovered f a n) = refl
  valid_is (Suspected f a n) = refl
  valid_is (Deceased f a n) = refl

late_full : (p : Option (Push Addr)) → 6 ≤ number_of (full_for p)
late_full none = omega arith
late_full (some p) = elim p.heap as (λ k. 6 ≤ number_of (full_of k)) [ kind.Alive ↦ omega arith | kind.Deceased ↦ omega arith ]

-- the rules give 6 and later ones
late : {x : Refusal} (e : Event Addr) (node : Node) (draws : List ℕ) → FirstFails x (item_stops here e (handed node) draws) → 6 ≤ number_of x
late e node draws f = first-among (λ y. 6 ≤ number_of y) f (omega arith, (omega arith, (omega arith, (late_full (item_wants here e (handed node)).pushes, tt))))

-- the first of two tests before others, and the second
first-only : {b c : Bool} {x y : Refusal} {ts : List (Bool × Refusal)} → (y ≡ x → ⊥) → (FirstFails x ts → ⊥) → FirstFails x ((b, x) ∷ (c, y) ∷ ts) → b ≡ true
first-only apart never (fails p _) = p
first-only apart never (passes _ (fails _ q)) = absurd (apart q)
first-only apart never (passes _ (passes _ f)) = absurd (never f)

second-only : {b c : Bool} {x y : Refusal} {ts : List (Bool × Refusal)} → (x ≡ y → ⊥) → (FirstFails y ts → ⊥) → FirstFails y ((b, x) ∷ (c, y) ∷ ts) → (b ≡ false) × (c ≡ true)
second-only apart never (fails _ q) = absurd (apart q)
second-only apart never (passes p (fails q _)) = (p, q)
second-only apart never (passes _ (passes _ f)) = absurd (never f)

unlike : (x y : Refusal) → (number_of x ≡ number_of y → ⊥) → x ≡ y → ⊥
unlike x y h e = h (ap number_of e)

module _ (node : Node) (draws : List ℕ) (g : Gossip) (w : Grounds) (met : Explains node draws g w) where
  abbrev event : Event Addr
  event = to_event g.event

  early : (x : Refusal) → number_of x ≤ 5 → FirstFails x (item_stops here event (handed node) draws) → ⊥
  early x h f = let l : 6 ≤ number_of x = late event node draws f in absurd (omega (arith, h, l))

  pub told_2 : (w ≡ Refused Unsound) ↔ (sound here (stored_view node) ≡ false)
  told_2 =
      let told = told_refusal node draws g w met Unsound in
      ((λ e. not-true _ (first-only (unlike AddressRange Unsound (λ e. absurd (omega arith))) (early Unsound (omega arith)) (told.0 e))), (λ e. told.1 (fails (ap not e) refl)))

  pub told_5 : (w ≡ Refused AddressRange) ↔ ((sound here (stored_view node) ≡ true) × (both_in_range here event ≡ false))
  told_5 =
      let told = told_refusal node draws g w met AddressRange in (
        (λ e.
            let p = second-only (unlike Unsound AddressRange (λ e. absurd (omega arith))) (early AddressRange (omega arith)) (told.0 e) in
            (not-false _ p.0, sym (valid_is here event) ∙ not-true _ p.1)),
        (λ h. told.1 (passes (ap not h.0) (fails (ap not (valid_is here event ∙ h.1)) refl))),
      )
