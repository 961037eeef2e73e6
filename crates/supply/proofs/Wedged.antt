-- What the remedy is for: with a full alive heap from which nothing is collected, a step from SendingPingReq is refused 9 at every tick and with any draws, and leaves everything as it was.
-- Assumes nothing.
use Rattle.std.specs.Prelude.{◌≡◌, false, not, List, [], ◌∷◌, ℕ, ◌+◌, ◌-◌, ◌%◌, ◌≤◌, length}
use Rattle.std.proofs.Math.Path.{refl, ap}
use Rattle.std.proofs.Common.{◌∙◌, arith, le-leb}
use Rattle.std.proofs.Math.Bool.{Bool, true}
use Rattle.model.specs.declared.Kind.TheVariants as kind
use Rattle.model.specs.declared.State.TheVariants as state
use Rattle.model.specs.declared.Refusal.{Refusal}
use Rattle.model.specs.declared.Refusal.TheVariants.{Unsound, ShortRow, AddressRange, AliveFull}
use Rattle.model.specs.Bounds.{step_room, ticks}
use Rattle.model.specs.Answers.{Answer, refused, when}
use Rattle.model.specs.Words.{Address, Suspected, Gossip}
use Rattle.model.specs.Node.{Node, Stored, loaded, pushed, emit, change}
use Rattle.model.specs.Collect.{collects, cleared}
use Rattle.model.specs.Detector.{Stepped, due, is_over, suspect, send_ping_req}
use Rattle.model.specs.Sound.{sound}
use Rattle.model.specs.Calls.{StepOutcome, first_of, refuses, step_of_kept, when_due, valid_state, detect}
use Rattle.supply.specs.Wedged.{asking}

module _ {A : Type 0} (address : Address A) where
  pub emit-full : (g : Gossip A) (s : Node A) (ds : List ℕ) → s.settings.collect ≡ false → 128 ≤ length s.disseminator.alive → emit address kind.Alive g s ds ≡ refused AliveFull
  unfolding emit pushed cleared collects when
  emit-full g s ds c h = rw c (rw (le-leb 128 (length s.disseminator.alive) h) refl)

  pub request_full : (a : A) (n now : ℕ) (s : Node A) (ds : List ℕ) → s.settings.collect ≡ false → 128 ≤ length s.disseminator.alive → send_ping_req address a n now s ds ≡ refused AliveFull
  unfolding send_ping_req suspect change
  request_full a n now s ds c h = rw (emit-full (record { event = Suspected s.own a n }) (change address a state.Suspected n s) ds c h) refl

  all_passed : {B : Type 0} (u v : Bool) (refuse : Refusal → B) (go : B) → u ≡ true → v ≡ true
      → first_of ((not u, Unsound) ∷ (false, ShortRow) ∷ (not v, AddressRange) ∷ []) refuse go ≡ go
  all_passed u v refuse go p q = rw (p, q) refl

  pub wedged : (s : Stored A) (a : A) (n since now : ℕ) (ds : List ℕ) → sound address s ≡ true → address.valid a ≡ true → s.settings.collect ≡ false
      → 128 ≤ length (loaded s).disseminator.alive
      → detect address s ((asking address) a n since) now ds step_room ≡ record { outcome = refuses s AliveFull; wait = (asking address) a n since }
  unfolding detect valid_state due is_over loaded
  wedged s a n since now ds p v c h =
      let w = (asking address) a n since in
      let go : Bool → Answer (Stepped A) → StepOutcome A = λ u x. when_due u s w (step_of_kept address s w ds x) in
      all_passed (sound address s) (address.valid a) (λ r. record { outcome = refuses s r; wait = w }) (go (due s.settings w now) (send_ping_req address a n now (loaded s) ds)) p v
      ∙ ap (λ (u : Bool). go u (send_ping_req address a n now (loaded s) ds)) (le-leb 0 ((now + ticks - since) % ticks) (omega arith))
      ∙ ap (λ (x : Answer (Stepped A)). go true x) (request_full a n now (loaded s) ds c h)
