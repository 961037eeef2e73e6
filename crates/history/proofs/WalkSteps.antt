-- The ledger along a detector step, whatever its wait record.
-- Assumes nothing.
use Rattle.std.specs.Prelude.{◌≡◌, ℕ}
use Rattle.std.proofs.Math.Path.{refl}
use Rattle.std.proofs.Common.{ap, ◌∙◌}
use mathlib.Core.List.{List, [], ◌∷◌}
use Rattle.std.proofs.Math.Option.{none, some}
use Rattle.model.specs.declared.State.TheVariants as state
use Rattle.model.specs.Answers.{Answer}
use Rattle.laws.specs.After.{After, halts, gives, after-when, after_then}
use Rattle.model.specs.Words.{Address, Lawful, Gossip, Message, WaitState, SendingPing, WaitingForPingAck, SendingPingReq, WaitingForPingReqAck, Declaring}
use Rattle.model.specs.Members.{Members}
use Rattle.model.specs.Node.{Node, with_members, numbered, change, spread}
use Rattle.model.specs.Detector.{Stepped, pinged, send_ping, waited, ask_each, asked, pick_group, send_ping_req, declare, step as step_rule}
use Rattle.laws_list.specs.Whole.{Whole}
use Rattle.laws_list.specs.Picking.{Turned, pick-turned}
use Rattle.history.specs.Moments.{Other, stepped, trace_step}
use Rattle.history.specs.Ledger.{Tally}
use Rattle.history.specs.Did.{Did, Kept}
use Rattle.history.proofs.Did.{moved_did}
use Rattle.history.proofs.Rules.{put-silent, other_did, suspect_did}
use Rattle.history.specs.Walk.{Walked}
use Rattle.history.proofs.Walk.{one-step}

module _ {A : Type 0} (address : Address A) (a : A) (lawful : Lawful address) where
  -- what a step did to the address
  abbrev Steps : Node A → Stepped A → Type 0
  Steps s e = Did address a s Other (record { node = e.effect.node; said = e.effect.events; collected = e.effect.collected })

  pinged_did : (now : ℕ) (gs : List (Gossip A)) (s s₁ : Node A) (picks : List A) → Turned address.same address.blank s.own s.members s₁.members → s₁.own ≡ s.own
      → Steps s (pinged address now gs s₁ picks)
  unfolding pinged change
  pinged_did now gs s s₁ [] t m = other_did address lawful a s (record { node = s₁; said = []; collected = 0 }) t.whole t.table m refl
  pinged_did now gs s s₁ (b ∷ picks) t m = put-silent address lawful a b state.Pending (numbered address b s₁) s₁.members s _ t.whole t.table refl m refl

  ping_did : (now : ℕ) (s : Node A) (ds : List ℕ) → Whole address.same s.members → After (Steps s) (send_ping address now s ds)
  unfolding send_ping spread
  ping_did now s ds w =
      after_then (pick-turned address.same address.blank s.own none 1 s.members ds w)
      (λ p rest v. gives (pinged_did now _ s (with_members (spread address s).node p.members) p.picks v refl))

  waited_did : (b : A) (later : WaitState A) (now : ℕ) (s : Node A) (ds : List ℕ) → Whole address.same s.members → After (Steps s) (waited address b later now s ds)
  unfolding waited
  waited_did b later now s ds w = gives (other_did address lawful a s _ w refl refl refl)

  -- the group is asked: the list stands
  ask_same : (b : A) (picks : List A) (s : Node A) (sent : List (Message A)) → ((ask_each address b picks s sent).node.members ≡ s.members) × ((ask_each address b picks s sent).node.own ≡ s.own)
  unfolding spread
  ask_same b [] s sent = (refl, refl)
  ask_same b (x ∷ picks) s sent = ask_same b picks (spread address s).node _

  -- the suspicion, then the pick and the choosing for each of the group
  ask_did : (b : A) (n now : ℕ) (s : Node A) (ds : List ℕ) → Whole address.same s.members → After (Steps s) (send_ping_req address b n now s ds)
  unfolding send_ping_req pick_group asked
  ask_did b n now s ds w =
      after_then (suspect_did address lawful a b n s ds w)
      (λ o rest f. after_then (pick-turned address.same address.blank o.node.own (some b) o.node.settings.ping_req_group_size o.node.members rest f.whole)
      (λ p rest₂ v.
      let m = ask_same b p.picks (with_members o.node p.members) [] in
      gives (moved_did address a lawful s Other o _ f (rw m.0 v.whole) (ap (λ (x : Members A). x.table) m.0 ∙ v.table) m.1 refl)))

  -- a timer is started: the list stands
  declare_did : (b : A) (n now : ℕ) (s : Node A) (ds : List ℕ) → Whole address.same s.members → After (Steps s) (declare address b n now s ds)
  unfolding declare
  declare_did b n now s ds w = after-when (λ _. halts) (λ _. gives (other_did address lawful a s _ w refl refl refl))

  step_did : (st : WaitState A) (now : ℕ) (s : Node A) (ds : List ℕ) → Whole address.same s.members → After (Steps s) (step_rule address st now s ds)
  step_did SendingPing now s ds w = ping_did now s ds w
  step_did (WaitingForPingAck b n) now s ds w = waited_did b (SendingPingReq b n) now s ds w
  step_did (SendingPingReq b n) now s ds w = ask_did b n now s ds w
  step_did (WaitingForPingReqAck b n) now s ds w = waited_did b (Declaring b n) now s ds w
  step_did (Declaring b n) now s ds w = declare_did b n now s ds w

  walk-stepped : (own : A) (s : Node A) (t : Tally) {x : Answer (Stepped A)} → Kept address a own s t → After (Steps s) x → After (λ e. Walked address a own t (stepped s x) e.effect.node) x
  walk-stepped own s t k halts = halts
  walk-stepped own s t k (gives f) = gives (one-step address a own s Other _ t k f)

  pub walk_step : (own : A) (st : WaitState A) (now : ℕ) (s : Node A) (ds : List ℕ) (t : Tally) → Kept address a own s t
      → After (λ e. Walked address a own t (trace_step address st now s ds) e.effect.node) (step_rule address st now s ds)
  walk_step own st now s ds t k = walk-stepped own s t k (step_did st now s ds k.whole)
