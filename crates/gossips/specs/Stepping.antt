-- Each way out of the step of a gossip, and the answers of the functions taken back to the rule's.
-- Assumes nothing.
use Rattle.std.specs.Prelude.{◌≡◌, List, ℕ, ◌+◌, ◌≤◌, ◌<◌}
use Rattle.std.proofs.Math.Path.{ap, sym}
use Rattle.std.proofs.Common.{◌∙◌, arith}
use borrow.Author.Tests.{eq-eqb, ne_eqb, lt-ltb, le-ltb}
use Rattle.address.specs.Here.{Addr}
use Rattle.types.specs.declared.Event.{Event}
use Rattle.types.specs.declared.Event.TheVariants.{Nothing}
use Rattle.fields.specs.declared.Field.{Field}
use Rattle.fields.specs.Field.{content}
use Rattle.fields.specs.Walk.{Read, stopped, read, and_then, walk}
use Rattle.iptext.specs.declared.Text.{Text}
use Rattle.iptext.specs.declared.Text.TheVariants.{Empty, Malformed, Given}
use Rattle.events.specs.declared.Said.{Said}
use Rattle.events.specs.Event.{event_step}
use Rattle.gossips.specs.declared.Held.{Held}
use Rattle.gossips.specs.declared.GossipRead.{GossipRead}
use Rattle.gossips.specs.declared.GossipRead.TheVariants as given
use Rattle.gossips.specs.declared.Settled.TheVariants.{Missing, Whole}
use Rattle.gossips.specs.Gossip.{started, gossip_step, as_read, made, whole_of, settled}

module _ (h : Held) (place : ℕ) (bytes : List ℕ) (f : Field) where
  pub other_kind : 4 < f.number → read h ≡ gossip_step h place bytes f
  unfolding gossip_step
  other_kind l = sym (simp (lt-ltb 4 f.number l))

  module _ (l : f.number ≤ 4) where
    pub wrong_wire : (f.wire ≡ 2 → ⊥) → stopped place ≡ gossip_step h place bytes f
    unfolding gossip_step
    wrong_wire w = sym (simp (le-ltb 4 f.number l, ne_eqb f.wire 2 w))

    module _ (w : f.wire ≡ 2) (s : Said) (e : s ≡ started h f.number) where
      inner : gossip_step h place bytes f ≡ and_then (walk event_step (place + f.head) (content bytes f) s) (λ t. read (record { kind = f.number; said = t }))
      unfolding gossip_step
      inner =
          simp (le-ltb 4 f.number l, eq-eqb f.wire 2 w)
          (ap (λ (t : Said). and_then (walk event_step (place + f.head) (content bytes f) t) (λ t. read (record { kind = f.number; said = t }))) (sym e))

      pub inner_stop : (p : ℕ) → stopped p ≡ walk event_step (place + f.head) (content bytes f) s → stopped p ≡ gossip_step h place bytes f
      unfolding and_then
      inner_stop p q = sym (inner ∙ ap (λ (r : Read Said). and_then r (λ t. read (record { kind = f.number; said = t }))) (sym q))

      pub inner_read : (t : Said) → read t ≡ walk event_step (place + f.head) (content bytes f) s → read (record { kind = f.number; said = t }) ≡ gossip_step h place bytes f
      unfolding and_then
      inner_read t q = sym (inner ∙ ap (λ (r : Read Said). and_then r (λ t. read (record { kind = f.number; said = t }))) (sym q))

-- the two answers of a reading
pub was-stopped : (r : Read Held) (m : GossipRead) (p : ℕ) → m ≡ as_read r → m ≡ given.Stopped p → stopped p ≡ r
was-stopped (stopped q) m p e h = let z : p ≡ q = cc in ap stopped z
was-stopped (read s) m p e h = let z : ◌≡◌ {A = ℕ} 0 1 = cc in absurd (omega arith)

pub was_read : (r : Read Held) (m : GossipRead) (s : Held) → m ≡ as_read r → m ≡ given.Read s → read s ≡ r
was_read (stopped q) m s e h = let z : ◌≡◌ {A = ℕ} 0 1 = cc in absurd (omega arith)
was_read (read t) m s e h = let z : s ≡ t = cc in ap read z

-- settling
module _ (h : Held) where
  pub settled-none : h.kind ≡ 0 → Whole (record { event = Nothing }) ≡ settled h
  unfolding settled
  settled-none e = sym (simp (eq-eqb h.kind 0 e))

  module _ (k : h.kind ≡ 0 → ⊥) where
    by_texts : settled h ≡ whole_of h.kind h.said.number h.said.from h.said.subject
    unfolding settled
    by_texts = simp (ne_eqb h.kind 0 k)

    module _ (x : Text) (e : h.said.from ≡ x) where
      by-from : settled h ≡ whole_of h.kind h.said.number x h.said.subject
      by-from = by_texts ∙ ap (λ (t : Text). whole_of h.kind h.said.number t h.said.subject) e

      pub from_empty : x ≡ Empty → Missing ≡ settled h
      unfolding whole_of
      from_empty q = sym (by-from ∙ ap (λ (t : Text). whole_of h.kind h.said.number t h.said.subject) q)

      pub from_malformed : x ≡ Malformed → Missing ≡ settled h
      unfolding whole_of
      from_malformed q = sym (by-from ∙ ap (λ (t : Text). whole_of h.kind h.said.number t h.said.subject) q)

      module _ (a : Addr) (q : x ≡ Given a) (y : Text) (d : h.said.subject ≡ y) where
        by_both : settled h ≡ whole_of h.kind h.said.number (Given a) y
        by_both =
            by-from
            ∙ ap (λ (t : Text). whole_of h.kind h.said.number t h.said.subject) q
            ∙ ap (λ (t : Text). whole_of h.kind h.said.number (Given a) t) d

        pub subject_empty : y ≡ Empty → Missing ≡ settled h
        unfolding whole_of
        subject_empty r = sym (by_both ∙ ap (λ (t : Text). whole_of h.kind h.said.number (Given a) t) r)

        pub subject_malformed : y ≡ Malformed → Missing ≡ settled h
        unfolding whole_of
        subject_malformed r = sym (by_both ∙ ap (λ (t : Text). whole_of h.kind h.said.number (Given a) t) r)

        pub all_there : (b : Addr) (v : Event) → y ≡ Given b → v ≡ made h.kind a b h.said.number → Whole (record { event = v }) ≡ settled h
        unfolding whole_of
        all_there b v r w =
            ap (λ (x : Event). Whole (record { event = x })) w
            ∙ sym (by_both ∙ ap (λ (t : Text). whole_of h.kind h.said.number (Given a) t) r)
