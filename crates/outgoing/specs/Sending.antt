-- Each way out of the writer's tests.
-- Assumes nothing.
use Rattle.std.specs.Prelude.{◌≡◌, Bool, not, ◌&&◌, List, [], ◌∷◌, map, ℕ, ◌≤◌, ◌<◌, ltb, length, take}
use Rattle.std.proofs.Math.Path.{refl, ap, sym}
use Rattle.std.proofs.Common.{◌∙◌, subst, arith, length-take, le-ltb}
use Rattle.std.proofs.Math.Bool.{true, false}
use Rattle.model.specs.declared.Refusal.TheVariants.{ManyRecords, AddressRange, NoRoom}
use Rattle.model.specs.Bounds.{message_records}
use Rattle.model.specs.Rows.{every}
use Rattle.model.specs.Sound.{valid_gossip}
use Rattle.model.specs.Calls.{first_of, valid_action}
use Rattle.address.specs.Here.{here}
use Rattle.types.specs.declared.Action.{Action}
use Rattle.types.specs.declared.Gossip.{Gossip}
use Rattle.types.specs.Views.{to_gossip, to_action}
use Rattle.incoming.specs.Encode.{encode}
use Rattle.outgoing.specs.declared.Writing.{Writing}
use Rattle.outgoing.specs.declared.Writing.TheVariants.{Whole, Refused}
use Rattle.outgoing.specs.Outgoing.{written_of, writing_of, row_after, Sends}

module _ (a : Action) (row : List Gossip) (n : ℕ) (out : List ℕ) where
  pub sends-many : message_records < n → Sends a row n out (Refused ManyRecords) out
  sends-many h = record { few = λ k. absurd (omega (arith, h, k)); many = λ k. (refl, refl) }

  abbrev gs : List Gossip
  gs = take n row

  module _ (h : n ≤ message_records) where
    few_enough : ltb message_records (length gs) ≡ false
    few_enough = le-ltb message_records (length gs) (omega (arith, h, length-take n row))

    -- the first two tests, as they came out
    tested : (ranged valid : Bool) → valid_action here (to_action a) ≡ ranged → every (valid_gossip here) (map to_gossip gs) ≡ valid
        → writing_of a gs out ≡ first_of ((false, ManyRecords) ∷ (not (ranged && valid), AddressRange) ∷ (ltb (length out) (length (encode a gs)), NoRoom) ∷ []) Refused (Whole (length (encode a gs)))
    unfolding writing_of
    tested ranged valid e g = λ i. first_of ((few_enough i, ManyRecords) ∷ (not (e i && g i), AddressRange) ∷ (ltb (length out) (length (encode a gs)), NoRoom) ∷ []) Refused (Whole (length (encode a gs)))

    -- the answer is known, and so is the row
    answered : (r : Writing) (out' : List ℕ) → r ≡ writing_of a gs out → out' ≡ row_after r (encode a gs) out → Sends a row n out r out'
    answered r out' q k = record { few = λ _. (q, k ∙ ap (λ (x : Writing). row_after x (encode a gs) out) q); many = λ k. absurd (omega (arith, h, k)) }

    pub sends_stray_action : valid_action here (to_action a) ≡ false → Sends a row n out (Refused AddressRange) out
    unfolding row_after
    sends_stray_action e = answered (Refused AddressRange) out (sym (tested false (every (valid_gossip here) (map to_gossip gs)) e refl)) refl

    module _ (e : valid_action here (to_action a) ≡ true) where
      pub sends_stray_record : every (valid_gossip here) (map to_gossip gs) ≡ false → Sends a row n out (Refused AddressRange) out
      unfolding row_after
      sends_stray_record g = answered (Refused AddressRange) out (sym (tested true false e g)) refl

      pub sends-written : every (valid_gossip here) (map to_gossip gs) ≡ true → (r : Writing) (out' : List ℕ)
          → (r ≡ written_of (encode a gs) out) × (out' ≡ row_after (written_of (encode a gs) out) (encode a gs) out) → Sends a row n out r out'
      unfolding written_of
      sends-written g r out' w = answered r out' (w.0 ∙ sym (tested true true e g)) (w.1 ∙ ap (λ (x : Writing). row_after x (encode a gs) out) (sym w.0))

-- without records no row matters
pub sends_bare : (a : Action) (row : List Gossip) (n : ℕ) (out : List ℕ) (r : Writing) (out' : List ℕ) → n ≡ 0 → Sends a [] 0 out r out' → Sends a row n out r out'
sends_bare a row n out r out' z s =
    subst (λ (m : ℕ). Sends a row m out r out') (sym z) (record { few = s.few; many = s.many })
