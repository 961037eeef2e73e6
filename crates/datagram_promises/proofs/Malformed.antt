-- WHERE BYTES ARE MALFORMED. At a field that is not whole or not as the schema has it, which begins within the input; or, if every field is, at the input's length, for what the message lacks.
-- Assumes nothing.
use Rattle.std.proofs.Math.Path.{◌≡◌, refl, sym}
use Rattle.std.proofs.Common.{ap, ◌∙◌, subst, inl, inr, arith}
use Rattle.std.specs.Prelude.{◌↔◌, ◌⊎◌, List, ℕ, ◌<◌, length}
use Rattle.std.proofs.Math.Bool.{true, false}
use Rattle.std.proofs.Math.Dec.{eqb}
use borrow.Author.Tests.{eqb-true, eqb-false}
use Rattle.model.specs.Rows.{pick}
use Rattle.types.specs.declared.Action.{Action}
use Rattle.types.specs.declared.Action.TheVariants.{Ping, PingReq, Ack}
use Rattle.types.specs.declared.Optional.TheVariants as optional
use Rattle.fields.specs.Walk.{Read, stopped, read, walk}
use Rattle.address.specs.Here.{Addr}
use Rattle.iptext.specs.declared.Text.{Text}
use Rattle.iptext.specs.declared.Text.TheVariants.{Empty, Malformed, Given}
use Rattle.incoming.specs.declared.Made.TheVariants as made
use Rattle.incoming.specs.declared.Decoded.{Decoded}
use Rattle.incoming.specs.declared.Decoded.TheVariants as decoded
use Rattle.incoming.specs.Datagram.{Message, unsent, message_step, action_of, judge_made, judge_from, judge_of, finish, decode}
use Rattle.incoming.specs.Places.{stops_within}
use Rattle.datagram_promises.specs.Malformed.{Lacks, no_action, no_sender, stray_sender, no_suspect, stray_other, spoiled}

-- the judgement is one or the other
data Judged (m : Message) (n : ℕ) : Decoded → Type 0 where
  lacks : Lacks m → Judged m n (decoded.Malformed n)
  whole : (a : Action) → (Lacks m → ⊥) → Judged m n (decoded.Whole a)

unlike : {B : Type 0} → true ≡ false → B
unlike e = let z : ◌≡◌ {A = ℕ} 0 1 = cc in absurd (omega arith)

module _ (m : Message) (n : ℕ) where
  module _ (some : m.kind ≡ 0 → ⊥) (a : Addr) (from : m.acting.from ≡ Given a) where
    -- nothing is lacking
    all_there : m.acting.bad ≡ false → (m.acting.other ≡ Malformed → ⊥) → (m.kind ≡ 2 → m.acting.other ≡ Empty → ⊥) → Lacks m → ⊥
    all_there b o s (no_action e) = some e
    all_there b o s (no_sender e) = let q : Given a ≡ Empty = sym from ∙ e in let z : ◌≡◌ {A = ℕ} 0 1 = cc in absurd (omega arith)
    all_there b o s (stray_sender e) = let q : Given a ≡ Malformed = sym from ∙ e in let z : ◌≡◌ {A = ℕ} 0 1 = cc in absurd (omega arith)
    all_there b o s (no_suspect e q) = s e q
    all_there b o s (stray_other e) = o e
    all_there b o s (spoiled e) = unlike (sym e ∙ b)

    made-judged : (x : Action) → (m.acting.other ≡ Malformed → ⊥) → (m.kind ≡ 2 → m.acting.other ≡ Empty → ⊥) → Judged m n (judge_made (made.Whole x) m.acting.bad n)
    unfolding judge_made
    made-judged x o s =
        (elim m.acting.bad as (λ u. m.acting.bad ≡ u → Judged m n (pick u (decoded.Malformed n) (decoded.Whole x))) [
          | true ↦ λ e. lacks (spoiled e)
          | false ↦ λ e. whole x (all_there e o s)
        ]) refl

    other_judged : (other : Text) → m.acting.other ≡ other → Judged m n (judge_made (action_of m.kind a other) m.acting.bad n)
    unfolding action_of judge_made
    other_judged Malformed e = lacks (stray_other e)
    other_judged Empty e =
        let clean : m.acting.other ≡ Malformed → ⊥ = λ q. let r : Empty ≡ Malformed = sym e ∙ q in let z : ◌≡◌ {A = ℕ} 0 1 = cc in absurd (omega arith) in
        (elim (eqb m.kind 1) as (λ u. eqb m.kind 1 ≡ u → Judged m n (judge_made (pick u (made.Whole (Ping a optional.Absent)) (pick (eqb m.kind 2) made.Missing (made.Whole (Ack a optional.Absent)))) m.acting.bad n)) [
          | true ↦ λ k. made-judged (Ping a optional.Absent) clean (λ q r. let x : m.kind ≡ 1 = eqb-true m.kind 1 k in absurd (omega arith))
          | false ↦ λ k.
              (elim (eqb m.kind 2) as (λ u. eqb m.kind 2 ≡ u → Judged m n (judge_made (pick u made.Missing (made.Whole (Ack a optional.Absent))) m.acting.bad n)) [
                | true ↦ λ k. lacks (no_suspect (eqb-true m.kind 2 k) e)
                | false ↦ λ k. made-judged (Ack a optional.Absent) clean (λ q r. eqb-false m.kind 2 k q)
              ]) refl
        ]) refl
    other_judged (Given b) e =
        let clean : m.acting.other ≡ Malformed → ⊥ = λ q. let r : Given b ≡ Malformed = sym e ∙ q in let z : ◌≡◌ {A = ℕ} 0 1 = cc in absurd (omega arith) in
        let there : m.kind ≡ 2 → m.acting.other ≡ Empty → ⊥ = λ k q. let r : Given b ≡ Empty = sym e ∙ q in let z : ◌≡◌ {A = ℕ} 0 1 = cc in absurd (omega arith) in
        elim (eqb m.kind 1) as (λ u. Judged m n (judge_made (pick u (made.Whole (Ping a (optional.Given b))) (pick (eqb m.kind 2) (made.Whole (PingReq a b)) (made.Whole (Ack a (optional.Given b))))) m.acting.bad n)) [
          | true ↦ made-judged (Ping a (optional.Given b)) clean there
          | false ↦ elim (eqb m.kind 2) as (λ u. Judged m n (judge_made (pick u (made.Whole (PingReq a b)) (made.Whole (Ack a (optional.Given b)))) m.acting.bad n)) [ true ↦ made-judged (PingReq a b) clean there | false ↦ made-judged (Ack a (optional.Given b)) clean there ]
        ]

  from-judged : (m.kind ≡ 0 → ⊥) → (from : Text) → m.acting.from ≡ from → Judged m n (judge_from m.kind from m.acting.other m.acting.bad n)
  unfolding judge_from
  from-judged some Empty e = lacks (no_sender e)
  from-judged some Malformed e = lacks (stray_sender e)
  from-judged some (Given a) e = other_judged some a e m.acting.other refl

  judged : Judged m n (judge_of m.kind m.acting.from m.acting.other m.acting.bad n)
  unfolding judge_of
  judged =
      (elim (eqb m.kind 0) as (λ u. eqb m.kind 0 ≡ u → Judged m n (pick u (decoded.Malformed n) (judge_from m.kind m.acting.from m.acting.other m.acting.bad n))) [
        | true ↦ λ e. lacks (no_action (eqb-true m.kind 0 e))
        | false ↦ λ e. from-judged (eqb-false m.kind 0 e) m.acting.from refl
      ]) refl

-- what a judgement says of a place
judged-at : (m : Message) (n : ℕ) (d : Decoded) → Judged m n d → (p : ℕ) → (d ≡ decoded.Malformed p) ↔ ((p ≡ n) × Lacks m)
judged-at m n d (lacks l) p = ((λ e. let q : n ≡ p = cc in (sym q, l)), (λ h. ap decoded.Malformed (sym h.0)))
judged-at m n d (whole a f) p = ((λ e. let z : ◌≡◌ {A = ℕ} 0 1 = cc in absurd (omega arith)), (λ h. absurd (f h.1)))

-- THE PLACE OF 11: that of the field where reading stopped, or the input's length
pub malformed_at : (bytes : List ℕ) (p : ℕ)
    → ((decode bytes).answer ≡ decoded.Malformed p) ↔ ((walk message_step 0 bytes unsent ≡ stopped p) ⊎ ((m : Message) × (walk message_step 0 bytes unsent ≡ read m) × (p ≡ length bytes) × Lacks m))
unfolding decode finish
malformed_at bytes p = by-walk (walk message_step 0 bytes unsent)
  where
    by-walk : (r : Read Message) → ((finish (length bytes) r).answer ≡ decoded.Malformed p) ↔ ((r ≡ stopped p) ⊎ ((m : Message) × (r ≡ read m) × (p ≡ length bytes) × Lacks m))
    by-walk (stopped q) = ((λ e. let z : q ≡ p = cc in inl (ap stopped z)), stays)
      where
        stays : (◌≡◌ {A = Read Message} (stopped q) (stopped p)) ⊎ ((m : Message) × (stopped q ≡ read m) × (p ≡ length bytes) × Lacks m) → decoded.Malformed q ≡ decoded.Malformed p
        stays (inl e) = let z : q ≡ p = cc in ap decoded.Malformed z
        stays (inr x) = let e = x.1 in let z : ◌≡◌ {A = ℕ} 0 1 = cc in absurd (omega arith)
    by-walk (read m) = ((λ e. let x = at.0 e in inr (m, refl, x.0, x.1)), goes)
      where
        at : (judge_of m.kind m.acting.from m.acting.other m.acting.bad (length bytes) ≡ decoded.Malformed p) ↔ ((p ≡ length bytes) × Lacks m)
        at = judged-at m (length bytes) _ (judged m (length bytes)) p

        goes : (◌≡◌ {A = Read Message} (read m) (stopped p)) ⊎ ((m' : Message) × (read m ≡ read m') × (p ≡ length bytes) × Lacks m') → judge_of m.kind m.acting.from m.acting.other m.acting.bad (length bytes) ≡ decoded.Malformed p
        goes (inl e) = let z : ◌≡◌ {A = ℕ} 0 1 = cc in absurd (omega arith)
        goes (inr x) = let e = x.1 in let q : x.0 ≡ m = cc in at.1 (x.2, subst Lacks q x.3)

-- where reading stops lies within the input: so the input's length is told only for what is lacking
pub stops_before_the_end : (bytes : List ℕ) (p : ℕ) → walk message_step 0 bytes unsent ≡ stopped p → p < length bytes
stops_before_the_end = stops_within
