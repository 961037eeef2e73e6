-- Who comes in at a rule, and at which number: with remembering on, an address that is in the row only above its number there.
-- Assumes nothing.
use Rattle.std.specs.Prelude.{◌≡◌, Bool, false, List, [], ℕ, ◌+◌, ◌<◌, leb}
use Rattle.std.proofs.Math.Path.{ap, sym}
use Rattle.std.proofs.Common.{◌∙◌, arith}
use Rattle.std.proofs.Math.Bool.{true}
use Rattle.std.proofs.Math.Option.{none, some}
use Rattle.model.specs.Bounds.{last_number}
use Rattle.model.specs.Rows.{pick}
use Rattle.laws.specs.Bools.{none-some}
use Rattle.laws.specs.After.{After}
use Rattle.model.specs.Words.{Address, Lawful, Event, parts_of}
use Rattle.model.specs.Choose.{or_else, death}
use Rattle.model.specs.Departed.{look_up, death_of}
use Rattle.model.specs.Node.{Node, death_plus_one, held_death}
use Rattle.model.specs.Handler as handler
use Rattle.laws_rules.specs.Judged.{Judged, skipped, joined_at_end, joined_low, joined_raises, joined-enters, recovered_unknown, recovered_low, recovered_recovers, own-at_end, own_refutes, suspected_unknown, suspected_equal, suspected_low, suspected_suspects, deceased_unknown, deceased_low, deceased_buries, judged, SenderJudged, listed_already, sender_at_end, sender_enters, sender_judged}
use Rattle.remembering.specs.Entering.{Admits, same, Above, admits}

-- D + 1 is above D
pub plus_above : (d k : ℕ) → death_plus_one (some d) ≡ some k → d < k
plus_above d k e =
    (elim (leb last_number d) as (λ u. pick u none (some (d + 1)) ≡ some k → d < k) [
      | true ↦ λ h. none-some h
      | false ↦ λ h. let z : d + 1 ≡ k = cc in omega arith
    ]) e

-- with remembering on D is the row's, where it has the address; with it off it is the heap's, whatever the row
module _ {A : Type 0} (address : Address A) (a : A) (s : Node A) where
  pub off_is_as_before : s.settings.remember ≡ false → held_death address a s ≡ death address a s.disseminator.deceased
  unfolding death_of or_else
  off_is_as_before e = ap (λ (u : Bool). or_else address (pick u (look_up address.same a s.departed) none) (death address a s.disseminator.deceased)) e

module _ {A : Type 0} (address : Address A) (lawful : Lawful address) where
  from-death : (a b : A) (s : Node A) (d least : ℕ) → (same address lawful) a b ≡ true → held_death address a s ≡ some d → death_plus_one (held_death address b s) ≡ some least → d < least
  from-death a b s d least e q h = plus_above d least (ap death_plus_one (sym (ap (λ (x : A). held_death address x s) (sym (lawful.test.same_eq a b e)) ∙ q)) ∙ h)

  judged-above : (e : Event A) (v : handler.Verdict A) (s : Node A) → Judged address s.own s.members.table (held_death address (parts_of address e).subject s) e v → (Above address lawful) v s
  unfolding parts_of
  judged-above _ _ s skipped a d n l q = absurd l
  judged-above _ _ s (joined_at_end e) a d n l q = absurd l
  judged-above _ _ s (joined_low least e h k) a d n l q = absurd l
  judged-above _ _ s (joined_raises least e h k) a d n l q = absurd l
  judged-above _ _ s (joined-enters {a = b} {n = m} least e h) a d n l q = omega (arith, l.1, from-death a b s d least l.0 q e)
  judged-above _ _ s (recovered_unknown h) a d n l q = absurd l
  judged-above _ _ s (recovered_low h k) a d n l q = absurd l
  judged-above _ _ s (recovered_recovers h k) a d n l q = absurd l
  judged-above _ _ s (own-at_end o e) a d n l q = absurd l
  judged-above _ _ s (own_refutes next o e) a d n l q = absurd l
  judged-above _ _ s (suspected_unknown o h) a d n l q = absurd l
  judged-above _ _ s (suspected_equal o h k e) a d n l q = absurd l
  judged-above _ _ s (suspected_low o h k) a d n l q = absurd l
  judged-above _ _ s (suspected_suspects o h k) a d n l q = absurd l
  judged-above _ _ s (deceased_unknown h) a d n l q = absurd l
  judged-above _ _ s (deceased_low h k) a d n l q = absurd l
  judged-above _ _ s (deceased_buries h k) a d n l q = absurd l

  sender_above : (b : A) (v : handler.Verdict A) (s : Node A) → SenderJudged address s.own s.members.table (held_death address b s) b v → (Above address lawful) v s
  sender_above b _ s (listed_already h) a d n l q = absurd l
  sender_above b _ s (sender_at_end h e) a d n l q = absurd l
  sender_above b _ s (sender_enters m h e) a d n l q = omega (arith, l.1, from-death a b s d m l.0 q e)

  pub item_admits : (e : Event A) (s : Node A) (ds : List ℕ) → After (λ o. Admits address s o.node) (handler.item address e s ds)
  unfolding handler.item
  item_admits e s ds = (admits address lawful) _ s ds (judged-above e _ s (judged address s.own s.members.table (held_death address (parts_of address e).subject s) e))

  pub sender_admits : (b : A) (s : Node A) (ds : List ℕ) → After (λ o. Admits address s o.node) (handler.admit address b s ds)
  unfolding handler.admit
  sender_admits b s ds = (admits address lawful) _ s ds (sender_above b _ s (sender_judged address s.own s.members.table (held_death address b s) b))
