-- D in the ticket's own words, and what it does: the number at which an address stands after a Joined about it, listed or not, and after a Ping of it. Exactly, on any node, with the setting on or off.
-- Assumes nothing.
use Rattle.std.specs.Prelude.{◌≡◌, Bool, List, [], leb}
use Rattle.std.proofs.Math.Path.{refl, ap}
use Rattle.std.proofs.Common.{sym, ◌∙◌, arith}
use Rattle.std.proofs.Math.Bool.{true, false}
use Rattle.std.proofs.Math.Option.{Option, none, some}
use Prim.Native.Nat.{ℕ, ◌+◌, max}
use Rattle.model.specs.declared.State.TheVariants.{Alive}
use Rattle.model.specs.Bounds.{last_number}
use Rattle.model.specs.Rows.{pick}
use Rattle.model.specs.Answers.{Answer, done, refused}
use Rattle.laws.specs.Bools.{none-some}
use Rattle.laws.specs.After.{After, halts, gives, after_map, after-when, after_then}
use Rattle.model.specs.Words.{Address, Lawful, Event, Joined, parts_of}
use Rattle.model.specs.Choose.{or_else, death}
use Rattle.model.specs.Members.{Members, held, merged, added, update}
use Rattle.model.specs.Departed.{look_up, death_of}
use Rattle.model.specs.Node.{Node, quiet, emit, pushed, death_plus_one, held_death, lists, numbered}
use Rattle.model.specs.Handler as handler
use Rattle.laws_list.specs.Held.{held_new, held-put}
use Rattle.laws_rules.specs.Judged.{Judged, skipped, joined_at_end, joined_low, joined_raises, joined-enters, recovered_unknown, recovered_low, recovered_recovers, own-at_end, own_refutes, suspected_unknown, suspected_equal, suspected_low, suspected_suspects, deceased_unknown, deceased_low, deceased_buries, judged, SenderJudged, listed_already, sender_at_end, sender_enters, sender_judged}
use Rattle.history.proofs.Rules.{add_gives}
use Rattle.remembering.specs.Standing.{else, next, dead, JoinedTo}

module _ {A : Type 0} (address : Address A) where
  pub dead_is : (a : A) (s : Node A) → held_death address a s ≡ (dead address) a s
  unfolding death_of or_else
  dead_is a s = by s.settings.remember (look_up address.same a s.departed) (death address a s.disseminator.deceased)
    where
      by : (u : Bool) (x y : Option ℕ) → or_else address (pick u x none) y ≡ pick u (else x y) y
      by true none y = refl
      by true (some n) y = refl
      by false x y = refl

  next_is : (x : Option ℕ) (least : ℕ) → death_plus_one x ≡ some least → next x ≡ least
  next_is none least e = cc
  next_is (some d) least e =
      (elim (leb last_number d) as (λ u. pick u none (some (d + 1)) ≡ some least → d + 1 ≡ least) [
        | true ↦ λ h. none-some h
        | false ↦ λ h. cc
      ]) e

  module _ (lawful : Lawful address) where
    -- the list stands while an event is emitted
    tell_list : (n : handler.News A) (s : Node A) (ds : List ℕ) → After (λ o. o.node.members ≡ s.members) (handler.tell address n s ds)
    unfolding quiet emit pushed
    tell_list handler.Silent s ds = gives refl
    tell_list (handler.Emits k e) s ds = after_then {P = λ _. Unit {0}} (after-when (λ _. halts) (λ _. gives tt)) (λ d rest _. gives refl)

    -- what a verdict makes of the list is so in the node that it leaves
    on_list : (v : handler.Verdict A) (s : Node A) (ds : List ℕ) (P : Members A → Type 0) → After P (handler.list_after address v s.members ds) → After (λ o. P o.node.members) (handler.act address v s ds)
    unfolding handler.act
    on_list v s ds P p = after_then p (λ m rest q. after_map (λ o e. rw e q) (tell_list (handler.news_of address v s.own) _ rest))

    abbrev At : A → ℕ → Members A → Type 0
    At a n m = held address.same a m.table ≡ n

    still : (v : handler.Verdict A) (a : A) (n : ℕ) (s : Node A) (ds : List ℕ) → handler.list_after address v s.members ds ≡ done s.members ds → numbered address a s ≡ n → After (λ o. numbered address a o.node ≡ n) (handler.act address v s ds)
    still v a n s ds e q = on_list v s ds (At a n) (rw e (gives q))

    comes_in : (a : A) (n k : ℕ) (s : Node A) (ds : List ℕ) → lists address a s ≡ false → n ≡ k → After (λ o. numbered address a o.node ≡ k) (handler.act address (handler.Enter a n) s ds)
    unfolding handler.list_after added
    comes_in a n k s ds l q =
        on_list (handler.Enter a n) s ds (At a k)
        (after_map (λ r p. rw p.1 (held_new address.same a s.members.table (record { addr = a; state = Alive; number = n }) l (lawful.test.same_refl a) ∙ q)) (add_gives address lawful a a n s.members ds))

    rises : (a : A) (n k : ℕ) (s : Node A) (ds : List ℕ) → lists address a s ≡ true → max (numbered address a s) n ≡ k → After (λ o. numbered address a o.node ≡ k) (handler.act address (handler.Raise a n) s ds)
    unfolding handler.list_after update
    rises a n k s ds l q = on_list (handler.Raise a n) s ds (At a k) (gives (held-put address.same lawful.test a (merged address.same _ s.members.table) s.members.table l (lawful.test.same_refl a) ∙ q))

    anything : {B : Type 0} (x : Answer B) → After (λ _. Unit {0}) x
    anything (refused r) = halts
    anything (done b ds) = gives tt

    least_is : (a : A) (s : Node A) (least : ℕ) → death_plus_one (held_death address a s) ≡ some least → next ((dead address) a s) ≡ least
    least_is a s least e = ap next (sym (dead_is a s)) ∙ next_is (held_death address a s) least e

    judged_to : (e : Event A) (v : handler.Verdict A) (s : Node A) (ds : List ℕ) → Judged address s.own s.members.table (held_death address (parts_of address e).subject s) e v → After (λ o. (JoinedTo address) e s o.node) (handler.act address v s ds)
    unfolding parts_of handler.list_after
    judged_to _ _ s ds skipped = anything _
    judged_to _ _ s ds (joined_at_end e) = after_map (λ o x. absurd x) (on_list handler.AtEnd s ds (λ _. ⊥) halts)
    judged_to _ _ s ds (joined_low {a = a} {n = n} least e l h) =
        still handler.Low a _ s ds refl (let k : numbered address a s ≡ max (numbered address a s) (max (next ((dead address) a s)) n) = omega (arith, h, least_is a s least e) in k ∙ ap (λ (u : Bool). max (pick u (numbered address a s) 0) (max (next ((dead address) a s)) n)) (sym l))
    judged_to _ _ s ds (joined_raises {a = a} {n = n} least e l h) =
        rises a (max least n) _ s ds l (ap (λ (k : ℕ). max (numbered address a s) (max k n)) (sym (least_is a s least e)) ∙ ap (λ (u : Bool). max (pick u (numbered address a s) 0) (max (next ((dead address) a s)) n)) (sym l))
    judged_to _ _ s ds (joined-enters {a = a} {n = n} least e l) =
        comes_in a (max least n) _ s ds l (let k : max least n ≡ max 0 (max (next ((dead address) a s)) n) = omega (arith, least_is a s least e) in k ∙ ap (λ (u : Bool). max (pick u (numbered address a s) 0) (max (next ((dead address) a s)) n)) (sym l))
    judged_to _ _ s ds (recovered_unknown h) = anything _
    judged_to _ _ s ds (recovered_low h k) = anything _
    judged_to _ _ s ds (recovered_recovers h k) = anything _
    judged_to _ _ s ds (own-at_end o e) = anything _
    judged_to _ _ s ds (own_refutes n o e) = anything _
    judged_to _ _ s ds (suspected_unknown o h) = anything _
    judged_to _ _ s ds (suspected_equal o h k e) = anything _
    judged_to _ _ s ds (suspected_low o h k) = anything _
    judged_to _ _ s ds (suspected_suspects o h k) = anything _
    judged_to _ _ s ds (deceased_unknown h) = anything _
    judged_to _ _ s ds (deceased_low h k) = anything _
    judged_to _ _ s ds (deceased_buries h k) = anything _

    pub item_takes : (e : Event A) (s : Node A) (ds : List ℕ) → After (λ o. (JoinedTo address) e s o.node) (handler.item address e s ds)
    unfolding handler.item
    item_takes e s ds = judged_to e _ s ds (judged address s.own s.members.table (held_death address (parts_of address e).subject s) e)

    -- "Joined: number = max(D + 1 or 0, joined)", with this D, of a listed address too
    pub joined-stands : (f a : A) (n : ℕ) (s : Node A) (ds : List ℕ)
        → After (λ o. numbered address a o.node ≡ max (pick (lists address a s) (numbered address a s) 0) (max (next ((dead address) a s)) n)) (handler.item address (Joined f a n) s ds)
    unfolding handler.item
    joined-stands f a n s ds = judged_to (Joined f a n) _ s ds (judged address s.own s.members.table (held_death address (parts_of address (Joined f a n)).subject s) (Joined f a n))

    sender_to : (a : A) (v : handler.Verdict A) (s : Node A) (ds : List ℕ) → SenderJudged address s.own s.members.table (held_death address a s) a v
        → After (λ o. numbered address a o.node ≡ pick (lists address a s) (numbered address a s) (next ((dead address) a s))) (handler.act address v s ds)
    unfolding handler.list_after
    sender_to a _ s ds (listed_already l) = still handler.Skip a _ s ds refl (ap (λ (u : Bool). pick u (numbered address a s) (next ((dead address) a s))) (sym l))
    sender_to a _ s ds (sender_at_end l e) = after_map (λ o x. absurd x) (on_list handler.AtEnd s ds (λ _. ⊥) halts)
    sender_to a _ s ds (sender_enters n l e) = comes_in a n _ s ds l (sym (least_is a s n e) ∙ ap (λ (u : Bool). pick u (numbered address a s) (next ((dead address) a s))) (sym l))

    -- "an unlisted sender is added with D + 1 or 0", with this D
    pub sender_stands : (a : A) (s : Node A) (ds : List ℕ) → After (λ o. numbered address a o.node ≡ pick (lists address a s) (numbered address a s) (next ((dead address) a s))) (handler.admit address a s ds)
    unfolding handler.admit
    sender_stands a s ds = sender_to a _ s ds (sender_judged address s.own s.members.table (held_death address a s) a)
