-- Who comes in at a rule, and at which number: with remembering on, an address that is in the row only above its number there.
-- Assumes nothing.
use Rattle.std.specs.Prelude.{◌≡◌, Bool, false, List, [], ◌∷◌, ◌++◌, ℕ, ◌+◌, ◌<◌}
use Rattle.std.proofs.Math.Path.{refl, ap, sym}
use Rattle.std.proofs.Common.{◌∙◌, arith}
use Rattle.std.proofs.Math.Bool.{true}
use Rattle.std.proofs.Math.Option.{none, some}
use Rattle.model.specs.declared.State.TheVariants.{Alive}
use Rattle.model.specs.Rows.{one, pick, has}
use Rattle.laws.specs.After.{After, halts, gives, after_map, after-when, after_then}
use Rattle.model.specs.Words.{Address, Lawful, Member, Departed}
use Rattle.model.specs.Choose.{or_else, death}
use Rattle.model.specs.Members.{Members, addrs, listed, held, strike, merged, added, update, remove}
use Rattle.model.specs.Departed.{look_up, death_of}
use Rattle.model.specs.Node.{Node, quiet, pushed, emit, held_death, lists, numbered}
use Rattle.model.specs.Handler as handler
use Rattle.laws_list.specs.Whole.{addrs-append}
use Rattle.laws_list.specs.Held.{has-append, has-put, held_new}
use Rattle.history.specs.Moments.{Deed, Told, Sender, Added, Ended, Other, Moment}
use Rattle.history.proofs.Rules.{add_gives}
use Rattle.remembering.specs.Removals.{removal, row_by}
use Rattle.remembering.specs.Standing.{Takes}

clash : {B : Type 0} (u : Bool) → u ≡ false → u ≡ true → B
clash u p q = absurd (omega (arith, ap one p, ap one q))

-- with remembering on D is the row's, where it has the address; with it off it is the heap's, whatever the row
module _ {A : Type 0} (address : Address A) (a : A) (s : Node A) where
  pub on_is_the_row's : (d : ℕ) → s.settings.remember ≡ true → look_up address.same a s.departed ≡ some d → held_death address a s ≡ some d
  unfolding death_of or_else
  on_is_the_row's d e q = λ i. or_else address (pick (e i) (q i) none) (death address a s.disseminator.deceased)

-- what a rule was asked by others: a gossip record, or a Ping's sender. The host's own add takes no D
abbrev pub asked : {A : Type 0} → Deed A → Bool
asked (Told e) = true
asked (Sender b) = true
asked (Added b n) = false
asked (Ended b n) = false
asked Other = false

module _ {A : Type 0} (address : Address A) where
  -- "an address that is in the row is admitted only above": every address that is listed after and was not before
  abbrev pub Admits : Node A → Node A → Type 0
  Admits s s' =
      (a : A) (d : ℕ) → s.settings.remember ≡ true → look_up address.same a s.departed ≡ some d → lists address a s ≡ false → lists address a s' ≡ true → d < numbered address a s'

  -- a moment, with the row before it
  pub record AtRow (r : List (Departed A)) (m : Moment A) : Type 0 where
    pub row : m.before.departed ≡ r
    pub admits : asked m.deed ≡ true → Admits m.before m.after
    pub takes : Takes address m.deed m.before m.after

  -- moments, each with the row by the removals before it
  abbrev pub Along : List (Moment A) → List (Departed A) → Type 0
  Along [] r = Unit {0}
  Along (m ∷ ms) r = AtRow r m × Along ms (row_by address.same (removal address m.deed m.before) r)

module _ {A : Type 0} (address : Address A) (lawful : Lawful address) where
  abbrev pub same : A → A → Bool
  same = address.same

  -- a verdict lets an address in, at a number
  abbrev LetsIn : A → handler.Verdict A → ℕ → Type 0
  LetsIn a handler.Skip n = ⊥
  LetsIn a handler.Unknown n = ⊥
  LetsIn a handler.Equal n = ⊥
  LetsIn a handler.Low n = ⊥
  LetsIn a handler.AtEnd n = ⊥
  LetsIn a (handler.Refute k) n = ⊥
  LetsIn a (handler.Enter b k) n = (same a b ≡ true) × (n ≡ k)
  LetsIn a (handler.Raise b k) n = ⊥
  LetsIn a (handler.Recover b k) n = ⊥
  LetsIn a (handler.Suspect b k) n = ⊥
  LetsIn a (handler.Bury b k) n = ⊥

  -- who is listed by a verdict and was not before was let in by it
  abbrev Arrives : handler.Verdict A → Members A → Members A → Type 0
  Arrives v m m' = (a : A) → listed same a m.table ≡ false → listed same a m'.table ≡ true → LetsIn a v (held same a m'.table)

  stays : (v : handler.Verdict A) (m : Members A) → Arrives v m m
  stays v m a p q = clash (listed same a m.table) p q

  strike-fewer : (a b : A) (t : List (Member A)) → listed same a t ≡ false → listed same a (strike same b t) ≡ false
  strike-fewer a b [] e = e
  strike-fewer a b (k ∷ t) e =
      (elim (same b k.addr) as (λ u. pick (same a k.addr) true (listed same a t) ≡ false → listed same a (pick u t (k ∷ strike same b t)) ≡ false) [
        | true ↦ λ h. (elim (same a k.addr) as (λ v. pick v true (listed same a t) ≡ false → listed same a t ≡ false) [ true ↦ λ j. clash true j refl | false ↦ λ j. j ]) h
        | false ↦ λ h. (elim (same a k.addr) as (λ v. pick v true (listed same a t) ≡ false → pick v true (listed same a (strike same b t)) ≡ false) [ true ↦ λ j. j | false ↦ λ j. strike-fewer a b t j ]) h
      ]) e

  put-stays : (v : handler.Verdict A) (k : Member A) (m : Members A) → Arrives v m (update same k m)
  unfolding update
  put-stays v k m a p q = clash (listed same a m.table) p (sym (has-put same lawful.test a (merged same k m.table) m.table) ∙ q)

  enters : (b : A) (n x : ℕ) (m : Members A) → Arrives (handler.Enter b n) m (added same b n x m)
  unfolding added
  enters b n x m a p q =
      let k : Member A = record { addr = b; state = Alive; number = n } in
      let there : listed same a (m.table ++ (k ∷ [])) ≡ pick (listed same a m.table) true (same a b) = ap (has same a) (addrs-append same m.table (k ∷ [])) ∙ has-append same a b (addrs m.table) in
      let e : same a b ≡ true = sym (there ∙ ap (λ (u : Bool). pick u true (same a b)) p) ∙ q in
      (e, held_new same a m.table k p e)

  arrives : (v : handler.Verdict A) (m : Members A) (ds : List ℕ) → After (Arrives v m) (handler.list_after address v m ds)
  unfolding handler.list_after remove
  arrives handler.Skip m ds = gives (stays handler.Skip m)
  arrives handler.Unknown m ds = gives (stays handler.Unknown m)
  arrives handler.Equal m ds = gives (stays handler.Equal m)
  arrives handler.Low m ds = gives (stays handler.Low m)
  arrives handler.AtEnd m ds = halts
  arrives (handler.Refute n) m ds = gives (stays (handler.Refute n) m)
  arrives (handler.Enter b n) m ds = after_map (λ r p. rw p.1 (enters b n p.0 m)) (add_gives address lawful b b n m ds)
  arrives (handler.Raise b n) m ds = gives (put-stays (handler.Raise b n) _ m)
  arrives (handler.Recover b n) m ds = gives (put-stays (handler.Recover b n) _ m)
  arrives (handler.Suspect b n) m ds = gives (put-stays (handler.Suspect b n) _ m)
  arrives (handler.Bury b n) m ds = gives (λ a p q. clash (listed same a (strike same b m.table)) (strike-fewer a b m.table p) q)

  -- the list stands while an event is emitted
  tell_list : (n : handler.News A) (s : Node A) (ds : List ℕ) → After (λ o. o.node.members ≡ s.members) (handler.tell address n s ds)
  unfolding quiet emit pushed
  tell_list handler.Silent s ds = gives refl
  tell_list (handler.Emits k e) s ds = after_then {P = λ _. Unit {0}} (after-when (λ _. halts) (λ _. gives tt)) (λ d rest _. gives refl)

  act_arrives : (v : handler.Verdict A) (s : Node A) (ds : List ℕ) → After (λ o. Arrives v s.members o.node.members) (handler.act address v s ds)
  unfolding handler.act
  act_arrives v s ds = after_then (arrives v s.members ds) (λ m rest p. after_map (λ o e. rw e p) (tell_list (handler.news_of address v s.own) _ rest))

  -- a verdict that lets an address in does so above D
  abbrev pub Above : handler.Verdict A → Node A → Type 0
  Above v s = (a : A) (d n : ℕ) → LetsIn a v n → held_death address a s ≡ some d → d < n

  pub admits : (v : handler.Verdict A) (s : Node A) (ds : List ℕ) → Above v s → After (λ o. Admits address s o.node) (handler.act address v s ds)
  admits v s ds f = after_map (λ o p a d on there out into. f a d (numbered address a o.node) (p a out into) (on_is_the_row's address a s d on there)) (act_arrives v s ds)
