-- What a timer call did that reported a death, or after which an address is no longer listed.
-- Assumes nothing.
use Rattle.std.specs.Prelude.{◌≡◌, Bool, false, length, get_or}
use Rattle.std.proofs.Math.Path.{refl, ap, subst}
use Rattle.std.proofs.Common.{sym, ◌∙◌, arith}
use Rattle.std.proofs.Math.Bool.{true}
use mathlib.Core.List.{List, [], ◌∷◌}
use Rattle.std.proofs.Math.Option.{Option, none, some}
use Prim.Native.Nat.{ℕ, zero, suc, ◌≤◌, ◌<◌}
use Rattle.model.specs.declared.Fate.{Fate}
use Rattle.model.specs.declared.Fate.TheVariants.{Leaves, Stays, Absent}
use Rattle.model.specs.Bounds.{Room, list_places}
use Rattle.model.specs.Rows.{pick, has}
use Rattle.model.specs.Answers.{Answer, done, refused}
use Rattle.model.specs.Words.{Address, Lawful, Event, Nothing, Joined, Recovered, Suspected, Deceased, Gossip, Timer as Running, no_timer, blank_member}
use Rattle.model.specs.Members.{Members, addrs, listed, remove}
use Rattle.model.specs.Node.{Node, Out, Stored, loaded, stored, quiet, pushed, emit, lists, numbered, leave}
use Rattle.model.specs.Detector.{is_over, later, first_over, timer_at, fate_at, freed, by_fate, end_at}
use Rattle.model.specs.Calls.{Outcome, refuses, kept_end, timer_tests, reports, ends_at, end_timer}
use Rattle.laws.specs.After.{After, gives, given, after_then, after_both}
use Rattle.laws.specs.Bools.{none-some}
use Rattle.laws.specs.Pad.{take_pad}
use Rattle.laws_list.specs.Whole.{Whole, strike-addrs}
use Rattle.laws_list.specs.Held.{has-erase}
use Rattle.laws_rules.specs.Judged as judged
use Rattle.laws_rules.specs.Judged.{Fated, fated}
use Rattle.laws_rules.specs.KeepsCalls.{first_over_in}
use Rattle.history.proofs.Rules.{never}
use Rattle.history.specs.Tells.{At}
use Rattle.history.proofs.Worlds.{first_cases}
use Rattle.cabinet.specs.Cabinets.{Silent}
use Rattle.cabinet.proofs.Rules.{any}
use Rattle.cabinet.specs.Calls.{SaysBy}
use Rattle.cabinet.proofs.Calls.{end_says}
use Rattle.cabinet.specs.Ending.{number, MembersBy, EndedBy}

-- whom the first of these records names, and at which number
abbrev named : {A : Type 0} → A → Event A → A
named blank Nothing = blank
named blank (Joined f x n) = x
named blank (Recovered f x n) = x
named blank (Suspected f x n) = x
named blank (Deceased f x n) = x

abbrev subject : {A : Type 0} → A → List (Gossip A) → A
subject blank [] = blank
subject blank (g ∷ gs) = named blank g.event

nothing_said : {A B : Type 0} {g : Gossip A} → ◌≡◌ {A = List (Gossip A)} [] (g ∷ []) → B
nothing_said e = absurd (omega (arith, ap length e))

pub at_get_d : {B : Type 0} (l : List B) (i : ℕ) (d : B) → i < length l → At l i (get_or l i d)
at_get_d [] i d h = absurd (omega arith)
at_get_d (x ∷ l) zero d h = refl
at_get_d (x ∷ l) (suc i) d h = at_get_d l i d (omega arith)

module _ {A : Type 0} (address : Address A) where
  -- the timer that ends is over
  first-over : (wait now : ℕ) (ts : List (Running A)) (i : ℕ) → first_over address wait now ts ≡ some i → is_over wait now (get_or ts i (no_timer address)).since ≡ true
  unfolding first_over
  first-over wait now [] i e = none-some e
  first-over wait now (t ∷ ts) i e = by (λ j q. first-over wait now ts j q) (is_over wait now t.since) refl e
    where
      rest : ((j : ℕ) → first_over address wait now ts ≡ some j → is_over wait now (get_or ts j (no_timer address)).since ≡ true) → (o : Option ℕ) → first_over address wait now ts ≡ o → later o ≡ some i
          → is_over wait now (get_or (t ∷ ts) i (no_timer address)).since ≡ true
      rest f none q e = none-some e
      rest f (some j) q e =
          let z : suc j ≡ i = cc in
          subst (λ (k : ℕ). is_over wait now (get_or (t ∷ ts) k (no_timer address)).since ≡ true) z (f j q)

      by : ((j : ℕ) → first_over address wait now ts ≡ some j → is_over wait now (get_or ts j (no_timer address)).since ≡ true) → (u : Bool) → is_over wait now t.since ≡ u → elim u [ true ↦ some 0 | false ↦ later (first_over address wait now ts) ] ≡ some i
          → is_over wait now (get_or (t ∷ ts) i (no_timer address)).since ≡ true
      by f true q e = let z : ◌≡◌ {A = ℕ} 0 i = cc in subst (λ (k : ℕ). is_over wait now (get_or (t ∷ ts) k (no_timer address)).since ≡ true) z q
      by f false q e = rest f (first_over address wait now ts) refl e

  fate_list : (v : Fate) (t : Running A) (s : Node A) (ds : List ℕ) → After (λ o. (MembersBy address) v t s.members o.node.members) (by_fate address v t s ds)
  unfolding by_fate emit leave quiet
  fate_list Leaves t s ds = after_then (any (pushed address _ _ _ _ ds)) (λ d rest _. gives refl)
  fate_list Stays t s ds = gives refl
  fate_list Absent t s ds = gives refl

  pub end_list : (i : ℕ) (s : Node A) (ds : List ℕ) → After (λ o. (MembersBy address) (fate_at address i s) (timer_at address i s) s.members o.node.members) (end_at address i s ds)
  unfolding end_at
  end_list i s ds = fate_list (fate_at address i s) (timer_at address i s) (freed address i s) ds

  -- what is stored lists whom it listed
  stored-lists : (a : A) (s : Node A) → lists address a (loaded (stored address s)) ≡ lists address a s
  unfolding loaded stored
  stored-lists a s = ap (listed address.same a) (take_pad list_places (blank_member address) s.members.table)

module _ {A : Type 0} (address : Address A) (lawful : Lawful address) where
  -- an address that is struck is gone, any other stays
  struck : (a b : A) (m : Members A) → Whole address.same m → listed address.same b m.table ≡ true
      → listed address.same a (remove address.same b m).table ≡ pick (address.same a b) false (listed address.same a m.table)
  unfolding remove
  struck a b m w l =
      ap (has address.same a) (strike-addrs address.same lawful.test b m.table) ∙ has-erase address.same lawful.test a b (addrs m.table) (w.once a) l

  module _ (s : Stored A) (whole : Whole address.same (loaded s).members) (now : ℕ) where
    abbrev held : Node A
    held = loaded s

    module _ (x : A) (n : ℕ) where
      abbrev Reports : Outcome A → Type 0
      Reports o = o.events ≡ record { event = Deceased (loaded s).own x n } ∷ [] → (EndedBy address lawful s whole now) o x n

      leaves_by : (b : A) (o : Out A) → b ≡ x → listed address.same b held.members.table ≡ true → o.node.members ≡ remove address.same b held.members
          → lists address x (loaded (stored address o.node)) ≡ false
      leaves_by b o e l m =
          stored-lists address x o.node ∙ ap (λ (y : Members A). listed address.same x y.table) m ∙ struck x b held.members whole l
          ∙ ap (λ (u : Bool). pick u false (lists address x held)) (ap (λ (y : A). address.same x y) e ∙ lawful.test.same_refl x)

      by-fate : (i : ℕ) (v : Fate) (t : Running A) (y : Answer (Out A)) → first_over address s.settings.suspect_timeout now (loaded s).timers ≡ some i → At held.timers i t
          → is_over s.settings.suspect_timeout now t.since ≡ true → Fated address t held.members.table v
          → After (λ o. SaysBy v t held.own o.said × MembersBy address v t held.members o.node.members) y → Reports (kept_end address s v (reports address y))
      by-fate i v t (refused r) first k over f q e = nothing_said e
      by-fate i Leaves t (done o rest) first k over (judged.fated_leaves l a le) q e =
          let v = given q in
          let z : ◌≡◌ {A = List (Gossip A)} (record { event = Deceased held.own t.addr t.number } ∷ []) (record { event = Deceased held.own x n } ∷ []) = sym v.0 ∙ e in
          let zx : t.addr ≡ x = ap (subject address.blank) z in
          let zn : t.number ≡ n = ap number z in
          record {
            started = t.since;
            place = i;
            first = first;
            timer =
                subst (λ (y : A). At held.timers i (record { addr = y; number = n; since = t.since })) zx
                (subst (λ (m : ℕ). At held.timers i (record { addr = t.addr; number = m; since = t.since })) zn k);
            over = over;
            silent = subst (λ (y : A). Silent address y (loaded s)) zx (record { listed = l; state = a });
            number = subst (λ (y : A). numbered address y (loaded s) ≤ n) zx (subst (λ (m : ℕ). numbered address t.addr (loaded s) ≤ m) zn le);
            gone = leaves_by t.addr o zx l v.1;
          }
      by-fate i Stays t (done o rest) first k over f q e = nothing_said (sym (given q).0 ∙ e)
      by-fate i Absent t (done o rest) first k over f q e = nothing_said (sym (given q).0 ∙ e)

      ends-at : (o : Option ℕ) → first_over address s.settings.suspect_timeout now held.timers ≡ o → Reports (ends_at address s o)
      ends-at none q e = nothing_said e
      ends-at (some i) q e =
          let at = first_over_in address lawful s.settings.suspect_timeout now held.timers i q in
          by-fate i (fate_at address i held) (timer_at address i held) (end_at address i held []) q (at_get_d held.timers i (no_timer address) at)
          (first-over address s.settings.suspect_timeout now held.timers i q)
          (fated address (timer_at address i held) held.members.table)
          (after_both (λ o p r. (p, r)) (end_says address i held []) (end_list address i held [])) e

      -- a timer call that reports exactly a death ended that timer, with a removal
      pub timer_ended : (lent : Room) → Reports (end_timer address s now lent)
      unfolding end_timer
      timer_ended lent = first_cases Reports (timer_tests address s lent) (refuses s) _ (λ r e. nothing_said e) (λ _. ends-at _ refl)

    module _ (a : A) (was : lists address a (loaded s) ≡ true) where
      abbrev Strikes : Outcome A → Type 0
      Strikes o = lists address a (loaded o.node) ≡ false → (n : ℕ) × (o.events ≡ record { event = Deceased (loaded s).own a n } ∷ [])

      stays_by : {B : Type 0} (o : Out A) → o.node.members ≡ held.members → lists address a (loaded (stored address o.node)) ≡ false → B
      stays_by o m q = never (sym q ∙ stored-lists address a o.node ∙ ap (λ (y : Members A). listed address.same a y.table) m ∙ was)

      struck_by : (v : Fate) (t : Running A) (y : Answer (Out A)) → Fated address t held.members.table v
          → After (λ o. SaysBy v t held.own o.said × MembersBy address v t held.members o.node.members) y → Strikes (kept_end address s v (reports address y))
      struck_by v t (refused r) f q g = never (sym g ∙ was)
      struck_by Leaves t (done o rest) (judged.fated_leaves l alive le) q g =
          let v = given q in
          let after : pick (address.same a t.addr) false (lists address a held) ≡ false =
          sym (struck a t.addr held.members whole l) ∙ ap (λ (y : Members A). listed address.same a y.table) (sym v.1) ∙ sym (stored-lists address a o.node) ∙ g in
          by (address.same a t.addr) refl after v.0
        where
          by : (u : Bool) → address.same a t.addr ≡ u → pick u false (lists address a (loaded s)) ≡ false → o.said ≡ record { event = Deceased (loaded s).own t.addr t.number } ∷ []
              → (n : ℕ) × (o.said ≡ record { event = Deceased (loaded s).own a n } ∷ [])
          by true e p d = (t.number, subst (λ (y : A). o.said ≡ record { event = Deceased (loaded s).own y t.number } ∷ []) (sym (lawful.test.same_eq a t.addr e)) d)
          by false e p d = never (sym p ∙ was)
      struck_by Stays t (done o rest) f q g = stays_by o (given q).1 g
      struck_by Absent t (done o rest) f q g = stays_by o (given q).1 g

      struck_at : (o : Option ℕ) → Strikes (ends_at address s o)
      struck_at none g = never (sym g ∙ was)
      struck_at (some i) g =
          struck_by (fate_at address i held) (timer_at address i held) (end_at address i held []) (fated address (timer_at address i held) held.members.table)
          (after_both (λ o p r. (p, r)) (end_says address i held []) (end_list address i held [])) g

      -- a timer call after which a listed address is listed no longer reports exactly its death
      pub timer_struck : (lent : Room) → Strikes (end_timer address s now lent)
      unfolding end_timer
      timer_struck lent = first_cases Strikes (timer_tests address s lent) (refuses s) _ (λ r g. never (sym g ∙ was)) (λ _. struck_at (first_over address s.settings.suspect_timeout now (loaded s).timers))
