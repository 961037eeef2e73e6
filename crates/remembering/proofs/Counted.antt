-- The removals are the departures of 01's ledger, one for one: of every address there are as many of either, after every history.
-- Assumes nothing.
use Rattle.std.specs.Prelude.{◌≡◌, refl, Bool, true, false, not, ◌&&◌, List, [], ◌∷◌, ◌++◌, ℕ, ◌+◌, leb}
use Rattle.std.proofs.Common.{ap, sym, ◌∙◌, arith}
use Rattle.model.specs.Rows.{one, pick, occurs}
use Rattle.model.specs.Words.{Address, Lawful, is_alive, Event, Nothing, Joined, Recovered, Suspected, Deceased, Departed}
use Rattle.model.specs.Departed.{gone}
use Rattle.model.specs.Node.{Node, Stored, lists, numbered, state_of}
use Rattle.laws.specs.Counts.{occurs-append}
use Rattle.laws_list.specs.Departing.{gone-append}
use Rattle.history.specs.Beginnings.{Beginning, Creation, Restart, own_of, Gave}
use Rattle.history.specs.Moments.{Deed, Told, Sender, Added, Ended, Other, Moment}
use Rattle.history.specs.Ledger.{Tally, inside, goes, step, tally, begun}
use Rattle.history.specs.Walk.{Along}
use Rattle.history.proofs.Walk.{tally-append}
use Rattle.history.specs.Histories.{World, Call, outcome, world_of, moments, trace, start}
use Rattle.history.specs.Worlds.{Stands}
use Rattle.history.proofs.Worlds.{call-stands}
use Rattle.history.proofs.Next.{known_of}
use Rattle.history.proofs.Demand3 as demand3
use Rattle.remembering.specs.Removals.{removed, by_notice, removal, removals}
use Rattle.remembering.proofs.Rows.{removals-append}
use Rattle.remembering.specs.Counted.{times}

module _ {A : Type 0} (address : Address A) (lawful : Lawful address) (a : A) where
  both_true : (u v : Bool) (d : Departed A) → one (address.same a d.addr) ≡ 1 → (times address lawful a) (pick (u && v) (d ∷ []) []) ≡ one (v && u)
  both_true true true d e = omega (arith, e)
  both_true true false d e = refl
  both_true false true d e = refl
  both_true false false d e = refl

  another : (u : Bool) (d : Departed A) → one (address.same a d.addr) ≡ 0 → (times address lawful a) (pick u (d ∷ []) []) ≡ 0
  another true d e = omega (arith, e)
  another false d e = refl

  -- a removal of b, if the rule takes it
  one-removed : (b : A) (n : ℕ) (s : Node A) (f : A → Bool) → (times address lawful a) (removed address (lists address b s && f b) b n s) ≡ one ((address.same a b && f a) && lists address a s)
  one-removed b n s f =
      (elim (address.same a b) as (λ u. address.same a b ≡ u → (times address lawful a) (removed address (lists address b s && f b) b n s) ≡ one ((u && f a) && lists address a s)) [
        | true ↦ λ e.
            both_true (lists address b s) (f b) _ (ap one e)
            ∙ ap (λ (x : A). one (f x && lists address x s)) (sym (lawful.test.same_eq a b e))
        | false ↦ λ e. another (lists address b s && f b) _ (ap one e)
      ]) refl

  by-notice : (e : Event A) (s : Node A) → (times address lawful a) (by_notice address e s) ≡ one (goes address a (Told e) s && lists address a s)
  by-notice Nothing s = refl
  by-notice (Joined f b n) s = refl
  by-notice (Recovered f b n) s = refl
  by-notice (Suspected f b n) s = refl
  by-notice (Deceased f b n) s = one-removed b n s (λ x. leb (numbered address x s) n)

  one-moment : (d : Deed A) (s : Node A) → (times address lawful a) (removal address d s) ≡ one (goes address a d s && lists address a s)
  one-moment (Told e) s = by-notice e s
  one-moment (Sender b) s = refl
  one-moment (Added b n) s = refl
  one-moment (Ended b n) s = one-removed b n s (λ x. not (is_alive (state_of address x s)) && leb (numbered address x s) n)
  one-moment Other s = refl

  times-append : (l m : List (Departed A)) → (times address lawful a) (l ++ m) ≡ (times address lawful a) l + (times address lawful a) m
  times-append l m = ap (occurs address.same a) (gone-append l m) ∙ occurs-append address.same a (gone l) (gone m)

  along_counts : (own : A) (ms : List (Moment A)) (t : Tally) → Along address a own ms t → (tally address a ms t).departures ≡ t.departures + (times address lawful a) (removals address ms)
  along_counts own [] t p = omega arith
  along_counts own (m ∷ ms) t p =
      let here : (times address lawful a) (removal address m.deed m.before) ≡ one (goes address a m.deed m.before && inside t) =
      one-moment m.deed m.before ∙ ap (λ (u : Bool). one (goes address a m.deed m.before && u)) (sym p.0.before) in
      omega (arith, here, along_counts own ms (step address a m t) p.1, times-append (removal address m.deed m.before) (removals address ms))

  runs_count : (own : A) (h : List (Call A)) (w : World A) (t : Tally) → Stands address lawful a own t w → (tally address a (trace address h w) t).departures ≡ t.departures + (times address lawful a) (removals address (trace address h w))
  runs_count own [] w t k = omega arith
  runs_count own (c ∷ h) w t k =
      let w' = world_of address (outcome address c w) in
      let ms = moments address c w in
      let ns = trace address h w' in
      omega (
        arith,
        along_counts own ms t (known_of address a lawful own t c w k).fine,
        runs_count own h w' (tally address a ms t) (call-stands address lawful a own t c w k).stands,
        ap (λ (x : Tally). x.departures) (tally-append address a ms ns t),
        ap (times address lawful a) (removals-append address lawful ms ns) ∙ times-append (removals address ms) (removals address ns),
      )

  -- "Departures": as many as removals, of every address, from creation or a restart
  pub removed_as_often : (b : Beginning A) (tick : ℕ) (node : Stored A) → Gave address b node → (h : List (Call A))
      → (tally address a (trace address h (start address b tick)) (begun address a b)).departures ≡ (times address lawful a) (removals address (trace address h (start address b tick)))
  removed_as_often b tick node gave h =
      let none : (begun address a b).departures ≡ 0 = from b in
      omega (arith, none, runs_count (own_of b) h (start address b tick) (begun address a b) (demand3.stood address lawful b tick node gave [] a))
    where
      from : (b : Beginning A) → (begun address a b).departures ≡ 0
      from (Creation settings own n) = refl
      from (Restart settings own rows position) = refl
