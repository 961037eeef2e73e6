-- "A DEATH NOTICE THAT REMOVES A PEER CARRIES A NUMBER NO LOWER THAN ANY REPORTED FOR IT SINCE IT ENTERED", without the ledger: an event about the peer at k, no entry of it after that, and then a notice
-- at n that takes it out: k ≤ n. The notice's own report is one of them. Of every run of calls from a created or a restored node, and its moments one after the other.
-- Assumes nothing.
use Rattle.std.specs.Prelude.{◌≡◌, refl, ◌⊎◌, Bool, true, false, not, ◌&&◌, List, [], ◌∷◌, ◌++◌, ℕ, zero, suc, ◌+◌, ◌≤◌, ◌<◌, max, length, ltb}
use Rattle.std.proofs.Common.{ap, sym, ◌∙◌, subst, inl, inr, arith, zero-add, suc-add, ltb-false, lt-ltb, ltb-true}
use Rattle.model.specs.Rows.{one, pick}
use Rattle.model.specs.Bounds.{Room}
use Rattle.model.specs.Words as W
use Rattle.address.specs.Here.{Addr, here, here_lawful}
use Rattle.history.specs.Moments.{Moment, Told}
use Rattle.history.specs.Beginnings.{Beginning, Creation, Restart, own_of, Gave}
use Rattle.history.specs.Ledger.{Tally, inside, comes, goes, about, reported, step, begun}
use Rattle.history.specs.Did.{Fine}
use Rattle.history.specs.Walk.{Along}
use Rattle.history.proofs.Walk.{along_append}
use Rattle.history.proofs.Worlds.{walk, begins, first_good}
use Rattle.history.specs.Histories.{Call, Receive, moments, start}
use Rattle.history.specs.Tells.{At}
use Rattle.history.specs.Next.{Left, Known}
use Rattle.history.proofs.Next.{goes-out, told_at, at_is}
use Rattle.history.proofs.Demand3 as model
use Rattle.node.specs.declared.Node.{Node}
use Rattle.node.specs.Views.{stored_view}
use Rattle.wait.specs.declared.Wait.{Wait}
use Rattle.promises.specs.Begun.{Begun}
use Rattle.promises.proofs.Begun.{begun-gave}
use Rattle.promises.specs.Runs.{Runs, world}
use Rattle.promises.specs.Demand3.{ledger}
use Rattle.promises.proofs.Demand3.{replayed}
use Rattle.plain_promises.proofs.Notice.{itself, notice_reports}
use Rattle.plain_promises.specs.Since.{Says, Entered, Reports, NoEntry, TakenOutBy, so_far, next, joined, recovered, suspected, deceased}

-- no kind is left out: an event is none, or it is about an address at a number
pub every-kind : (e : W.Event Addr) → (e ≡ W.Nothing) ⊎ ((a : Addr) × (k : ℕ) × Says a k e)
every-kind W.Nothing = inl refl
every-kind (W.Joined from a k) = inr (a, k, joined from)
every-kind (W.Recovered from a k) = inr (a, k, recovered from)
every-kind (W.Suspected from a k) = inr (a, k, suspected from)
every-kind (W.Deceased from a k) = inr (a, k, deceased from)

module _ (a : Addr) where
  -- ---- the ledger that proves it
  about_is : (k : ℕ) (e : W.Event Addr) → Says a k e → about here a e ≡ k
  about_is k _ (joined from) = itself a k
  about_is k _ (recovered from) = itself a k
  about_is k _ (suspected from) = itself a k
  about_is k _ (deceased from) = itself a k

  reported-at : (k : ℕ) (gs : List (W.Gossip Addr)) (i : ℕ) (g : W.Gossip Addr) → At gs i g → Says a k g.event → k ≤ reported here a gs
  reported-at k [] i g p s = elim p [ ]
  reported-at k (x ∷ gs) zero g p s = let e : about here a x.event ≡ k = ap (λ (y : W.Gossip Addr). about here a y.event) p ∙ about_is k g.event s in omega (arith, e)
  reported-at k (x ∷ gs) (suc i) g p s = let h = reported-at k gs i g p s in omega (arith, h)

  -- departures never exceed entries
  abbrev Even : Tally → Type 0
  Even t = t.departures ≤ t.entries

  even_step : (m : Moment Addr) (t : Tally) → Even t → Even (step here a m t)
  even_step m t h = by (ltb t.departures t.entries) (comes here a m.deed) (goes here a m.deed m.before) refl
    where
      by : (u c g : Bool) → ltb t.departures t.entries ≡ u → t.departures + one (g && u) ≤ t.entries + one (c && not u)
      by true c true e = let l : t.departures < t.entries = ltb-true _ _ e in omega (arith, l)
      by true c false e = omega (arith, h)
      by false c true e = omega (arith, h)
      by false c false e = omega (arith, h)

  -- what a moment does to the greatest number: it takes in what the moment reported, and falls only at an entry
  takes_in : (m : Moment Addr) (t : Tally) → reported here a m.said ≤ (step here a m t).top
  takes_in m t = by (comes here a m.deed && not (inside t))
    where
      by : (u : Bool) → reported here a m.said ≤ pick u (reported here a m.said) (max t.top (reported here a m.said))
      by true = omega arith
      by false = omega arith

  holds : (own : Addr) (m : Moment Addr) (t : Tally) → Even t → Fine here a own t m → ((Entered a) m → ⊥) → t.top ≤ (step here a m t).top
  holds own m t h f none_came = by (inside t) (comes here a m.deed) refl refl
    where
      still : (g : Bool) → t.entries ≤ t.departures → t.departures + one (g && false) < t.entries + one (true && not false)
      still true few = omega (arith, h, few)
      still false few = omega (arith, h, few)

      by : (u c : Bool) → inside t ≡ u → comes here a m.deed ≡ c → t.top ≤ pick (c && not u) (reported here a m.said) (max t.top (reported here a m.said))
      by true true e q = omega arith
      by true false e q = omega arith
      by false false e q = omega arith
      by false true e q =
          let few : t.entries ≤ t.departures = ltb-false _ _ e in
          let now : inside (step here a m t) ≡ true = rw (q, e) (lt-ltb _ _ (still (goes here a m.deed m.before) few)) in
          absurd (none_came (record { was = sym f.before ∙ e; now = sym f.after ∙ now }))

  module _ (own : Addr) (other : here.same own a ≡ false) (k n : ℕ) where
    held : (ms : List (Moment Addr)) (t : Tally) (j : ℕ) (m : Moment Addr) → Even t → Along here a own ms t → k ≤ t.top → At ms j m
        → ((l : ℕ) (x : Moment Addr) → l < j → At ms l x → (Entered a) x → ⊥) → (TakenOutBy a) n m → k ≤ n
    held [] t j m h f low p none_came out = elim p [ ]
    held (x ∷ ms) t zero m h f low p none_came out =
        let g : Fine here a own t m = subst (Fine here a own t) p f.0 in
        let top : t.top ≤ n = g.bound out.from n out.notice other (g.before ∙ out.left.was) (goes-out here a _ _ _ out.left.was out.left.gone g.leaves) in
        omega (arith, low, top)
    held (x ∷ ms) t (suc j) m h f low p none_came out =
        let up = holds own x t h f.0 (none_came zero x (omega arith) refl) in
        held ms (step here a x t) j m (even_step x t h) f.1 (omega (arith, low, up)) p (λ l y b q. none_came (suc l) y (omega (arith, b)) q) out

    found : (ms : List (Moment Addr)) (t : Tally) (i j : ℕ) (s m : Moment Addr) → Even t → Along here a own ms t → i < j → At ms i s → (Reports a) k s → At ms j m → (NoEntry a) ms i j → (TakenOutBy a) n m → k ≤ n
    found [] t i j s m h f b p r q none_came out = elim p [ ]
    found (x ∷ ms) t zero zero s m h f b p r q none_came out = absurd (omega (arith, b))
    found (x ∷ ms) t zero (suc j) s m h f b p r q none_came out =
        let said : k ≤ reported here a s.said = reported-at k s.said r.place r.event r.there r.says in
        let in-x : k ≤ reported here a x.said = subst (λ (y : Moment Addr). k ≤ reported here a y.said) (sym p) said in
        let up = takes_in x t in
        held ms (step here a x t) j m (even_step x t h) f.1 (omega (arith, in-x, up)) q (λ l y d e. none_came (suc l) y (omega arith) (omega (arith, d)) e) out
    found (x ∷ ms) t (suc i) zero s m h f b p r q none_came out = absurd (omega (arith, b))
    found (x ∷ ms) t (suc i) (suc j) s m h f b p r q none_came out =
        found ms (step here a x t) i j s m (even_step x t h) f.1 (omega (arith, b)) p r q (λ l y c d e. none_came (suc l) y (omega (arith, c)) (omega (arith, d)) e) out

even_first : (a : Addr) (b : Beginning Addr) → Even a (begun here a b)
even_first a (Creation settings own n) = omega arith
even_first a (Restart settings own rows position) = omega arith

at-behind : {B : Type 0} (l m : List B) (j : ℕ) (x : B) → At m j x → At (l ++ m) (length l + j) x
at-behind [] m j x p = rw (zero-add j) p
at-behind (y ∷ l) m j x p = rw (suc-add (length l) j) (at-behind l m j x p)

module _ (b : Beginning Addr) (tick : ℕ) (first : Node) (first-wait : Wait) (begun-by : Begun b tick first first-wait)
    (cs : List (Call Addr)) (node : Node) (wait : Wait) (runs : Runs first first-wait cs node wait) (a : Addr) (c : Call Addr) where
  abbrev book : Tally
  book = ledger b tick first first-wait begun-by cs node wait runs a

  gave : Gave here b (stored_view first)
  gave = begun-gave begun-by

  known : Known here a (own_of b) book c (world node wait)
  known = subst (Known here a (own_of b) book c) (replayed b tick first first-wait begun-by cs node wait runs a) (model.known here here_lawful b tick _ gave cs a c)

  fine : Along here a (own_of b) ((so_far b tick first first-wait begun-by cs node wait runs a c) ++ (next b tick first first-wait begun-by cs node wait runs a c)) (begun here a b)
  fine =
      along_append here a (own_of b) (so_far b tick first first-wait begun-by cs node wait runs a c) (next b tick first first-wait begun-by cs node wait runs a c) (begun here a b)
      (walk here here_lawful a (own_of b) cs (start here b tick) (begun here a b) (begins here here_lawful a b tick (first_good here here_lawful gave))).fine known.fine

  module _ (action : W.Action Addr) (gs : List (W.Gossip Addr)) (ds : List ℕ) (lent : Room) (j : ℕ) (m : Moment Addr) (from : Addr) (n : ℕ)
      (is-message : c ≡ Receive action gs ds lent) (notice : At gs j (record { event = W.Deceased from a n })) (q : At (next b tick first first-wait begun-by cs node wait runs a c) j m) where
    asked : m.deed ≡ Told (W.Deceased from a n)
    asked = told_at here a (own_of b) book c (world node wait) known action gs ds lent j m (W.Deceased from a n) is-message q notice

    -- what the notice itself makes known
    itself_no_lower : (k : ℕ) → Reports a k m → k ≤ n
    itself_no_lower k r =
        let said = reported-at a k m.said r.place r.event r.there r.says in
        let most = notice_reports a action gs ds lent (world node wait) j m from n (subst (λ (x : Call Addr). At (moments here x (world node wait)) j m) is-message q) asked in
        omega (arith, said, most)

  -- moment i reported k for the peer, no moment behind it is an entry of the peer, and record j of the next call, a death notice at n, takes it out; i may be that moment itself
  pub no_lower-since : here.same (own_of b) a ≡ false
      → (k i : ℕ) (s : Moment Addr) → At ((so_far b tick first first-wait begun-by cs node wait runs a c) ++ (next b tick first first-wait begun-by cs node wait runs a c)) i s → Reports a k s
      → (action : W.Action Addr) (gs : List (W.Gossip Addr)) (ds : List ℕ) (lent : Room) (j : ℕ) (m : Moment Addr) (from : Addr) (n : ℕ)
      → c ≡ Receive action gs ds lent → At gs j (record { event = W.Deceased from a n }) → At (next b tick first first-wait begun-by cs node wait runs a c) j m → Left here a m
      → i ≤ length (so_far b tick first first-wait begun-by cs node wait runs a c) + j → NoEntry a ((so_far b tick first first-wait begun-by cs node wait runs a c) ++ (next b tick first first-wait begun-by cs node wait runs a c)) i (length (so_far b tick first first-wait begun-by cs node wait runs a c) + j) → k ≤ n
  no_lower-since other k i s p r action gs ds lent j m from n is-message notice q left before none_came =
      (elim (ltb i (length (so_far b tick first first-wait begun-by cs node wait runs a c) + j)) as (λ u. ltb i (length (so_far b tick first first-wait begun-by cs node wait runs a c) + j) ≡ u → k ≤ n) [
        | true ↦ λ e.
            found a (own_of b) other k n ((so_far b tick first first-wait begun-by cs node wait runs a c) ++ (next b tick first first-wait begun-by cs node wait runs a c)) (begun here a b) i (length (so_far b tick first first-wait begun-by cs node wait runs a c) + j) s m (even_first a b) fine (ltb-true _ _ e) p r there none_came
            (record { from = from; notice = asked action gs ds lent j m from n is-message notice q; left = left })
        | false ↦ λ e.
            let late = ltb-false i (length (so_far b tick first first-wait begun-by cs node wait runs a c) + j) e in
            let now : i ≡ length (so_far b tick first first-wait begun-by cs node wait runs a c) + j = omega (arith, before, late) in
            let same : s ≡ m = at_is ((so_far b tick first first-wait begun-by cs node wait runs a c) ++ (next b tick first first-wait begun-by cs node wait runs a c)) (length (so_far b tick first first-wait begun-by cs node wait runs a c) + j) s m (subst (λ (x : ℕ). At ((so_far b tick first first-wait begun-by cs node wait runs a c) ++ (next b tick first first-wait begun-by cs node wait runs a c)) x s) now p) there in
            itself_no_lower action gs ds lent j m from n is-message notice q k (subst (Reports a k) same r)
      ]) refl
    where
      there : At ((so_far b tick first first-wait begun-by cs node wait runs a c) ++ (next b tick first first-wait begun-by cs node wait runs a c)) (length (so_far b tick first first-wait begun-by cs node wait runs a c) + j) m
      there = at-behind (so_far b tick first first-wait begun-by cs node wait runs a c) (next b tick first first-wait begun-by cs node wait runs a c) j m q
