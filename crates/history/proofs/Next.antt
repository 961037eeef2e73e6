-- The call that comes next: what is known of its moments, and what follows for one address.
-- Assumes nothing.
use Rattle.std.specs.Prelude.{◌≡◌, refl, Bool, true, false, not, List, [], ◌∷◌, ◌++◌, ℕ, zero, suc, ◌≤◌, take}
use Rattle.std.proofs.Common.{ap, sym, ◌∙◌, subst, append-nil, arith}
use Rattle.std.proofs.Math.Option.{none, some}
use Rattle.model.specs.declared.Reply.{Reply}
use Rattle.model.specs.declared.Reply.TheVariants.{Done, Already, Refuted, Gone}
use Rattle.model.specs.Bounds.{Room}
use Rattle.model.specs.Words.{Address, Lawful, Event, Deceased, Gossip, Action, Ping, PingReq, Ack}
use Rattle.model.specs.Node.{Node, loaded, lists, numbered}
use Rattle.history.specs.Moments.{Deed, Told, Sender, Other, Moment}
use Rattle.history.specs.Ledger.{Tally, step, tally}
use Rattle.history.specs.Did.{Fine}
use Rattle.history.specs.Walk.{Along}
use Rattle.history.proofs.Rules.{never}
use Rattle.history.specs.Histories.{World, Call, Receive, outcome, moments}
use Rattle.history.specs.Tells.{At, Leads, deeds_in, records, message_deeds, asked, asked_by, deeds_of}
use Rattle.history.specs.Worlds.{Stands, stands}
use Rattle.history.proofs.Worlds.{call-stands}
use Rattle.history.proofs.Chain as chain
use Rattle.history.specs.Next.{Known, Left, StaysListed}

pub at_is : {B : Type 0} (l : List B) (i : ℕ) (x y : B) → At l i x → At l i y → x ≡ y
at_is {B = B} [] i x y p q = elim p [ ]
at_is (z ∷ l) zero x y p q = sym p ∙ q
at_is (z ∷ l) (suc i) x y p q = at_is l i x y p q

module _ {A : Type 0} (address : Address A) (a : A) where
  pub deed_at : (ms : List (Moment A)) (i : ℕ) (m : Moment A) → At ms i m → At (deeds_in ms) i m.deed
  deed_at [] i m p = elim p [ ]
  deed_at (x ∷ ms) zero m p = ap (λ (y : Moment A). y.deed) p
  deed_at (x ∷ ms) (suc i) m p = deed_at ms i m p

  -- each moment, with the ledger before it
  pub fine_at : (own : A) (ms : List (Moment A)) (t : Tally) (i : ℕ) (m : Moment A) → At ms i m → Along address a own ms t → Fine address a own (tally address a (take i ms) t) m
  fine_at own [] t i m p f = elim p [ ]
  fine_at own (x ∷ ms) t zero m p f = subst (Fine address a own t) p f.0
  fine_at own (x ∷ ms) t (suc i) m p f = fine_at own ms (step address a x t) i m p f.1

  -- the records come first
  in_records : (gs : List (Gossip A)) (rest : List (Deed A)) (i : ℕ) (e : Event A) → At gs i (record { event = e }) → At (records gs ++ rest) i (Told e)
  in_records [] rest i e p = elim p [ ]
  in_records (g ∷ gs) rest zero e p = ap (λ (x : Gossip A). Told x.event) p
  in_records (g ∷ gs) rest (suc i) e p = in_records gs rest i e p

  record_first : (action : Action A) (gs : List (Gossip A)) (i : ℕ) (e : Event A) → At gs i (record { event = e }) → At (message_deeds action gs) i (Told e)
  record_first (Ping from by) gs i e p = in_records gs (Sender from ∷ Other ∷ []) i e p
  record_first (PingReq from about) gs i e p = in_records gs (Other ∷ []) i e p
  record_first (Ack from none) gs i e p = in_records gs (Other ∷ []) i e p
  record_first (Ack from (some to)) gs i e p = rw (append-nil (records gs)) at (in_records gs [] i e p)

  -- it can be met: moment by moment
  pub stays-none : (StaysListed address a) []
  stays-none i m p = absurd p

  pub stays-more : (m : Moment A) (ms : List (Moment A)) → lists address a m.after ≡ true → (StaysListed address a) ms → (StaysListed address a) (m ∷ ms)
  stays-more m ms l p zero x e = ap (λ (y : Moment A). lists address a y.after) (sym e) ∙ l
  stays-more m ms l p (suc i) x e = p i x e

  pub rises_along : (own : A) (s s' : Node A) (ms : List (Moment A)) (t : Tally) → Leads s ms s' → Along address a own ms t → (StaysListed address a) ms → lists address a s ≡ true
      → numbered address a s ≤ numbered address a s'
  rises_along own s s' [] t e f stays l = omega (arith, ap (numbered address a) e)
  rises_along own s s' (m ∷ ms) t (e, leads) (f, fs) stays l =
      let now : lists address a m.after ≡ true = stays zero m refl in
      let first : numbered address a m.before ≤ numbered address a m.after = f.rises (f.before ∙ ap (lists address a) (sym e) ∙ l) (f.after ∙ now) in
      let rest = rises_along own m.after s' ms (step address a m t) leads fs (λ i x p. stays (suc i) x p) now in
      omega (arith, ap (numbered address a) e)

  pub goes-out : (l l' g : Bool) → l ≡ true → l' ≡ false → (l ≡ true → l' ≡ not g) → g ≡ true
  goes-out l l' true p q h = refl
  goes-out l l' false p q h = never (sym q ∙ h p)

  -- a place of what a call asked: it was kept
  pub at-asked : (r : Reply) (ds : List (Deed A)) (i : ℕ) (d : Deed A) → At (asked_by address r ds) i d → At ds i d
  at-asked Rattle.model.specs.declared.Reply.TheVariants.NotDue ds i d p = elim p [ ]
  at-asked (Rattle.model.specs.declared.Reply.TheVariants.Refused _) ds i d p = elim p [ ]
  at-asked (Rattle.model.specs.declared.Reply.TheVariants.RefusedAt _ _) ds i d p = elim p [ ]
  at-asked (Done used) ds i d p = p
  at-asked Already ds i d p = p
  at-asked Refuted ds i d p = p
  at-asked Gone ds i d p = p

  module _ (own : A) (t : Tally) (c : Call A) (w : World A) (known : (Known address a) own t c w) where
    -- record i of a message is what its moment i was asked
    pub told_at : (action : Action A) (gs : List (Gossip A)) (ds : List ℕ) (lent : Room) (i : ℕ) (m : Moment A) (e : Event A) → c ≡ Receive action gs ds lent → At (moments address c w) i m → At gs i (record { event = e })
        → m.deed ≡ Told e
    told_at action gs ds lent i m e q p r =
        let d : At (deeds_of address c w) i m.deed = rw known.tells.asks at (deed_at (moments address c w) i m p) in
        let d₂ : At (asked address c w) i m.deed = at-asked (outcome address c w).outcome.reply (asked address c w) i m.deed d in
        let d₃ : At (message_deeds action gs) i m.deed = rw q at d₂ in
        at_is (message_deeds action gs) i m.deed (Told e) d₃ (record_first action gs i e r)

    -- a peer that stays listed through the call: its number does not fall
    pub steady : (StaysListed address a) (moments address c w) → lists address a (loaded w.node) ≡ true
        → numbered address a (loaded w.node) ≤ numbered address a (loaded (outcome address c w).outcome.node)
    steady stays l = rises_along own _ _ (moments address c w) t known.tells.leads known.fine stays l

    -- a Deceased gossip that takes a peer out carries a number no lower than any reported for it: `top` of the ledger before that moment
    pub bounded : (action : Action A) (gs : List (Gossip A)) (ds : List ℕ) (lent : Room) (i : ℕ) (m : Moment A) (from : A) (n : ℕ) → c ≡ Receive action gs ds lent → At (moments address c w) i m
        → At gs i (record { event = Deceased from a n }) → address.same own a ≡ false → (Left address a) m → (tally address a (take i (moments address c w)) t).top ≤ n
    bounded action gs ds lent i m from n q p r other l =
        let f = fine_at own (moments address c w) t i m p known.fine in
        let d : m.deed ≡ Told (Deceased from a n) = told_at action gs ds lent i m (Deceased from a n) q p r in
        f.bound from n d other (f.before ∙ l.was) (goes-out _ _ _ l.was l.gone f.leaves)

  -- it is known of every call on a world that stands
  pub known_of : (lawful : Lawful address) (own : A) (t : Tally) (c : Call A) (w : World A) → Stands address lawful a own t w → (Known address a) own t c w
  known_of lawful own t c _ (stands s w g k) =
      record {
        tells = chain.call-tells address lawful s w g c;
        fine = (call-stands address lawful a own t c (record { node = _; wait = w }) (stands s w g k)).fine;
        pings = chain.ping_goes address lawful s w g c;
      }
