-- The ledger along the moments of a call: whatever each rule keeps, the call keeps.
-- Assumes nothing.
use Rattle.std.specs.Prelude.{◌≡◌, ℕ, ◌+◌}
use Rattle.std.proofs.Math.Path.{refl}
use mathlib.Core.List.{List, [], ◌∷◌, ◌++◌}
use Rattle.std.proofs.Math.Option.{Option, none, some}
use Rattle.model.specs.Answers.{Answer, done, refused, and_then}
use Rattle.laws.specs.After.{After, halts, gives, after_then, after_map}
use Rattle.model.specs.Words.{Address, Lawful, Gossip, Action, Ping, PingReq, Ack}
use Rattle.model.specs.Node.{Node, Out, and_more, quiet, spread}
use Rattle.model.specs.Handler.{item, gossip, admit, acked, answer_to, forwarded, handle}
use Rattle.history.specs.Moments.{Deed, Told, Sender, Other, Moment, moment_of, moment, trace_then, trace_gossip, trace_spread, trace_ack, trace_message}
use Rattle.history.specs.Ledger.{Tally, step, tally}
use Rattle.history.specs.Did.{Did, Kept}
use Rattle.history.proofs.Did.{next}
use Rattle.history.proofs.Rules.{item_did, admit_did, acked_did, other_did}
use Rattle.history.specs.Walk.{Along, Walked, Walks}

module _ {A : Type 0} (address : Address A) (a : A) where
  pub tally-append : (ms ns : List (Moment A)) (t : Tally) → tally address a (ms ++ ns) t ≡ tally address a ns (tally address a ms t)
  tally-append [] ns t = refl
  tally-append (m ∷ ms) ns t = tally-append ms ns (step address a m t)

  pub along_append : (own : A) (ms ns : List (Moment A)) (t : Tally) → (Along address a) own ms t → (Along address a) own ns (tally address a ms t) → (Along address a) own (ms ++ ns) t
  along_append own [] ns t p q = q
  along_append own (m ∷ ms) ns t p q = (p.0, along_append own ms ns (step address a m t) p.1 q)

  pub nowhere : {own : A} {t : Tally} {s : Node A} → Kept address a own s t → (Walked address a) own t [] s
  nowhere k = record { kept = k; fine = tt }

  pub further : (own : A) (t : Tally) (ms ns : List (Moment A)) {s s' : Node A} → (Walked address a) own t ms s → (Walked address a) own (tally address a ms t) ns s' → (Walked address a) own t (ms ++ ns) s'
  further own t ms ns w v =
      record { kept = rw (tally-append ms ns t) v.kept; fine = along_append own ms ns t w.fine v.fine }

  pub one-step : (own : A) (s : Node A) (d : Deed A) (o : Out A) (t : Tally) → Kept address a own s t → Did address a s d o → (Walked address a) own t (moment_of d s o ∷ []) o.node
  one-step own s d o t k f =
      let p = next address a own s d o t k f in
      record { kept = p.0; fine = (p.1, tt) }

  pub one-moment : (own : A) (s : Node A) (d : Deed A) (t : Tally) {x : Answer (Out A)} → Kept address a own s t → After (Did address a s d) x → (Walks address a) own t (moment d s x) x
  one-moment own s d t k halts = halts
  one-moment own s d t k (gives {b = o} f) = gives (one-step own s d o t k f)

  -- what follows a rule, with the node that it leaves: `at` says which node an answer holds
  pub then_moments : {B : Type 0} (at : B → Node A) (own : A) (t : Tally) (ms : List (Moment A)) {x : Answer (Out A)} (l : Node A → List ℕ → List (Moment A)) {k : Out A → List ℕ → Answer B}
      → (Walks address a) own t ms x
      → ((o : Out A) (ds : List ℕ) → Kept address a own o.node (tally address a ms t) → After (λ b. (Walked address a) own (tally address a ms t) (l o.node ds) (at b)) (k o ds))
      → After (λ b. (Walked address a) own t (ms ++ trace_then x l) (at b)) (and_then x k)
  then_moments at own t ms l halts f = halts
  then_moments at own t ms l (gives {b = o} {ds = rest} w) f =
      after_map (λ b v. further own t ms (l o.node rest) w v) (f o rest w.kept)

  -- two rules, and what follows them
  then_more : {B : Type 0} (at : B → Node A) (own : A) (t : Tally) (ms : List (Moment A)) {x : Answer (Out A)} (k : Node A → List ℕ → Answer (Out A))
      (l₁ l₂ : Node A → List ℕ → List (Moment A)) {k₂ : Out A → List ℕ → Answer B}
      → (Walks address a) own t ms x
      → ((s : Node A) (ds : List ℕ) (t' : Tally) → Kept address a own s t' → (Walks address a) own t' (l₁ s ds) (k s ds))
      → ((o : Out A) (ds : List ℕ) (t' : Tally) → Kept address a own o.node t' → After (λ b. (Walked address a) own t' (l₂ o.node ds) (at b)) (k₂ o ds))
      → After (λ b. (Walked address a) own t (ms ++ trace_then x (λ s ds. l₁ s ds ++ trace_then (k s ds) l₂)) (at b)) (and_then (and_more x k) k₂)
  unfolding and_more
  then_more at own t ms k l₁ l₂ halts f g = halts
  then_more at own t ms k l₁ l₂ {k₂} (gives {b = o} {ds = rest} w) f g =
      after_map (λ b v. further own t ms _ w v)
      (second o.said o.collected (k o.node rest) (l₁ o.node rest) (f o.node rest (tally address a ms t) w.kept))
    where
      second : (said : List (Gossip A)) (old : ℕ) (y : Answer (Out A)) (ns : List (Moment A)) → (Walks address a) own (tally address a ms t) ns y
          → After (λ b. (Walked address a) own (tally address a ms t) (ns ++ trace_then y l₂) (at b))
          (and_then (and_then y λ p rest₂. done (record { node = p.node; said = said ++ p.said; collected = old + p.collected }) rest₂) k₂)
      second said old (refused r) ns h = halts
      second said old (done p rest₂) ns (gives v) =
          after_map (λ b u. further own (tally address a ms t) ns (l₂ p.node rest₂) v u) (g (record { node = p.node; said = said ++ p.said; collected = old + p.collected }) rest₂ (tally address a ns (tally address a ms t)) v.kept)

  module _ (lawful : Lawful address) where
    walk-gossip : (own : A) (gs : List (Gossip A)) (s : Node A) (ds : List ℕ) (t : Tally) → Kept address a own s t → (Walks address a) own t (trace_gossip address gs s ds) (gossip address gs s ds)
    unfolding quiet and_more
    walk-gossip own [] s ds t k = gives (nowhere k)
    walk-gossip own (g ∷ gs) s ds t k =
        then_moments (λ o. o.node) own t (moment (Told g.event) s (item address g.event s ds)) (trace_gossip address gs)
        (one-moment own s (Told g.event) t k (item_did address lawful a g.event s ds k.whole))
        (λ o rest k'. after_then (walk-gossip own gs o.node rest _ k') (λ p rest₂ v. gives v))

    -- gossip is chosen: the list stands
    walk-spread : (own : A) (s : Node A) (t : Tally) → Kept address a own s t → (Walked address a) own t (trace_spread address s) (spread address s).node
    unfolding spread
    walk-spread own s t k =
        one-step own s Other (record { node = (spread address s).node; said = []; collected = 0 }) t k (other_did address lawful a s _ k.whole refl refl refl)

    walk_ack : (own from : A) (to : Option A) (gs : List (Gossip A)) (o : Out A) (t : Tally) → Kept address a own o.node t
        → (Walked address a) own t (trace_ack address from to o.node) (forwarded address from to gs o).node
    unfolding forwarded
    walk_ack own from none gs o t k =
        one-step own o.node Other (record { node = acked address from o.node; said = []; collected = 0 }) t k (acked_did address lawful a from o.node k.whole)
    walk_ack own from (some to) gs o t k = nowhere k

    pub walk-message : (own : A) (action : Action A) (gs : List (Gossip A)) (s : Node A) (ds : List ℕ) (t : Tally) → Kept address a own s t
        → After (λ e. (Walked address a) own t (trace_message address action gs s ds) e.node) (handle address action gs s ds)
    unfolding handle answer_to
    walk-message own (Ping from by) gs s ds t k =
        then_more (λ e. e.node) own t (trace_gossip address gs s ds) (admit address from) (λ s' rest. moment (Sender from) s' (admit address from s' rest)) (λ s' rest. trace_spread address s')
        (walk-gossip own gs s ds t k)
        (λ s' rest t' k'. one-moment own s' (Sender from) t' k' (admit_did address lawful a from s' rest k'.whole))
        (λ o rest t' k'. gives (walk-spread own o.node t' k'))
    walk-message own (PingReq from suspect) gs s ds t k =
        then_moments (λ e. e.node) own t (trace_gossip address gs s ds) (λ s' rest. trace_spread address s')
        (walk-gossip own gs s ds t k) (λ o rest k'. gives (walk-spread own o.node _ k'))
    walk-message own (Ack from to) gs s ds t k =
        then_moments (λ e. e.node) own t (trace_gossip address gs s ds) (λ s' rest. trace_ack address from to s')
        (walk-gossip own gs s ds t k) (λ o rest k'. gives (walk_ack own from to gs o _ k'))
