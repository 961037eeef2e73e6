-- NO FORGED DEATH. In a cabinet of any number of controllers, from nodes that creation or a restart gave and fresh wait records, where each Deceased record that a message
-- brings has stood, by address and number, in some message that some controller sent, and everything else is free: whoever holds, sends or reports that x died at number n,
-- and whoever takes x off its list, does so after a timer call of some controller that reported exactly that death with a removal. And down to the probe: before it that
-- controller, in one round of its wait record, pinged x, which it listed at n, found it silent, asked others, found it silent still, and declared it; then suspect_timeout went by.
-- Assumes nothing.
use Rattle.std.specs.Prelude.{◌≡◌, refl, true, false, List, [], ◌∷◌, ◌++◌, ℕ, zero, suc, ◌≤◌, length}
use Rattle.std.proofs.Common.{ap, sym, ◌∙◌, subst, arith, length-append}
use Rattle.model.specs.Words.{Address, Lawful, is_alive, Deceased, Gossip}
use Rattle.model.specs.Node.{loaded, lists, numbered, state_of}
use Rattle.history.specs.Histories.{World, Call, Receive, Timer, outcome, run}
use Rattle.history.specs.Tells.{At}
use Rattle.history.specs.Auditor.{Cause, notice, time_out, TakenOut}
use Rattle.history.proofs.Auditor.{taken_out}
use Rattle.cabinet.specs.Each.{cons, Among, here, there}
use Rattle.cabinet.specs.Cabinets.{deaths, Turn, Once, this, earlier, Names, InGossip, InHeap, InMessages, Brings, TimerAt, Fresh, worlds, nodes, given, sent, Honest, Latest, last, since, Pinging, Declaration, Runs, starts, waits, passes, nears, Removal, TimedOut}
use Rattle.cabinet.specs.Calls.{Tells}
use Rattle.cabinet.proofs.Calls.{call-sends}
use Rattle.cabinet.proofs.Ending.{timer_struck}
use Rattle.cabinet.specs.Alone.{stood}
use Rattle.cabinet.proofs.Alone.{each-alone}
use Rattle.cabinet.specs.Standing.{Standing}
use Rattle.cabinet.proofs.Standing.{standing, brought, turn_gives, whole_now, removal}
use Rattle.cabinet.specs.NoForgedDeath.{Carries, Struck, ended, told}

-- one call is all there is
only : {B : Type 0} (c x : B) (e l : List B) → c ∷ [] ≡ e ++ (x ∷ l) → (e ≡ []) × (x ≡ c)
only c x [] l q = (refl, cc)
only c x (y ∷ e) l q = absurd (omega (arith, ap length q, length-append e (x ∷ l)))

module _ {A : Type 0} where
  named-at : (gs : List (Gossip A)) (i : ℕ) (from x : A) (n : ℕ) → At gs i (record { event = Deceased from x n }) → Among (λ g. Names deaths x n g.event) gs
  named-at [] i from x n e = elim e [ ]
  named-at (g ∷ gs) zero from x n e = here (from, ap (λ (y : Gossip A). y.event) e)
  named-at (g ∷ gs) (suc i) from x n e = there (named-at gs i from x n e)

  dead-at : (P : A → ℕ → Type 0) (gs : List (Gossip A)) (i : ℕ) (from x : A) (n : ℕ) → InGossip deaths P gs → At gs i (record { event = Deceased from x n }) → P x n
  dead-at P _ zero from x n Rattle.cabinet.specs.Each.nil e = elim e [ ]
  dead-at P _ (suc i) from x n Rattle.cabinet.specs.Each.nil e = elim e [ ]
  dead-at P _ zero from x n (cons p ps) e = rw e at p
  dead-at P _ (suc i) from x n (cons {l = gs} p ps) e = dead-at P gs i from x n ps e

module _ {A : Type 0} (address : Address A) (begins : ℕ → World A) where
  once_of : {j : ℕ} {P : Turn A → List (Turn A) → Type 0} {h : List (Turn A)} → Latest address begins j P h → Once P h
  once_of (last p) = this p
  once_of (since e l) = earlier (once_of l)

  -- at one turn of a history, or at one of those before it
  within : {P Q : Turn A → List (Turn A) → Type 0} {h : List (Turn A)} → ((t : Turn A) (g : List (Turn A)) → P t g → Once Q g) → Once P h → Once Q h
  within f (this {t = t} {h = g} p) = earlier (f t g p)
  within f (earlier o) = earlier (within f o)

  -- what a removal is, in plain words: a timer call, before which x was listed, not Alive and at no greater number, and after which it isn't listed; it reported exactly that death
  pub removed : (x : A) (n : ℕ) (t : Turn A) (h : List (Turn A)) → Removal address begins x n t h
      → ((now : ℕ) × TimerAt now t.call)
      × (lists address x (nodes address begins h t.who) ≡ true)
      × (is_alive (state_of address x (nodes address begins h t.who)) ≡ false)
      × (numbered address x (nodes address begins h t.who) ≤ n)
      × (lists address x (loaded (given address begins t h).node) ≡ false)
      × ((given address begins t h).events ≡ record { event = Deceased (nodes address begins h t.who).own x n } ∷ [])
  removed x n t h r = let e = r.ends in ((e.now, e.call), e.silent.listed, e.silent.state, e.number, e.gone, e.event)

  -- the declaration that started a timer
  pub declared-by : {j : ℕ} {x : A} {n started place : ℕ} {h : List (Turn A)} → Runs address begins j x n started place h → Once (Declaration address begins j x n started) h
  declared-by (starts d) = this d
  declared-by (waits e r) = earlier (declared-by r)
  declared-by (passes k e l r) = earlier (declared-by r)
  declared-by (nears k e l r) = earlier (declared-by r)

  -- behind every death stands one unanswered ping, of the controller whose timer it was, to that address and held at that number
  pub probed : (x : A) (n : ℕ) (t : Turn A) (h : List (Turn A)) → Removal address begins x n t h → Once (λ u g. (at : ℕ) × Pinging address begins t.who x n at u g) h
  probed x n t h r =
      within (λ t₁ h₁ d. within (λ t₂ h₂ s. within (λ t₃ h₃ a. within (λ t₄ h₄ u. pinged-at (once_of u.pinged)) (once_of a.unheard)) (once_of s.asked)) (once_of d.unheard)) (declared-by r.declared)
    where
      pinged-at : {at : ℕ} {g : List (Turn A)} → Once (Pinging address begins t.who x n at) g → Once (λ u g. (at : ℕ) × Pinging address begins t.who x n at u g) g
      pinged-at {at} (this p) = this (at, p)
      pinged-at (earlier o) = earlier (pinged-at o)

module _ {A : Type 0} (address : Address A) (lawful : Lawful address) (begins : ℕ → World A) (fresh : (j : ℕ) → Fresh address (begins j))
    (h : List (Turn A)) (honest : Honest address begins deaths h) where
  stands : Standing address lawful begins fresh deaths h
  stands = standing address lawful begins fresh deaths h honest

  -- each death in a controller's heaps has timed out
  pub held : (j : ℕ) → InHeap deaths (TimedOut address begins h) (nodes address begins h j).disseminator.deceased
  held j = (stands.all j).node.deceased

  pub held-alive : (j : ℕ) → InHeap deaths (TimedOut address begins h) (nodes address begins h j).disseminator.alive
  held-alive j = (stands.all j).node.alive

  -- each death in a message that was ever sent has timed out
  pub on_its_way : InMessages deaths (TimedOut address begins h) (sent address begins h)
  on_its_way = stands.sent

  -- the next turn
  module _ (t : Turn A) (brings : Brings deaths t.call (sent address begins h)) where
    learned : Tells deaths (TimedOut address begins h) t.call
    learned = brought deaths (TimedOut address begins h) t.call (sent address begins h) brings on_its_way

    -- each death that it sends had timed out before it
    pub sends : InMessages deaths (TimedOut address begins h) (given address begins t h).messages
    sends = call-sends address (TimedOut address begins h) t.call (worlds address begins h t.who) learned (stands.all t.who).node

    -- each death that it reports has timed out, at it or before it
    pub reports : InGossip deaths (TimedOut address begins (t ∷ h)) (given address begins t h).events
    reports = (turn_gives address lawful begins fresh deaths t.who h (stands.all t.who) t.call brings learned).events

    -- whoever is listed before it and isn't after it was taken out by this controller's own timer, or by a death that this message brought and that had timed out before
    pub struck : (a : A) → lists address a (nodes address begins h t.who) ≡ true → lists address a (loaded (given address begins t h).node) ≡ false → Struck address begins a t h
    struck a p q =
        let out : TakenOut address a (t.call ∷ []) (worlds address begins h t.who) =
        taken_out address a lawful _ (t.call ∷ []) (worlds address begins h t.who) _ (stood address lawful (each-alone address lawful begins fresh h t.who) a) p q in
        let one = only t.call out.call out.earlier out.later out.splits in
        by t.call refl out.place out.moment.before
        (subst (λ (c : Call A). Cause address a c (worlds address begins h t.who) out.place out.moment.before) one.1
        (subst (λ (e : List (Call A)). Cause address a out.call (run address e (worlds address begins h t.who)) out.place out.moment.before) one.0 out.cause))
      where
        by : (c : Call A) → t.call ≡ c → (i : ℕ) (s : _) → Cause address a c (worlds address begins h t.who) i s → Struck address begins a t h
        by c e i s (notice action gs ds lent from n r at le) =
            let is : t.call ≡ Receive action gs ds lent = e ∙ r in
            told n (subst (Carries a n) (sym is) (named-at gs i from a n at)) (dead-at (TimedOut address begins h) gs i from a n (subst (Tells deaths (TimedOut address begins h)) is learned) at)
        by c e i s (time_out now lent j tm r o at eq alive le) =
            let is : t.call ≡ Timer now lent = e ∙ r in
            let w = worlds address begins h t.who in
            let gone : lists address a (loaded (outcome address (Timer now lent) w).outcome.node) ≡ false = subst (λ (d : Call A). lists address a (loaded (outcome address d w).outcome.node) ≡ false) is q in
            let v = timer_struck address lawful w.node (whole_now address lawful begins fresh deaths t.who h (stands.all t.who)) now a p lent gone in
            ended v.0
            (subst (λ (d : Call A). Removal address begins a v.0 (record { who = t.who; call = d }) h) (sym is)
            (removal address lawful begins fresh deaths t.who h (stands.all t.who) now lent a v.0 v.1))

    -- in short: it has timed out, at it or before it
    pub strikes : (a : A) → lists address a (nodes address begins h t.who) ≡ true → lists address a (loaded (given address begins t h).node) ≡ false
        → (n : ℕ) × TimedOut address begins (t ∷ h) a n
    strikes a p q = short (struck a p q)
      where
        short : Struck address begins a t h → (n : ℕ) × TimedOut address begins (t ∷ h) a n
        short (ended n r) = (n, this r)
        short (told n c d) = (n, earlier d)
