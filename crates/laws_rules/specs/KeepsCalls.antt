-- Messages, detector steps and ended timers keep a node good, and so does every call: whatever a call gives back is sound.
-- Assumes nothing.
use Rattle.std.proofs.Math.Path.{◌≡◌, refl}
use Rattle.std.proofs.Common.{ap, ◌∙◌, not-suc-le-zero, le_of_suc-le-suc}
use Rattle.std.specs.Prelude.{Bool, length, get_or}
use Rattle.std.proofs.Math.Bool.{true, false}
use mathlib.Core.List.{List, [], ◌∷◌, ◌++◌}
use Rattle.std.proofs.Math.Option.{Option, none, some}
use Prim.Native.Nat.{ℕ, zero, suc, ◌≤◌, ◌<◌}
use native.Mathlib.Omega.{arith}
use Rattle.std.proofs.Math.ListN.{length-append}
use Rattle.std.proofs.lemmas.List.{length-map}
use borrow.Author.Tests.{leb-false}
use Rattle.model.specs.declared.State.TheVariants as state
use Rattle.model.specs.declared.Fate.{Fate}
use Rattle.model.specs.declared.Settings.{Settings}
use Rattle.model.specs.Rows.{every, remove_at}
use Rattle.model.specs.Answers.{Answer}
use Rattle.laws.specs.Bools.{and_split, and_join, every_append, none-some}
use Rattle.laws.specs.After.{After, halts, gives, after-when, after_then, after_map}
use Rattle.model.specs.Words.{Address, Lawful, Member, Gossip, Timer, Message, Action, Ping, PingReq, Ack, WaitState, SendingPing, WaitingForPingAck, SendingPingReq, WaitingForPingReqAck, Declaring, no_timer}
use Rattle.model.specs.Members.{Members, addrs}
use Rattle.model.specs.Node.{heap_of, Node, Out, Effect, with_members, numbered, spread, fresh, restarted}
use Rattle.model.specs.Handler.{admit, answer_to, forwarded, handle}
use Rattle.model.specs.Detector.{Stepped, pinged, send_ping, waited, ask_each, suspect, asked, pick_group, send_ping_req, declare, step, by_fate, freed, timer_at, fate_at, end_at, first_over, is_over, later}
use Rattle.model.specs.declared.Kind.{Kind}
use Rattle.model.specs.declared.Kind.TheVariants as kind
use Rattle.model.specs.Sound.{in_range, valid_gossip, distinct, positioned}
use Rattle.model.specs.Calls.{valid_action, valid_option, valid_state}
use Rattle.model.specs.Heap.{all_below}
use Rattle.laws.specs.Counts.{one_le}
use Rattle.laws_list.specs.Distinct.{distinct_once}
use Rattle.laws_list.specs.Picking.{Turned, pick-turned}
use Rattle.laws_node.specs.Good.{Good, GoodDeparted, positioned_le}
use Rattle.laws_choose.specs.GoodHeap.{GoodHeap}
use Rattle.laws_rules.specs.Keeps.{Keeps, KeepsOut, keeps_trans, same-node, with-members, more-keeps, gossip-keeps, admit-keeps, acked-keeps, spread-keeps, quiet_keeps, change-keeps, leave-keeps, with-timers, emit-keeps, suspicion_fits, death_fits}
use Rattle.laws_rules.specs.Judged.{Fated, fated_leaves, fated_alive, fated_greater, fated_absent, fated}

-- what holds of every element holds of the one at a place, and of those that are left without it
pub every_in : {B : Type 0} (f : B → Bool) (d : B) (l : List B) (i : ℕ) → i < length l → every f l ≡ true → f (get_or l i d) ≡ true
every_in f d [] i h e = absurd (not-suc-le-zero h)
every_in f d (x ∷ l) zero h e = (and_split (f x) (every f l) e).0
every_in f d (x ∷ l) (suc i) h e = every_in f d l i (le_of_suc-le-suc h) (and_split (f x) (every f l) e).1

every-remove_at : {B : Type 0} (f : B → Bool) (l : List B) (i : ℕ) → every f l ≡ true → every f (remove_at l i) ≡ true
every-remove_at f [] i e = refl
every-remove_at f (x ∷ l) zero e = (and_split (f x) (every f l) e).1
every-remove_at f (x ∷ l) (suc i) e = let p = and_split (f x) (every f l) e in and_join p.0 (every-remove_at f l i p.1)

remove_at_shorter : {B : Type 0} (l : List B) (i : ℕ) → length (remove_at l i) ≤ length l
remove_at_shorter [] i = omega arith
remove_at_shorter (x ∷ l) zero = omega arith
remove_at_shorter (x ∷ l) (suc i) = omega (arith, remove_at_shorter l i)

module _ {A : Type 0} (address : Address A) (lawful : Lawful address) where
  abbrev pub KeepsEffect : Node A → Answer (Effect A) → Type 0
  KeepsEffect s x = After (λ e. Keeps address s e.node) x

  answer_keeps : (target : A) (action : Action A) (s : Node A) (o : Out A) → Keeps address s o.node → Keeps address s (answer_to address target action o).node
  unfolding answer_to
  answer_keeps target action s o k = keeps_trans address k (spread-keeps address o.node k.good)

  forwarded-keeps : (from : A) (to : Option A) (gs : List (Gossip A)) (s : Node A) (o : Out A) → Keeps address s o.node → Keeps address s (forwarded address from to gs o).node
  unfolding forwarded
  forwarded-keeps from none gs s o k = keeps_trans address k (acked-keeps address lawful from o.node k.good)
  forwarded-keeps from (some to) gs s o k = k

  pub handle-keeps : (action : Action A) (gs : List (Gossip A)) (s : Node A) (ds : List ℕ) → Good address s → valid_action address action ≡ true → every (valid_gossip address) gs ≡ true
      → KeepsEffect s (handle address action gs s ds)
  unfolding handle valid_action
  handle-keeps (Ping from by) gs s ds g v w =
      after_then
      (more-keeps address lawful (admit address from) (gossip-keeps address lawful gs s ds g w) (λ s' rest g'. admit-keeps address lawful from s' rest g' (and_split (address.valid from) (valid_option address by) v).0))
      (λ o rest k. gives (answer_keeps _ _ s o k))
  handle-keeps (PingReq from suspect) gs s ds g v w =
      after_then (gossip-keeps address lawful gs s ds g w) (λ o rest k. gives (answer_keeps _ _ s o k))
  handle-keeps (Ack from to) gs s ds g v w =
      after_then (gossip-keeps address lawful gs s ds g w) (λ o rest k. gives (forwarded-keeps from to gs s o k))

  -- the order has moved, and the records stand
  turned-keeps : (own : A) (s : Node A) (m : Members A) → Good address s → Turned address.same address.blank own s.members m → Keeps address s (with_members s m)
  turned-keeps own s m g t =
      record {
        good = with-members address s m g t.whole (ap (λ (x : List _). every address.valid (addrs x)) t.table ∙ g.valid);
        own = refl;
        settings = refl;
      }

  pinged-keeps : (now : ℕ) (gs : List (Gossip A)) (s : Node A) (picks : List A) → Good address s → Keeps address s (pinged address now gs s picks).effect.node
  unfolding pinged
  pinged-keeps now gs s [] g = same-node address g
  pinged-keeps now gs s (b ∷ picks) g = change-keeps address lawful b state.Pending (numbered address b s) s g

  abbrev pub KeepsStep : Node A → Answer (Stepped A) → Type 0
  KeepsStep s x = After (λ e. Keeps address s e.effect.node) x

  send_ping-keeps : (now : ℕ) (s : Node A) (ds : List ℕ) → Good address s → KeepsStep s (send_ping address now s ds)
  unfolding send_ping spread
  send_ping-keeps now s ds g =
      let c = spread-keeps address s g in
      after_then (pick-turned address.same address.blank s.own none 1 s.members ds g.whole)
      (λ p rest t.
      let k = turned-keeps s.own (spread address s).node p.members c.good t in
      gives (keeps_trans address (keeps_trans address c k) (pinged-keeps now (spread address s).gossip (with_members (spread address s).node p.members) p.picks k.good)))

  ask_keeps : (b : A) (picks : List A) (s : Node A) (sent : List (Message A)) → Good address s → Keeps address s (ask_each address b picks s sent).node
  ask_keeps b [] s sent g = same-node address g
  ask_keeps b (x ∷ picks) s sent g =
      let c = spread-keeps address s g in
      keeps_trans address c (ask_keeps b picks (spread address s).node _ c.good)

  pub suspect-keeps : (b : A) (n : ℕ) (s : Node A) (ds : List ℕ) → Good address s → address.valid b ≡ true → KeepsOut address s (suspect address b n s ds)
  unfolding suspect
  suspect-keeps b n s ds g v =
      emit-keeps address kind.Alive _ s _ ds (suspicion_fits address s.own b n g.own v) (change-keeps address lawful b state.Suspected n s g)

  send_ping_req-keeps : (b : A) (n now : ℕ) (s : Node A) (ds : List ℕ) → Good address s → address.valid b ≡ true → KeepsStep s (send_ping_req address b n now s ds)
  unfolding send_ping_req pick_group asked
  send_ping_req-keeps b n now s ds g v =
      after_then (suspect-keeps b n s ds g v)
      (λ o rest k.
      after_then (pick-turned address.same address.blank o.node.own (some b) o.node.settings.ping_req_group_size o.node.members rest k.good.whole)
      (λ p rest₂ t.
      let m : Keeps address o.node (with_members o.node p.members) = turned-keeps o.node.own o.node p.members k.good t in
      gives (keeps_trans address (keeps_trans address k m) (ask_keeps b p.picks (with_members o.node p.members) [] m.good))))

  declare-keeps : (b : A) (n now : ℕ) (s : Node A) (ds : List ℕ) → Good address s → address.valid b ≡ true → KeepsStep s (declare address b n now s ds)
  unfolding declare
  declare-keeps b n now s ds g v =
      let t : Timer A = record { addr = b; number = n; since = now } in
      after-when (λ _. halts) (λ e. gives (record {
        good = with-timers address s (s.timers ++ (t ∷ [])) g (omega (arith, length-append s.timers (t ∷ []), leb-false 16 (length s.timers) e))
            (every_append (λ (x : Timer A). address.valid x.addr) s.timers (t ∷ []) g.timers (and_join v refl));
        own = refl;
        settings = refl;
      }))

  waited-keeps : (b : A) (next : WaitState A) (now : ℕ) (s : Node A) (ds : List ℕ) → Good address s → KeepsStep s (waited address b next now s ds)
  unfolding waited
  waited-keeps b next now s ds g = gives (same-node address g)

  pub step_keeps : (st : WaitState A) (now : ℕ) (s : Node A) (ds : List ℕ) → Good address s → valid_state address st ≡ true → KeepsStep s (step address st now s ds)
  unfolding valid_state
  step_keeps SendingPing now s ds g v = send_ping-keeps now s ds g
  step_keeps (WaitingForPingAck b n) now s ds g v = waited-keeps b (SendingPingReq b n) now s ds g
  step_keeps (SendingPingReq b n) now s ds g v = send_ping_req-keeps b n now s ds g v
  step_keeps (WaitingForPingReqAck b n) now s ds g v = waited-keeps b (Declaring b n) now s ds g
  step_keeps (Declaring b n) now s ds g v = declare-keeps b n now s ds g v

  fate-keeps : (t : Timer A) (v : Fate) (s : Node A) (ds : List ℕ) → Good address s → address.valid t.addr ≡ true → Fated address t s.members.table v → KeepsOut address s (by_fate address v t s ds)
  unfolding by_fate
  fate-keeps t _ s ds g v (fated_leaves l a h) =
      emit-keeps address kind.Deceased _ s _ ds (death_fits address s.own t.addr t.number g.own v) (leave-keeps address lawful t.addr t.number s g v l)
  fate-keeps t _ s ds g v (fated_alive l a) = quiet_keeps address lawful ds g
  fate-keeps t _ s ds g v (fated_greater l h) = quiet_keeps address lawful ds g
  fate-keeps t _ s ds g v (fated_absent l) = quiet_keeps address lawful ds g

  -- a timer's place is freed
  pub freed_good : (i : ℕ) (s : Node A) → Good address s → Good address (freed address i s)
  freed_good i s g =
      with-timers address s (remove_at s.timers i) g (omega (arith, remove_at_shorter s.timers i, g.few))
      (every-remove_at (λ (x : Timer A). address.valid x.addr) s.timers i g.timers)

  pub end_keeps : (i : ℕ) (s : Node A) (ds : List ℕ) → Good address s → i < length s.timers → KeepsOut address s (end_at address i s ds)
  unfolding end_at
  end_keeps i s ds g h =
      after_map (λ o q. record { good = q.good; own = q.own; settings = q.settings })
      (fate-keeps (timer_at address i s) (fate_at address i s) (freed address i s) ds (freed_good i s g)
      (every_in (λ (x : Timer A). address.valid x.addr) (no_timer address) s.timers i h g.timers)
      (fated address (timer_at address i s) s.members.table))

  -- the place of the timer that ends is one of the row
  behind : (n : ℕ) (o : Option ℕ) (i : ℕ) → ((j : ℕ) → o ≡ some j → j < n) → later o ≡ some i → i < suc n
  behind n none i h e = none-some e
  behind n (some j) i h e = let z : ◌≡◌ {A = ℕ} (suc j) i = cc in omega (arith, h j refl)

  pub first_over_in : (wait now : ℕ) (ts : List (Timer A)) (i : ℕ) → first_over address wait now ts ≡ some i → i < length ts
  unfolding first_over
  first_over_in wait now [] i e = none-some e
  first_over_in wait now (t ∷ ts) i e =
      (elim (is_over wait now t.since) as (λ u. elim u [ true ↦ some 0 | false ↦ later (first_over address wait now ts) ] ≡ some i → i < suc (length ts)) [
        | true ↦ λ q. let z : ◌≡◌ {A = ℕ} 0 i = cc in omega arith
        | false ↦ λ q. behind (length ts) (first_over address wait now ts) i (first_over_in wait now ts) q
      ]) e

  -- empty heaps are good
  no-news : (k : Kind) → GoodHeap address k (heap_of k (record { alive = []; deceased = [] }))
  unfolding all_below
  no-news kind.Alive = record { few = omega arith; entries = refl; order = refl }
  no-news kind.Deceased = record { few = omega arith; entries = refl; order = refl }

  -- and so is an empty row of the departed
  nobody-gone : GoodDeparted address []
  nobody-gone = record { few = omega arith; once = λ b. omega arith; valid = refl }

  -- a fresh node is good
  pub fresh_good : (settings : Settings) (own : A) (n : ℕ) → in_range settings ≡ true → address.valid own ≡ true → Good address (fresh settings own n)
  unfolding fresh
  fresh_good settings own n c v =
      record {
        settings = c;
        own = v;
        whole =
            record {
              once = λ b. omega (arith, one_le address.same (address.same b own));
              counts = λ b. refl;
              long = refl;
              few = omega arith;
              place = omega arith;
            };
        valid = and_join v refl;
        heaps = no-news;
        few = omega arith;
        timers = refl;
        departed = nobody-gone;
      }

  -- the node of a restart
  pub restarted_good : (settings : Settings) (own : A) (rows : List (Member A)) (position : ℕ) → in_range settings ≡ true → address.valid own ≡ true → length rows ≤ 64
      → every address.valid (addrs rows) ≡ true → distinct address.same (addrs rows) ≡ true → positioned position (length rows) ≡ true → Good address (restarted settings own rows position)
  restarted_good settings own rows position c v few valid once placed =
      let l = length-map rows (λ (m : Member A). m.addr) in
      record {
        settings = c;
        own = v;
        whole =
            record {
              once = distinct_once address.same lawful.test (addrs rows) once;
              counts = λ b. refl;
              long = l;
              few = few;
              place = omega (arith, positioned_le position (length rows) placed, l);
            };
        valid = valid;
        heaps = no-news;
        few = omega arith;
        timers = refl;
        departed = nobody-gone;
      }
