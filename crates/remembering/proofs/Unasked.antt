-- "Off: nothing differs": with the setting off no rule reads the row. Two nodes that differ in the row alone do the same, refuse alike and draw alike, and differ in the row alone afterwards.
-- Detector steps and timers read it with neither setting. For any type of address, any node and any two rows.
-- Assumes nothing.
use Rattle.std.specs.Prelude.{◌≡◌, leb, length}
use Rattle.std.proofs.Common.{sym, ◌∙◌}
use Rattle.std.proofs.Math.Path.{subst}
use Rattle.std.proofs.Math.Bool.{true, false}
use mathlib.Core.List.{List, [], ◌∷◌, ◌++◌}
use Rattle.std.proofs.Math.Option.{Option, none, some}
use Prim.Native.Nat.{ℕ, ◌+◌}
use Rattle.model.specs.declared.Kind.{Kind}
use Rattle.model.specs.declared.Kind.TheVariants as kind
use Rattle.model.specs.declared.State.TheVariants as state
use Rattle.model.specs.declared.Settings.{Settings}
use Rattle.model.specs.declared.Fate.{Fate}
use Rattle.model.specs.declared.Fate.TheVariants.{Leaves, Stays, Absent}
use Rattle.model.specs.declared.Refusal.TheVariants.{TimersFull}
use Rattle.model.specs.Rows.{pick}
use Rattle.model.specs.Bounds.{timer_places}
use Rattle.model.specs.Answers.{Answer, done, refused, and_then, when}
use Rattle.model.specs.Words.{Address, Event, Gossip, Action, Ping, PingReq, Ack, Message, WaitState, SendingPing, WaitingForPingAck, SendingPingReq, WaitingForPingReqAck, Declaring, Wait, Departed, parts_of}
use Rattle.model.specs.Members as list
use Rattle.model.specs.Node.{Disseminator, Node, Out, Effect, with_members, with_lists, with_disseminator, with_timers, quiet, and_more, pushed, emit, lists, numbered, held_death, change, leave, spread}
use Rattle.model.specs.Handler as handler
use Rattle.model.specs.Detector as D
use Rattle.remembering.proofs.Entering.{off_is_as_before}
use Rattle.remembering.specs.Unasked.{given, Both, Alike, AlikeEffect, AlikeStep, Off, stop, give, alike, effects, steps}

module _ {A : Type 0} (address : Address A) (Fine : Settings → Type 0) where
  abbrev Row : Type 0
  Row = List (Departed A)

  emit-alike : (k : Kind) (g : Gossip A) (s : Node A) (r r' : Row) (ds : List ℕ) → Fine s.settings → Both (Alike Fine) (emit address k g (given r s) ds) (emit address k g (given r' s) ds)
  unfolding emit
  emit-alike k g s r r' ds f = by (pushed address s.settings.collect k g s.disseminator ds)
    where
      n : ℕ
      n = Rattle.model.specs.Collect.collects address s.settings.collect k g s.disseminator.alive

      by : (x : Answer (Disseminator A))
          → Both (Alike Fine) (and_then x λ d rest. done (record { node = with_disseminator (given r s) d; said = g ∷ []; collected = n }) rest) (and_then x λ d rest. done (record { node = with_disseminator (given r' s) d; said = g ∷ []; collected = n }) rest)
      by (refused q) = stop
      by (done d rest) = give (alike (with_disseminator s d) f)

  tell-alike : (w : handler.News A) (s : Node A) (r r' : Row) (ds : List ℕ) → Fine s.settings → Both (Alike Fine) (handler.tell address w (given r s) ds) (handler.tell address w (given r' s) ds)
  unfolding quiet
  tell-alike handler.Silent s r r' ds f = give (alike s f)
  tell-alike (handler.Emits k e) s r r' ds f = emit-alike k (record { event = e }) s r r' ds f

  act-alike : (v : handler.Verdict A) (s : Node A) (r r' : Row) (ds : List ℕ) → Fine s.settings → Both (Alike Fine) (handler.act address v (given r s) ds) (handler.act address v (given r' s) ds)
  unfolding handler.act
  act-alike v s r r' ds f = by (handler.list_after address v s.members ds)
    where
      q : Row
      q = handler.row_after address v s.members.table r

      q' : Row
      q' = handler.row_after address v s.members.table r'

      by : (x : Answer (list.Members A))
          → Both (Alike Fine) (and_then x λ m rest. handler.tell address (handler.news_of address v s.own) (with_lists (given r s) m q) rest) (and_then x λ m rest. handler.tell address (handler.news_of address v s.own) (with_lists (given r' s) m q') rest)
      by (refused z) = stop
      by (done m rest) = tell-alike (handler.news_of address v s.own) (with_members s m) q q' rest f

  -- ---- timers and steps, with either setting
  pub end_alike : (i : ℕ) (s : Node A) (r r' : Row) (ds : List ℕ) → Fine s.settings → Both (Alike Fine) (D.end_at address i (given r s) ds) (D.end_at address i (given r' s) ds)
  unfolding D.end_at D.by_fate leave quiet
  end_alike i s r r' ds f = by (D.fate_at address i s)
    where
      by : (v : Fate) → Both (Alike Fine) (D.by_fate address v (D.timer_at address i s) (D.freed address i (given r s)) ds) (D.by_fate address v (D.timer_at address i s) (D.freed address i (given r' s)) ds)
      by Leaves = emit-alike kind.Deceased _ (with_members (D.freed address i s) _) _ _ ds f
      by Stays = give (alike (D.freed address i s) f)
      by Absent = give (alike (D.freed address i s) f)

  each-alike : (a : A) (picks : List A) (s : Node A) (r r' : Row) (sent : List (Message A)) → Fine s.settings → AlikeEffect Fine (D.ask_each address a picks (given r s) sent) (D.ask_each address a picks (given r' s) sent)
  unfolding spread
  each-alike a [] s r r' sent f = effects s f
  each-alike a (b ∷ picks) s r r' sent f = each-alike a picks (spread address s).node r r' _ f

  said-alike : (said : List (Gossip A)) (n : ℕ) (w : Wait A) {e e' : Effect A} → AlikeEffect Fine e e'
      → AlikeStep Fine (record { effect = record { node = e.node; messages = e.messages; events = said; collected = n }; wait = w }) (record { effect = record { node = e'.node; messages = e'.messages; events = said; collected = n }; wait = w })
  said-alike said n w (effects s f) = steps (effects s f)

  request_alike : (a : A) (n now : ℕ) {x y : Answer (Out A)} → Both (Alike Fine) x y
      → Both (AlikeStep Fine) (and_then x λ o rest. and_then (D.pick_group address a o.node rest) λ p rest₂. done (D.asked address a n now o p) rest₂)
      (and_then y λ o rest. and_then (D.pick_group address a o.node rest) λ p rest₂. done (D.asked address a n now o p) rest₂)
  unfolding D.pick_group D.asked
  request_alike a n now stop = stop
  request_alike a n now (give {ds = rest} (alike s {r = r} {r' = r'} {said = said} {n = k} f)) = by (D.pick_group address a s rest)
    where
      by : (z : Answer (list.Picked A))
          → Both (AlikeStep Fine) (and_then z λ p rest₂. done (D.asked address a n now (record { node = given r s; said = said; collected = k }) p) rest₂) (and_then z λ p rest₂. done (D.asked address a n now (record { node = given r' s; said = said; collected = k }) p) rest₂)
      by (refused q) = stop
      by (done p rest₂) = give (said-alike said k _ (each-alike a p.picks (with_members s p.members) r r' [] f))

  ping_alike : (now : ℕ) (s : Node A) (r r' : Row) (z : Answer (list.Picked A)) → Fine s.settings → let c = spread address s in
      Both (AlikeStep Fine) (and_then z λ p rest. done (D.pinged address now c.gossip (with_members (given r c.node) p.members) p.picks) rest)
      (and_then z λ p rest. done (D.pinged address now c.gossip (with_members (given r' c.node) p.members) p.picks) rest)
  unfolding D.pinged change spread
  ping_alike now s r r' (refused q) f = stop
  ping_alike now s r r' (done p rest) f = by p.picks
    where
      at : Node A
      at = with_members (spread address s).node p.members

      by : (picks : List A) → let c = spread address s in
          Both (AlikeStep Fine) (done (D.pinged address now c.gossip (with_members (given r c.node) p.members) picks) rest) (done (D.pinged address now c.gossip (with_members (given r' c.node) p.members) picks) rest)
      by [] = give (steps (effects at f))
      by (a ∷ picks) = give (steps (effects (change address a state.Pending (numbered address a at) at) f))

  declare-alike : (a : A) (n now : ℕ) (s : Node A) (r r' : Row) (ds : List ℕ) → Fine s.settings → Both (AlikeStep Fine) (D.declare address a n now (given r s) ds) (D.declare address a n now (given r' s) ds)
  unfolding D.declare when
  declare-alike a n now s r r' ds f =
      elim (leb timer_places (length s.timers)) as (λ u. Both (AlikeStep Fine) (when u (refused TimersFull) (done (D.moves address SendingPing now (given r starts)) ds)) (when u (refused TimersFull) (done (D.moves address SendingPing now (given r' starts)) ds))) [
        | true ↦ stop
        | false ↦ give (steps (effects starts f))
      ]
    where
      starts : Node A
      starts = with_timers s (s.timers ++ (record { addr = a; number = n; since = now } ∷ []))

  pub step-alike : (st : WaitState A) (now : ℕ) (s : Node A) (r r' : Row) (ds : List ℕ) → Fine s.settings → Both (AlikeStep Fine) (D.step address st now (given r s) ds) (D.step address st now (given r' s) ds)
  unfolding D.send_ping D.waited D.heard D.send_ping_req D.suspect change spread
  step-alike SendingPing now s r r' ds f = ping_alike now s r r' (list.pick_from address.same address.blank s.own none 1 s.members ds) f
  step-alike (WaitingForPingAck a n) now s r r' ds f = give (steps (effects s f))
  step-alike (SendingPingReq a n) now s r r' ds f = request_alike a n now (emit-alike kind.Alive _ (change address a state.Suspected n s) r r' ds f)
  step-alike (WaitingForPingReqAck a n) now s r r' ds f = give (steps (effects s f))
  step-alike (Declaring a n) now s r r' ds f = declare-alike a n now s r r' ds f

-- ---- messages, with the setting off
module _ {A : Type 0} (address : Address A) where
  abbrev Rows : Type 0
  Rows = List (Departed A)

  same-death : (a : A) (s : Node A) (r r' : Rows) → (Off address) s.settings → held_death address a (given r s) ≡ held_death address a (given r' s)
  same-death a s r r' f = off_is_as_before address a (given r s) f ∙ sym (off_is_as_before address a (given r' s) f)

  pub item-alike : (e : Event A) (s : Node A) (r r' : Rows) (ds : List ℕ) → (Off address) s.settings → Both (Alike (Off address)) (handler.item address e (given r s) ds) (handler.item address e (given r' s) ds)
  unfolding handler.item
  item-alike e s r r' ds f =
      subst (λ (d : Option ℕ). Both (Alike (Off address)) (handler.act address (handler.judge address s.own s.members.table (held_death address (parts_of address e).subject (given r s)) e) (given r s) ds)
      (handler.act address (handler.judge address s.own s.members.table d e) (given r' s) ds))
      (same-death (parts_of address e).subject s r r' f) (act-alike address (Off address) _ s r r' ds f)

  pub admit-alike : (a : A) (s : Node A) (r r' : Rows) (ds : List ℕ) → (Off address) s.settings → Both (Alike (Off address)) (handler.admit address a (given r s) ds) (handler.admit address a (given r' s) ds)
  unfolding handler.admit
  admit-alike a s r r' ds f =
      subst (λ (d : Option ℕ). Both (Alike (Off address)) (handler.act address (handler.judge_sender address s.members.table (held_death address a (given r s)) a) (given r s) ds)
      (handler.act address (handler.judge_sender address s.members.table d a) (given r' s) ds))
      (same-death a s r r' f) (act-alike address (Off address) _ s r r' ds f)

  more-alike : {x y : Answer (Out A)} (k : Node A → List ℕ → Answer (Out A)) → Both (Alike (Off address)) x y
      → ((s : Node A) (r r' : Rows) (ds : List ℕ) → (Off address) s.settings → Both (Alike (Off address)) (k (given r s) ds) (k (given r' s) ds)) → Both (Alike (Off address)) (and_more x k) (and_more y k)
  unfolding and_more
  more-alike k stop g = stop
  more-alike k (give {ds = rest} (alike s {r = r} {r' = r'} {said = said} {n = n} f)) g = by (g s r r' rest f)
    where
      by : {z w : Answer (Out A)} → Both (Alike (Off address)) z w
          → Both (Alike (Off address)) (and_then z λ p rest₂. done (record { node = p.node; said = said ++ p.said; collected = n + p.collected }) rest₂) (and_then w λ p rest₂. done (record { node = p.node; said = said ++ p.said; collected = n + p.collected }) rest₂)
      by stop = stop
      by (give (alike t h)) = give (alike t h)

  pub gossip-alike : (gs : List (Gossip A)) (s : Node A) (r r' : Rows) (ds : List ℕ) → (Off address) s.settings → Both (Alike (Off address)) (handler.gossip address gs (given r s) ds) (handler.gossip address gs (given r' s) ds)
  unfolding quiet
  gossip-alike [] s r r' ds f = give (alike s f)
  gossip-alike (g ∷ gs) s r r' ds f = more-alike (handler.gossip address gs) (item-alike g.event s r r' ds f) (gossip-alike gs)

  then_alike : {x y : Answer (Out A)} (k : Out A → Effect A) → Both (Alike (Off address)) x y → ((o p : Out A) → Alike (Off address) o p → AlikeEffect (Off address) (k o) (k p))
      → Both (AlikeEffect (Off address)) (and_then x λ o rest. done (k o) rest) (and_then y λ o rest. done (k o) rest)
  then_alike k stop g = stop
  then_alike k (give q) g = give (g _ _ q)

  answer-alike : (to : A) (action : Action A) (o p : Out A) → Alike (Off address) o p → AlikeEffect (Off address) (handler.answer_to address to action o) (handler.answer_to address to action p)
  unfolding handler.answer_to spread
  answer-alike to action _ _ (alike s f) = effects (spread address s).node f

  forward_alike : (from : A) (to : Option A) (gs : List (Gossip A)) (o p : Out A) → Alike (Off address) o p → AlikeEffect (Off address) (handler.forwarded address from to gs o) (handler.forwarded address from to gs p)
  unfolding handler.forwarded handler.acked change
  forward_alike from (some to) gs _ _ (alike s f) = effects s f
  forward_alike from none gs _ _ (alike s {r = r} {r' = r'} {said = said} {n = n} f) =
      elim (lists address from s) as (λ u. AlikeEffect (Off address) (record { node = pick u (change address from state.Alive (numbered address from s) (given r s)) (given r s); messages = []; events = said; collected = n })
      (record { node = pick u (change address from state.Alive (numbered address from s) (given r' s)) (given r' s); messages = []; events = said; collected = n })) [
        | true ↦ effects (change address from state.Alive (numbered address from s) s) f
        | false ↦ effects s f
      ]

  pub handle-alike : (action : Action A) (gs : List (Gossip A)) (s : Node A) (r r' : Rows) (ds : List ℕ) → (Off address) s.settings
      → Both (AlikeEffect (Off address)) (handler.handle address action gs (given r s) ds) (handler.handle address action gs (given r' s) ds)
  unfolding handler.handle
  handle-alike (Ping from by) gs s r r' ds f = then_alike _ (more-alike (handler.admit address from) (gossip-alike gs s r r' ds f) (admit-alike from)) (answer-alike _ _)
  handle-alike (PingReq from suspect) gs s r r' ds f = then_alike _ (gossip-alike gs s r r' ds f) (answer-alike _ _)
  handle-alike (Ack from to) gs s r r' ds f = then_alike _ (gossip-alike gs s r r' ds f) (forward_alike from to gs)
