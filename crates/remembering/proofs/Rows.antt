-- What each rule does to the row of the departed: what the removal of its moment says, and nothing else.
-- Assumes nothing.
use Rattle.std.specs.Prelude.{◌≡◌, Bool, true, false, ◌&&◌, ℕ, ◌+◌, leb}
use Rattle.std.proofs.Math.Path.{refl, sym}
use Rattle.std.proofs.Common.{ap, ◌∙◌, subst, arith, le-leb}
use Rattle.std.proofs.Math.Bool.{not}
use mathlib.Core.List.{List, [], ◌∷◌, ◌++◌, append-nil}
use Rattle.std.proofs.Math.Option.{Option, none, some}
use Rattle.std.proofs.lemmas.Bool.{lt-leb}
use Rattle.model.specs.declared.Kind.{Kind}
use Rattle.model.specs.declared.Kind.TheVariants as kind
use Rattle.model.specs.declared.Fate.{Fate}
use Rattle.model.specs.Rows.{one, pick}
use Rattle.model.specs.Answers.{Answer, done, refused, and_then}
use Rattle.laws.specs.After.{After, halts, gives, after_map, after-when, after_then}
use Rattle.model.specs.Words.{Address, Lawful, is_alive, Event, Gossip, Message, Action, Ping, PingReq, Ack, Timer, WaitState, SendingPing, WaitingForPingAck, SendingPingReq, WaitingForPingReqAck, Declaring, Departed, parts_of}
use Rattle.model.specs.Members.{Members, Picked, pick_from}
use Rattle.model.specs.Departed.{depart, departs}
use Rattle.model.specs.Node.{Node, Out, with_members, with_lists, and_more, quiet, pushed, emit, lists, numbered, state_of, held_death, change, leave, spread}
use Rattle.model.specs.Handler as handler
use Rattle.model.specs.Detector as D
use Rattle.model.specs.Detector.{Stepped}
use Rattle.laws_rules.specs.Judged.{Judged, skipped, joined_at_end, joined_low, joined_raises, joined-enters, recovered_unknown, recovered_low, recovered_recovers, own-at_end, own_refutes, suspected_unknown, suspected_equal, suspected_low, suspected_suspects, deceased_unknown, deceased_low, deceased_buries, judged, SenderJudged, listed_already, sender_at_end, sender_enters, sender_judged, Fated, fated_leaves, fated_alive, fated_greater, fated_absent, fated}
use Rattle.history.specs.Moments.{Deed, Told, Sender, Added, Ended, Other, Moment, moment, trace_then, stepped, trace_gossip, trace_spread, trace_ack, trace_message, trace_step, trace_timer}
use Rattle.remembering.specs.Removals.{removed, by_notice, removal, removals, row_by}
use Rattle.remembering.specs.Standing.{Takes}
use Rattle.remembering.proofs.Standing.{item_takes, sender_stands}
use Rattle.remembering.specs.Entering.{asked, Admits, AtRow, Along}
use Rattle.remembering.proofs.Entering.{item_admits, sender_admits}
use Rattle.remembering.specs.Rows.{same, Still, Remembers}

-- removals one after the other, and more of them
pub row-append : {A : Type 0} (same : A → A → Bool) (xs ys r : List (Departed A)) → row_by same (xs ++ ys) r ≡ row_by same ys (row_by same xs r)
row-append same [] ys r = refl
row-append same (x ∷ xs) ys r = row-append same xs ys (depart same x.addr x.number r)

module _ {A : Type 0} (address : Address A) (lawful : Lawful address) where
  pub emit_still : (k : Kind) (g : Gossip A) (s : Node A) (ds : List ℕ) → (Still address lawful) s.departed (emit address k g s ds)
  unfolding emit pushed
  emit_still k g s ds = after_then {P = λ _. Unit {0}} (after-when (λ _. halts) (λ _. gives tt)) (λ d rest _. gives refl)

  tell_still : (n : handler.News A) (s : Node A) (ds : List ℕ) → (Still address lawful) s.departed (handler.tell address n s ds)
  unfolding quiet
  tell_still handler.Silent s ds = gives refl
  tell_still (handler.Emits k e) s ds = emit_still k _ s ds

  -- a verdict that is carried out
  act-row : (v : handler.Verdict A) (s : Node A) (ds : List ℕ) → (Still address lawful) (handler.row_after address v s.members.table s.departed) (handler.act address v s ds)
  unfolding handler.act
  act-row v s ds = from (handler.list_after address v s.members ds)
    where
      from : (x : Answer (Members A)) → (Still address lawful) (handler.row_after address v s.members.table s.departed) (and_then x λ m rest. handler.tell address (handler.news_of address v s.own) (with_lists s m (handler.row_after address v s.members.table s.departed)) rest)
      from (refused r) = halts
      from (done m rest) = tell_still (handler.news_of address v s.own) (with_lists s m (handler.row_after address v s.members.table s.departed)) rest

  -- ---- a removal, and none
  removes : (b : A) (n : ℕ) (s : Node A) (u : Bool) → u ≡ true → departs (same address lawful) b n s.members.table s.departed ≡ row_by (same address lawful) (removed address u b n s) s.departed
  unfolding departs
  removes b n s u e = sym (ap (λ (z : Bool). row_by (same address lawful) (removed address z b n s) s.departed) e)

  spares : (b : A) (n : ℕ) (s : Node A) (u : Bool) → u ≡ false → s.departed ≡ row_by (same address lawful) (removed address u b n s) s.departed
  spares b n s u e = sym (ap (λ (z : Bool). row_by (same address lawful) (removed address z b n s) s.departed) e)

  both_pass : {u v : Bool} → u ≡ true → v ≡ true → (u && v) ≡ true
  both_pass {u} {v} p q = ap (λ (z : Bool). z && v) p ∙ q

  first_fails : {u : Bool} (v : Bool) → u ≡ false → (u && v) ≡ false
  first_fails v p = ap (λ (z : Bool). z && v) p

  last_fails : (u : Bool) {v : Bool} → v ≡ false → (u && v) ≡ false
  last_fails true q = q
  last_fails false q = refl

  judged-row : (e : Event A) (v : handler.Verdict A) (s : Node A) (x : Option ℕ) → Judged address s.own s.members.table x e v → handler.row_after address v s.members.table s.departed ≡ row_by (same address lawful) (by_notice address e s) s.departed
  unfolding handler.row_after
  judged-row _ _ s x skipped = refl
  judged-row _ _ s x (joined_at_end e) = refl
  judged-row _ _ s x (joined_low least e l h) = refl
  judged-row _ _ s x (joined_raises least e l h) = refl
  judged-row _ _ s x (joined-enters least e l) = refl
  judged-row _ _ s x (recovered_unknown l) = refl
  judged-row _ _ s x (recovered_low l h) = refl
  judged-row _ _ s x (recovered_recovers l h) = refl
  judged-row _ _ s x (own-at_end o e) = refl
  judged-row _ _ s x (own_refutes next o e) = refl
  judged-row _ _ s x (suspected_unknown o l) = refl
  judged-row _ _ s x (suspected_equal o l h e) = refl
  judged-row _ _ s x (suspected_low o l h) = refl
  judged-row _ _ s x (suspected_suspects o l h) = refl
  judged-row _ _ s x (deceased_unknown {f = f} {a = b} {n = n} l) = spares b n s _ (first_fails (leb (numbered address b s) n) l)
  judged-row _ _ s x (deceased_low {f = f} {a = b} {n = n} l h) = spares b n s _ (last_fails (lists address b s) (lt-leb (numbered address b s) n h))
  judged-row _ _ s x (deceased_buries {f = f} {a = b} {n = n} l h) = removes b n s _ (both_pass l (le-leb (numbered address b s) n h))

  item-row : (e : Event A) (s : Node A) (ds : List ℕ) → (Still address lawful) (row_by (same address lawful) (by_notice address e s) s.departed) (handler.item address e s ds)
  unfolding handler.item
  item-row e s ds =
      after_map (λ o q. q ∙ judged-row e _ s _ (judged address s.own s.members.table (held_death address (parts_of address e).subject s) e)) (act-row _ s ds)

  sender_row : (b : A) (v : handler.Verdict A) (s : Node A) (x : Option ℕ) → SenderJudged address s.own s.members.table x b v → handler.row_after address v s.members.table s.departed ≡ s.departed
  unfolding handler.row_after
  sender_row b _ s x (listed_already l) = refl
  sender_row b _ s x (sender_at_end l e) = refl
  sender_row b _ s x (sender_enters n l e) = refl

  admit-row : (b : A) (s : Node A) (ds : List ℕ) → (Still address lawful) s.departed (handler.admit address b s ds)
  unfolding handler.admit
  admit-row b s ds = after_map (λ o q. q ∙ sender_row b _ s _ (sender_judged address s.own s.members.table (held_death address b s) b)) (act-row _ s ds)

  fated_row : (t : Timer A) (v : Fate) (s : Node A) → Fated address t s.members.table v → (Still address lawful) (row_by (same address lawful) (removal address (Ended t.addr t.number) s) s.departed) (D.by_fate address v t s [])
  unfolding D.by_fate leave quiet
  fated_row t _ s (fated_leaves l a h) =
      after_map (λ o q. q ∙ removes t.addr t.number s _ (both_pass l (both_pass (ap not a) (le-leb (numbered address t.addr s) t.number h)))) (emit_still kind.Deceased _ _ [])
  fated_row t _ s (fated_alive l a) = gives (spares t.addr t.number s _ (last_fails (lists address t.addr s) (first_fails (leb (numbered address t.addr s) t.number) (ap not a))))
  fated_row t _ s (fated_greater l h) = gives (spares t.addr t.number s _ (last_fails (lists address t.addr s) (last_fails (not (is_alive (state_of address t.addr s))) (lt-leb (numbered address t.addr s) t.number h))))
  fated_row t _ s (fated_absent l) = gives (spares t.addr t.number s _ (first_fails _ l))

  pub removals-append : (ms ns : List (Moment A)) → removals address (ms ++ ns) ≡ removals address ms ++ removals address ns
  removals-append [] ns = refl
  removals-append (m ∷ ms) ns =
      ap (λ (l : List (Departed A)). removal address m.deed m.before ++ l) (removals-append ms ns)
      ∙ sym (mathlib.Core.List.append_assoc (removal address m.deed m.before) (removals address ms) (removals address ns))

  along_append : (ms ns : List (Moment A)) (r : List (Departed A)) → Along address ms r → Along address ns (row_by (same address lawful) (removals address ms) r) → Along address (ms ++ ns) r
  along_append [] ns r p q = q
  along_append (m ∷ ms) ns r p q =
      (p.0, along_append ms ns (row_by (same address lawful) (removal address m.deed m.before) r) p.1 (subst (Along address ns) (row-append (same address lawful) (removal address m.deed m.before) (removals address ms) r) q))

  pub remembers_on : (ms ns : List (Moment A)) (s s' s'' : Node A) → (Remembers address lawful) ms s s' → (Remembers address lawful) ns s' s'' → (Remembers address lawful) (ms ++ ns) s s''
  remembers_on ms ns s s' s'' p q = (
    q.0 ∙ ap (row_by (same address lawful) (removals address ns)) p.0 ∙ sym (row-append (same address lawful) (removals address ms) (removals address ns) s.departed) ∙ ap (λ (l : List (Departed A)). row_by (same address lawful) l s.departed) (sym (removals-append ms ns)),
    along_append ms ns s.departed p.1 (subst (Along address ns) p.0 q.1),
  )

  not_asked : {B : Type 0} → ◌≡◌ {A = Bool} false true → B
  not_asked e = absurd (omega (arith, ap one e))

  -- a moment that nobody else asked for
  pub aside : (s s' : Node A) (d : Deed A) (said : List (Gossip A)) → asked d ≡ false → AtRow address s.departed (record { before = s; deed = d; after = s'; said = said })
  aside s s' d said e = record { row = refl; admits = λ q. not_asked (sym e ∙ q); takes = none-taken d e }
    where
      none-taken : (d : Deed A) → asked d ≡ false → Takes address d s s'
      none-taken (Told x) q = not_asked (sym q)
      none-taken (Sender b) q = not_asked (sym q)
      none-taken (Added b n) q = tt
      none-taken (Ended b n) q = tt
      none-taken Other q = tt

  one_remembers : (d : Deed A) (s : Node A) {x : Answer (Out A)} → (Still address lawful) (row_by (same address lawful) (removal address d s) s.departed) x → After (λ o. asked d ≡ true → Admits address s o.node) x → After (λ o. Takes address d s o.node) x
      → After (λ o. (Remembers address lawful) (moment d s x) s o.node) x
  one_remembers d s halts f g = halts
  one_remembers d s (gives e) (gives f) (gives g) =
      gives (e ∙ ap (λ (l : List (Departed A)). row_by (same address lawful) l s.departed) (sym (append-nil (removal address d s))), (record { row = refl; admits = f; takes = g }, tt))

  -- what follows a rule: `at` says which node an answer holds
  then_remembers : {B : Type 0} (at : B → Node A) (s : Node A) (ms : List (Moment A)) {x : Answer (Out A)} (l : Node A → List ℕ → List (Moment A)) {k : Out A → List ℕ → Answer B}
      → After (λ o. (Remembers address lawful) ms s o.node) x → ((o : Out A) (ds : List ℕ) → After (λ b. (Remembers address lawful) (l o.node ds) o.node (at b)) (k o ds))
      → After (λ b. (Remembers address lawful) (ms ++ trace_then x l) s (at b)) (and_then x k)
  then_remembers at s ms l halts f = halts
  then_remembers at s ms l (gives {b = o} {ds = rest} e) f = after_map (λ b q. remembers_on ms (l o.node rest) s o.node (at b) e q) (f o rest)

  then_more : {B : Type 0} (at : B → Node A) (s : Node A) (ms : List (Moment A)) {x : Answer (Out A)} (k : Node A → List ℕ → Answer (Out A)) (l₁ l₂ : Node A → List ℕ → List (Moment A)) {k₂ : Out A → List ℕ → Answer B}
      → After (λ o. (Remembers address lawful) ms s o.node) x → ((s₁ : Node A) (ds : List ℕ) → After (λ o. (Remembers address lawful) (l₁ s₁ ds) s₁ o.node) (k s₁ ds))
      → ((o : Out A) (ds : List ℕ) → After (λ b. (Remembers address lawful) (l₂ o.node ds) o.node (at b)) (k₂ o ds))
      → After (λ b. (Remembers address lawful) (ms ++ trace_then x (λ s₁ ds. l₁ s₁ ds ++ trace_then (k s₁ ds) l₂)) s (at b)) (and_then (and_more x k) k₂)
  unfolding and_more
  then_more at s ms k l₁ l₂ halts f g = halts
  then_more at s ms k l₁ l₂ {k₂} (gives {b = o} {ds = rest} e) f g =
      after_map (λ b q. remembers_on ms _ s o.node (at b) e q) (second o.said o.collected (k o.node rest) (l₁ o.node rest) (f o.node rest))
    where
      second : (said : List (Gossip A)) (old : ℕ) (y : Answer (Out A)) (ns : List (Moment A)) → After (λ p. (Remembers address lawful) ns o.node p.node) y
          → After (λ b. (Remembers address lawful) (ns ++ trace_then y l₂) o.node (at b))
          (and_then (and_then y λ p rest₂. done (record { node = p.node; said = said ++ p.said; collected = old + p.collected }) rest₂) k₂)
      second said old (refused r) ns h = halts
      second said old (done p rest₂) ns (gives v) =
          after_map (λ b u. remembers_on ns (l₂ p.node rest₂) o.node p.node (at b) v u) (g (record { node = p.node; said = said ++ p.said; collected = old + p.collected }) rest₂)

  gossip_remembers : (gs : List (Gossip A)) (s : Node A) (ds : List ℕ) → After (λ o. (Remembers address lawful) (trace_gossip address gs s ds) s o.node) (handler.gossip address gs s ds)
  unfolding quiet and_more
  gossip_remembers [] s ds = gives (refl, tt)
  gossip_remembers (g ∷ gs) s ds =
      then_remembers (λ o. o.node) s (moment (Told g.event) s (handler.item address g.event s ds)) (trace_gossip address gs)
      (one_remembers (Told g.event) s (item-row g.event s ds) (after_map (λ o f _. f) (item_admits address lawful g.event s ds)) (item_takes address lawful g.event s ds))
      (λ o rest. after_then (gossip_remembers gs o.node rest) (λ p rest₂ v. gives v))

  -- a row that stands through moments without a removal
  spread_remembers : (s : Node A) → (Remembers address lawful) (trace_spread address s) s (spread address s).node
  unfolding spread
  spread_remembers s = (refl, (aside s _ Other _ refl, tt))

  picked_still : (u : Bool) (s : Node A) (m : Members A) → (pick u (with_members s m) s).departed ≡ s.departed
  picked_still true s m = refl
  picked_still false s m = refl

  acked_still : (a : A) (s : Node A) → (handler.acked address a s).departed ≡ s.departed
  unfolding handler.acked change
  acked_still a s = picked_still (lists address a s) s _

  ack_remembers : (from : A) (to : Option A) (gs : List (Gossip A)) (o : Out A) → (Remembers address lawful) (trace_ack address from to o.node) o.node (handler.forwarded address from to gs o).node
  unfolding handler.forwarded
  ack_remembers from none gs o = (acked_still from o.node, (aside o.node _ Other _ refl, tt))
  ack_remembers from (some to) gs o = (refl, tt)

  pub message_remembers : (action : Action A) (gs : List (Gossip A)) (s : Node A) (ds : List ℕ) → After (λ e. (Remembers address lawful) (trace_message address action gs s ds) s e.node) (handler.handle address action gs s ds)
  unfolding handler.handle handler.answer_to
  message_remembers (Ping from by) gs s ds =
      then_more (λ e. e.node) s (trace_gossip address gs s ds) (handler.admit address from) (λ s₁ rest. moment (Sender from) s₁ (handler.admit address from s₁ rest)) (λ s₁ rest. trace_spread address s₁)
      (gossip_remembers gs s ds)
      (λ s₁ rest. one_remembers (Sender from) s₁ (admit-row from s₁ rest) (after_map (λ o f _. f) (sender_admits address lawful from s₁ rest)) (sender_stands address lawful from s₁ rest))
      (λ o rest. gives (spread_remembers o.node))
  message_remembers (PingReq from suspect) gs s ds =
      then_remembers (λ e. e.node) s (trace_gossip address gs s ds) (λ s₁ rest. trace_spread address s₁) (gossip_remembers gs s ds) (λ o rest. gives (spread_remembers o.node))
  message_remembers (Ack from to) gs s ds =
      then_remembers (λ e. e.node) s (trace_gossip address gs s ds) (λ s₁ rest. trace_ack address from to s₁) (gossip_remembers gs s ds) (λ o rest. gives (ack_remembers from to gs o))

  -- ---- the detector
  pinged_still : (now : ℕ) (gs : List (Gossip A)) (s : Node A) (picks : List A) → (D.pinged address now gs s picks).effect.node.departed ≡ s.departed
  unfolding D.pinged change
  pinged_still now gs s [] = refl
  pinged_still now gs s (a ∷ picks) = refl

  asking_still : (a : A) (picks : List A) (s : Node A) (sent : List (Message A)) → (D.ask_each address a picks s sent).node.departed ≡ s.departed
  unfolding spread
  asking_still a [] s sent = refl
  asking_still a (x ∷ picks) s sent = asking_still a picks (spread address s).node _

  abbrev StillStep : Node A → Answer (Stepped A) → Type 0
  StillStep s x = After (λ e. e.effect.node.departed ≡ s.departed) x

  ping_still : (now : ℕ) (s : Node A) (ds : List ℕ) → StillStep s (D.send_ping address now s ds)
  unfolding D.send_ping spread
  ping_still now s ds = from (pick_from (same address lawful) address.blank s.own none 1 s.members ds)
    where
      from : (x : Answer (Picked A)) → StillStep s (and_then x λ p rest. done (D.pinged address now (spread address s).gossip (with_members (spread address s).node p.members) p.picks) rest)
      from (refused r) = halts
      from (done p rest) = gives (pinged_still now _ _ p.picks)

  ask_still : (a : A) (n now : ℕ) (s : Node A) (ds : List ℕ) → StillStep s (D.send_ping_req address a n now s ds)
  unfolding D.send_ping_req D.suspect D.asked change
  ask_still a n now s ds = after_then (emit_still kind.Alive _ _ ds) (λ o rest e. from o e (D.pick_group address a o.node rest))
    where
      from : (o : Out A) → o.node.departed ≡ s.departed → (x : Answer (Picked A)) → StillStep s (and_then x λ p rest₂. done (D.asked address a n now o p) rest₂)
      from o e (refused r) = halts
      from o e (done p rest₂) = gives (asking_still a p.picks (with_members o.node p.members) [] ∙ e)

  step_still : (st : WaitState A) (now : ℕ) (s : Node A) (ds : List ℕ) → StillStep s (D.step address st now s ds)
  unfolding D.waited D.declare
  step_still SendingPing now s ds = ping_still now s ds
  step_still (WaitingForPingAck a n) now s ds = gives refl
  step_still (SendingPingReq a n) now s ds = ask_still a n now s ds
  step_still (WaitingForPingReqAck a n) now s ds = gives refl
  step_still (Declaring a n) now s ds = after-when (λ _. halts) (λ _. gives refl)

  stepped_remembers : (s : Node A) {x : Answer (Stepped A)} → StillStep s x → After (λ e. (Remembers address lawful) (stepped s x) s e.effect.node) x
  stepped_remembers s halts = halts
  stepped_remembers s (gives e) = gives (e, (aside s _ Other _ refl, tt))

  pub step_remembers : (st : WaitState A) (now : ℕ) (s : Node A) (ds : List ℕ) → After (λ e. (Remembers address lawful) (trace_step address st now s ds) s e.effect.node) (D.step address st now s ds)
  step_remembers st now s ds = stepped_remembers s (step_still st now s ds)

  pub timer_remembers : (i : ℕ) (s : Node A) → After (λ o. (Remembers address lawful) (trace_timer address i s) s o.node) (D.end_at address i s [])
  unfolding D.end_at
  timer_remembers i s =
      let t = D.timer_at address i s in
      let row = fated_row t (D.fate_at address i s) (D.freed address i s) (fated address t s.members.table) in
      one_remembers (Ended t.addr t.number) s row (after_map (λ o _ e. not_asked e) row) (after_map (λ o _. tt) row)
