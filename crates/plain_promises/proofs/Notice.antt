-- WHAT A DEATH NOTICE MAKES THE NODE REPORT OF ITS ADDRESS is at no greater number than its own: of every moment of a message.
-- Assumes nothing.
use Rattle.std.specs.Prelude.{◌≡◌, refl, Bool, List, [], ◌∷◌, ◌++◌, ℕ, zero, suc, ◌≤◌, leb}
use Rattle.std.proofs.Common.{ap, sym, ◌∙◌, subst, arith}
use Rattle.std.proofs.Math.Bool.{true, false}
use Rattle.std.proofs.Math.Option.{Option, none, some}
use Rattle.model.specs.declared.Reply.{Reply}
use Rattle.model.specs.declared.Reply.TheVariants.{Done, Already, NotDue, Refuted, Gone, Refused, RefusedAt}
use Rattle.model.specs.declared.Kind.TheVariants as kind
use Rattle.model.specs.Bounds.{Room}
use Rattle.model.specs.Rows.{pick}
use Rattle.model.specs.Answers.{Answer, done, refused}
use Rattle.model.specs.Words as W
use Rattle.model.specs.Members as list
use Rattle.model.specs.Node as M
use Rattle.model.specs.Handler as handler
use Rattle.model.specs.Collect.{collects}
use Rattle.laws.specs.After.{After, halts, gives, given, after_then}
use Rattle.address.specs.Here.{Addr, here, here_lawful}
use Rattle.history.specs.Moments.{Told, Sender, Other, Moment, moment, silent, trace_then, trace_gossip, trace_spread, trace_admit, trace_ack, trace_message}
use Rattle.history.specs.Ledger.{reported}
use Rattle.history.specs.Histories.{World, Call, Receive, outcome, moments_by, moments}
use Rattle.history.specs.Tells.{At}
use Rattle.plain_promises.specs.Notice.{Low}

module _ (a : Addr) where
  -- a moment at which a death notice of the address, if it was asked one, made no greater number known
  abbrev Within : Moment Addr → Type 0
  Within m = (from : Addr) (n : ℕ) → m.deed ≡ Told (W.Deceased from a n) → reported here a m.said ≤ n

  abbrev Each : List (Moment Addr) → Type 0
  Each [] = Unit
  Each (m ∷ ms) = Within m × Each ms

  each_append : (ms ns : List (Moment Addr)) → Each ms → Each ns → Each (ms ++ ns)
  each_append [] ns p q = q
  each_append (m ∷ ms) ns p q = (p.0, each_append ms ns p.1 q)

  each_at : (ms : List (Moment Addr)) (j : ℕ) (m : Moment Addr) → Each ms → At ms j m → Within m
  each_at [] j m p e = elim e [ ]
  each_at (x ∷ ms) zero m p e = subst Within e p.0
  each_at (x ∷ ms) (suc j) m p e = each_at ms j m p.1 e

  -- what the rule of a death notice says
  after_any : {B : Type 0} (x : Answer B) → After (λ b. Unit) x
  after_any (done b ds) = gives tt
  after_any (refused r) = halts

  -- an address is itself
  pub itself : (n : ℕ) → pick (here.same a a) n 0 ≡ n
  itself n = rw (here_lawful.test.same_refl a) refl

  buried : (n : ℕ) (u v : Bool) (s : M.Node Addr) (ds : List ℕ) → (Low a) n (handler.act here (pick u (pick v (handler.Bury a n) handler.Low) handler.Unknown) s ds)
  unfolding handler.act handler.list_after handler.row_after handler.news_of M.quiet M.emit
  buried n true true s ds =
      let left : M.Node Addr = M.with_lists s (list.remove here.same a s.members) (handler.row_after here (handler.Bury a n) s.members.table s.departed) in
      let g : W.Gossip Addr = record { event = W.Deceased s.own a n } in
      let on = s.settings.collect in
      after_then (after_any (M.pushed here on kind.Deceased g s.disseminator ds))
      (λ d rest _. gives {b = record { node = M.with_disseminator left d; said = g ∷ []; collected = collects here on kind.Deceased g s.disseminator.alive }} (omega (arith, itself n)))
  buried n true false s ds = gives {b = record { node = M.with_lists s s.members s.departed; said = []; collected = 0 }} (omega arith)
  buried n false v s ds = gives {b = record { node = M.with_lists s s.members s.departed; said = []; collected = 0 }} (omega arith)

  notice_low : (from : Addr) (n : ℕ) (s : M.Node Addr) (ds : List ℕ) → (Low a) n (handler.item here (W.Deceased from a n) s ds)
  unfolding handler.item handler.deceased
  notice_low from n s ds = buried n (list.listed here.same a s.members.table) (leb (list.held here.same a s.members.table) n) s ds

  -- the moments of a message
  one : (e : W.Event Addr) (s : M.Node Addr) (ds : List ℕ) → Each (moment (Told e) s (handler.item here e s ds))
  one e s ds = by (handler.item here e s ds) refl
    where
      by : (x : Answer (M.Out Addr)) → handler.item here e s ds ≡ x → Each (moment (Told e) s x)
      by (refused r) q = tt
      by (done o rest) q = (
        (λ from n d.
            let same : e ≡ W.Deceased from a n = cc in
            given (subst ((Low a) n) (ap (λ (x : W.Event Addr). handler.item here x s ds) (sym same) ∙ q) (notice_low from n s ds))),
        tt,
      )

  others : (from : Addr) (n : ℕ) (b : Addr) → Sender b ≡ Told (W.Deceased from a n) → ⊥
  others from n b e = let z : ◌≡◌ {A = ℕ} 0 1 = cc in absurd (omega arith)

  nothing : (from : Addr) (n : ℕ) → Other ≡ Told (W.Deceased from a n) → ⊥
  nothing from n e = let z : ◌≡◌ {A = ℕ} 0 1 = cc in absurd (omega arith)

  quietly : (s s' : M.Node Addr) → Each (silent Other s s')
  quietly s s' = ((λ from n e. absurd (nothing from n e)), tt)

  then_each : (x : Answer (M.Out Addr)) (k : M.Node Addr → List ℕ → List (Moment Addr)) → ((s : M.Node Addr) (ds : List ℕ) → Each (k s ds)) → Each (trace_then x k)
  then_each (refused r) k h = tt
  then_each (done o ds) k h = h o.node ds

  of-records : (gs : List (W.Gossip Addr)) (s : M.Node Addr) (ds : List ℕ) → Each (trace_gossip here gs s ds)
  of-records [] s ds = tt
  of-records (g ∷ gs) s ds =
      let x = handler.item here g.event s ds in
      each_append (moment (Told g.event) s x) (trace_then x (trace_gossip here gs)) (one g.event s ds) (then_each x (trace_gossip here gs) (of-records gs))

  of_sender : (from : Addr) (s : M.Node Addr) (ds : List ℕ) → Each (trace_admit here from s ds)
  of_sender from s ds =
      each_append (moment (Sender from) s (handler.admit here from s ds)) (trace_then (handler.admit here from s ds) (λ s' rest. trace_spread here s')) (by (handler.admit here from s ds))
      (then_each (handler.admit here from s ds) (λ s' rest. trace_spread here s') (λ s' rest. quietly s' (M.spread here s').node))
    where
      by : (x : Answer (M.Out Addr)) → Each (moment (Sender from) s x)
      by (refused r) = tt
      by (done o rest) = ((λ f n e. absurd (others f n from e)), tt)

  of_ack : (from : Addr) (to : Option Addr) (s : M.Node Addr) → Each (trace_ack here from to s)
  of_ack from none s = quietly s (handler.acked here from s)
  of_ack from (some to) s = tt

  -- the records, and what follows them
  and_then : (gs : List (W.Gossip Addr)) (s : M.Node Addr) (ds : List ℕ) (k : M.Node Addr → List ℕ → List (Moment Addr)) → ((s' : M.Node Addr) (rest : List ℕ) → Each (k s' rest))
      → Each (trace_gossip here gs s ds ++ trace_then (handler.gossip here gs s ds) k)
  and_then gs s ds k h = each_append (trace_gossip here gs s ds) (trace_then (handler.gossip here gs s ds) k) (of-records gs s ds) (then_each (handler.gossip here gs s ds) k h)

  of-message : (action : W.Action Addr) (gs : List (W.Gossip Addr)) (s : M.Node Addr) (ds : List ℕ) → Each (trace_message here action gs s ds)
  of-message (W.Ping from by) gs s ds = and_then gs s ds (trace_admit here from) (of_sender from)
  of-message (W.PingReq from suspect) gs s ds = and_then gs s ds (λ s' rest. trace_spread here s') (λ s' rest. quietly s' (M.spread here s').node)
  of-message (W.Ack from to) gs s ds = and_then gs s ds (λ s' rest. trace_ack here from to s') (λ s' rest. of_ack from to s')

  by_reply : (r : Reply) (ran : List (Moment Addr)) → Each ran → Each (moments_by here r ran [])
  by_reply (Done used) ran h = h
  by_reply Already ran h = tt
  by_reply NotDue ran h = tt
  by_reply Refuted ran h = h
  by_reply Gone ran h = h
  by_reply (Refused r) ran h = tt
  by_reply (RefusedAt r at) ran h = tt

  pub notice_reports : (action : W.Action Addr) (gs : List (W.Gossip Addr)) (ds : List ℕ) (lent : Room) (w : World Addr) (j : ℕ) (m : Moment Addr) (from : Addr) (n : ℕ)
      → At (moments here (Receive action gs ds lent) w) j m → m.deed ≡ Told (W.Deceased from a n) → reported here a m.said ≤ n
  notice_reports action gs ds lent w j m from n p e =
      let c : Call Addr = Receive action gs ds lent in
      let ran = trace_message here action gs (M.loaded w.node) ds in
      each_at (moments here c w) j m (by_reply (outcome here c w).outcome.reply ran (of-message action gs (M.loaded w.node) ds)) p from n e
