-- `message::gossip::handle_gossip` meets its contract: what is left of the rules gives the answer of the whole.
-- Assumes nothing.
use mathlib.Core.Path.{◌≡◌, refl, ap, sym, subst, ◌∙◌}
use mathlib.Core.Bool.{true}
use mathlib.Core.List.{List}
use mathlib.Core.Logic.{⊎_elim}
use Prim.Native.Nat.{ℕ, ◌+◌, ◌-◌, ◌*◌, ◌≤◌, ◌<◌}
use native.Mathlib.Omega.{arith}
use mir.Val.{Fits}
use mir.Syntax.{w64}
use lib.ListN.{length, drop}
use borrow.Author.Rules.{rules}
use Rattle.address.specs.Here.{Addr, here}
use Rattle.model.specs.declared.Kind.{Kind}
use Rattle.model.specs.declared.Kind.TheVariants as kind
use Rattle.model.specs.declared.Cause.{Cause}
use Rattle.model.specs.declared.Refusal.{Refusal}
use Rattle.model.specs.Answers.{Answer, refused}
use Rattle.model.specs.Words as W
use Rattle.model.specs.Node as M
use Rattle.model.specs.Handler as handler
use Rattle.types.specs.Views.{to_optional}
use Rattle.heap.specs.declared.Heap.{Heap}
use Rattle.heap.specs.Views.{heap_view, Packed}
use Rattle.member.specs.declared.Members.{Members}
use Rattle.member.specs.Views.{view_members}
use Rattle.disseminate.specs.Views.{of_kind}
use Rattle.node.specs.declared.Node.{Node}
use Rattle.departed.specs.declared.DepartedRow.{DepartedRow}
use Rattle.departed.specs.Views.{departed_view, pack_departed}
use Rattle.node.specs.Views.{view_node, with_lists, with_disseminator}
use Rattle.rules.specs.declared.Verdict.{Verdict}
use Rattle.rules.specs.Views.{collects_for, to_verdict, to_news, to_from_verdict, to_from_news, list_after_of}
use Rattle.message.specs.declared.gossip.Lent.{Lent}
use Rattle.message.specs.declared.gossip.Report.{Report}
use Rattle.message.specs.Views.{records_of, sender_rule, verdict_at, deaths_of, cleared_for, leaves_all, goes_to, RoomFor, finds_full, full_for, told_to, noted, refused_heard, heard_of}
use Rattle.message.specs.Acting.{cleared-none, told_elsewhere, living-only, row_stays, room_for, cleared_fits, act-leaves, act-refused, drawn_within, act-full, act_done}
use Rattle.message.specs.Hearing.{Sofar, ahead, turn, turn-keeps, records-long, noted_few, noted_collected, Counted, counted_stops, counted_next, sofar_start, sofar_next, sofar_over, sofar_refused, sofar_more, sofar_ends}
use Rattle.message.proofs.gossip.handle_gossip.Lts as lts
use Rattle.message.proofs.gossip.handle_gossip.Tie as tie
use Rattle.message.proofs.gossip.handle_gossip.Reads as reads
use Rattle.message.proofs.gossip.handle_gossip.Invariants.{records, whole, current}
use Rattle.message.proofs.gossip.handle_gossip.Goals as goal
use Rattle.message.proofs.gossip.handle_gossip.Goals.{then-old-gt0, else-old-gt0, then-goes_to, else-goes_to}

-- where its rules stop, if they do
abbrev stops : Node → Lent → List ℕ → Cause
stops n l draws = handler.stops_at here (records l) (view_node n) draws

many : (s : lts.Start tie.the-claims reads.Pre reads.Post goal.the-invariant-loop-i goal.the-decreases-loop-i tie.handed_clauses) → length (records s.args.lent) ≡ s.args.lent.given
many s = records-long s.args.lent.rows s.args.lent.given s.requires.1

is-due : (c : lts.Then1 tie.the-claims reads.Pre reads.Post goal.the-invariant-loop-i goal.the-decreases-loop-i tie.handed_clauses) → c.loop-i.i ≤ c.args.lent.given
is-due c = omega (arith, c.loop-i-test.true)

-- where a call starts, and the loop as a verdict is given
abbrev start : lts.After-verdict_at tie.the-claims reads.Pre reads.Post goal.the-invariant-loop-i goal.the-decreases-loop-i tie.handed_clauses → lts.Start tie.the-claims reads.Pre reads.Post goal.the-invariant-loop-i goal.the-decreases-loop-i tie.handed_clauses
start v = v.before.before.before.before.before.before.before.before.before.before.before

abbrev all : lts.After-verdict_at tie.the-claims reads.Pre reads.Post goal.the-invariant-loop-i goal.the-decreases-loop-i tie.handed_clauses → Answer (M.Out Addr)
all v = let a = (start v).args in whole a.node a.lent a.draws.now

abbrev reached : lts.After-verdict_at tie.the-claims reads.Pre reads.Post goal.the-invariant-loop-i goal.the-decreases-loop-i tie.handed_clauses → Node
reached v = let at = v.loop-i in current (start v).args.node at.members at.departed at.alive at.deceased

room : (v : lts.After-verdict_at tie.the-claims reads.Pre reads.Post goal.the-invariant-loop-i goal.the-decreases-loop-i tie.handed_clauses) → v.loop-i.report.count < 65
room v = omega (arith, is-due v.before.before, v.loop-i.invariant.1, (start v).requires.1.few)

abbrev where-stopped : lts.Start tie.the-claims reads.Pre reads.Post goal.the-invariant-loop-i goal.the-decreases-loop-i tie.handed_clauses → Cause
where-stopped s = let a = s.args in stops a.node a.lent a.draws.now

-- the verdict, and what is ahead of it
abbrev verdict : lts.After-verdict_at tie.the-claims reads.Pre reads.Post goal.the-invariant-loop-i goal.the-decreases-loop-i tie.handed_clauses → handler.Verdict Addr
verdict v =
    let a = (start v).args in
    let at = v.loop-i in
    verdict_at a.node.own (view_members at.members).table (deaths_of a.node.settings.remember at.departed at.deceased) (records a.lent) (to_optional a.lent.sender) at.i

abbrev rule : lts.After-verdict_at tie.the-claims reads.Pre reads.Post goal.the-invariant-loop-i goal.the-decreases-loop-i tie.handed_clauses → M.Node Addr → List ℕ → Answer (M.Out Addr)
rule v = let a = (start v).args in turn (to_optional a.lent.sender) (records a.lent) v.loop-i.i

abbrev after : lts.After-verdict_at tie.the-claims reads.Pre reads.Post goal.the-invariant-loop-i goal.the-decreases-loop-i tie.handed_clauses → M.Node Addr → List ℕ → Answer (M.Out Addr)
after v = let a = (start v).args in ahead (to_optional a.lent.sender) (records a.lent) (v.loop-i.i + 1)

due : (v : lts.After-verdict_at tie.the-claims reads.Pre reads.Post goal.the-invariant-loop-i goal.the-decreases-loop-i tie.handed_clauses)
    → Sofar (all v) (λ m ds. M.and_more (rule v m ds) (after v)) (start v).args.draws.now v.loop-i.used (reached v) v.loop-i.report
due v =
    let a = (start v).args in
    let at = v.loop-i in
    sofar_next (to_optional a.lent.sender) (records a.lent) (all v) a.draws.now at.used at.i (reached v) at.report at.invariant.3 (omega (arith, many (start v), is-due v.before.before))

-- it is the rules' own
is-verdict : (v : lts.After-verdict_at tie.the-claims reads.Pre reads.Post goal.the-invariant-loop-i goal.the-decreases-loop-i tie.handed_clauses) → to_verdict v.verdict_at-verdict.result ≡ verdict v
is-verdict v = ap to_verdict v.verdict_at-verdict.ensures ∙ to_from_verdict (verdict v)

is-list : (l : lts.After-list_after tie.the-claims reads.Pre reads.Post goal.the-invariant-loop-i goal.the-decreases-loop-i tie.handed_clauses) → let at = l.loop-i in l.list_after-kept.result ≡ list_after_of (start l.before.before.before.before).args.node.own at.members (verdict l.before.before.before.before) (start l.before.before.before.before).args.draws.now at.used
is-list l =
    let at = l.loop-i in
    l.list_after-kept.ensures ∙ ap (λ (x : handler.Verdict Addr). list_after_of (start l.before.before.before.before).args.node.own at.members x (start l.before.before.before.before).args.draws.now at.used) (is-verdict l.before.before.before.before)

is-news : (w : lts.After-news_of tie.the-claims reads.Pre reads.Post goal.the-invariant-loop-i goal.the-decreases-loop-i tie.handed_clauses) → to_news w.news_of-news.result ≡ handler.news_of here (verdict w.before.before.before.before.before.before.before) (start w.before.before.before.before.before.before.before).args.node.own
is-news w =
    let own = (start w.before.before.before.before.before.before.before).args.node.own in
    ap to_news w.news_of-news.ensures ∙ to_from_news (handler.news_of here (to_verdict w.verdict_at-verdict.result) own) ∙ ap (λ (x : handler.Verdict Addr). handler.news_of here x own) (is-verdict w.before.before.before.before.before.before.before)

abbrev news : lts.After-verdict_at tie.the-claims reads.Pre reads.Post goal.the-invariant-loop-i goal.the-decreases-loop-i tie.handed_clauses → handler.News Addr
news v = handler.news_of here (verdict v) (start v).args.node.own

-- how many held events the news outdates
abbrev old : lts.After-verdict_at tie.the-claims reads.Pre reads.Post goal.the-invariant-loop-i goal.the-decreases-loop-i tie.handed_clauses → ℕ
old v = collects_for (start v).args.node.settings.collect (news v) (heap_view v.loop-i.alive)

is-old : (o : lts.After-old_news tie.the-claims reads.Pre reads.Post goal.the-invariant-loop-i goal.the-decreases-loop-i tie.handed_clauses) → o.old_news-old.result ≡ old o.before.before.before.before.before.before.before.before
is-old o =
    let at = o.loop-i in
    o.old_news-old.ensures.value ∙ ap (λ (w : handler.News Addr). collects_for (start o.before.before.before.before.before.before.before.before).args.node.settings.collect w (heap_view at.alive)) (is-news o.before)

few-old : (o : lts.After-old_news tie.the-claims reads.Pre reads.Post goal.the-invariant-loop-i goal.the-decreases-loop-i tie.handed_clauses) → o.old_news-old.result ≤ 128
few-old o =
    let at = o.loop-i in
    omega (arith, o.old_news-old.ensures.within, at.invariant.3.ready.heaps.alive.few)

-- is the heap full that the news goes to
is_full : (f : lts.After-finds_full tie.the-claims reads.Pre reads.Post goal.the-invariant-loop-i goal.the-decreases-loop-i tie.handed_clauses) → let at = f.loop-i in f.finds_full.result ≡ finds_full (news f.before.before.before.before.before.before.before.before.before.before) (at.alive.len - old f.before.before.before.before.before.before.before.before.before.before) at.deceased.len
is_full f =
    let at = f.loop-i in
    f.finds_full.ensures ∙ (λ i. finds_full (is-news f.before.before.before i) (at.alive.len - is-old f.before.before i) at.deceased.len)

-- a lent row's length is a number of the machine
fits : (s : lts.Start tie.the-claims reads.Pre reads.Post goal.the-invariant-loop-i goal.the-decreases-loop-i tie.handed_clauses) → Fits w64 (length s.args.draws.now)
fits s = search rules

-- a rule that is refused is refused in the whole, where its turn was
stopped : (v : lts.After-verdict_at tie.the-claims reads.Pre reads.Post goal.the-invariant-loop-i goal.the-decreases-loop-i tie.handed_clauses) (u : Refusal) → rule v (view_node (reached v)) (drop v.loop-i.used (start v).args.draws.now) ≡ refused u
    → refused_heard (start v).args.node u (handler.cause_at v.loop-i.i (start v).args.lent.given)
    ≡ heard_of (start v).args.node (start v).args.draws.now (where-stopped (start v)) (all v)
stopped v u e =
    let a = (start v).args in
    let at = v.loop-i in
    let here_at : where-stopped (start v) ≡ handler.cause_at at.i a.lent.given =
    counted_stops (to_optional a.lent.sender) (records a.lent) (view_node a.node) a.draws.now at.used at.i (reached v) at.invariant.2 (omega (arith, many (start v), is-due v.before.before)) u e
    ∙ ap (handler.cause_at at.i) (many (start v)) in
    let said : all v ≡ refused u = sofar_refused (all v) a.draws.now (reached v) at.report at.used (rule v) (after v) (due v) u e in
    (λ i. refused_heard a.node u (sym here_at i)) ∙ sym (ap (heard_of a.node a.draws.now (where-stopped (start v))) said)

abbrev told : lts.Else3 tie.the-claims reads.Pre reads.Post goal.the-invariant-loop-i goal.the-decreases-loop-i tie.handed_clauses → lts.After-verdict_at tie.the-claims reads.Pre reads.Post goal.the-invariant-loop-i goal.the-decreases-loop-i tie.handed_clauses
told f = f.before.before.before.before.before.before.before.before.before.before.before

abbrev said : lts.Else3 tie.the-claims reads.Pre reads.Post goal.the-invariant-loop-i goal.the-decreases-loop-i tie.handed_clauses → handler.News Addr
said f = to_news f.news_of-news.result

has_room : (f : lts.Else3 tie.the-claims reads.Pre reads.Post goal.the-invariant-loop-i goal.the-decreases-loop-i tie.handed_clauses) (k : Kind) → let at = f.loop-i in RoomFor k (said f) (of_kind k (at.alive.len - f.old_news-old.result) at.deceased.len)
has_room f k =
    let at = f.loop-i in
    room_for (said f) k (at.alive.len - f.old_news-old.result) at.deceased.len (sym f.finds_full.ensures ∙ f.if-finds_full.false)

-- the alive heap without what the news outdates, cleared or as it came
is-cleared : (j : lts.Joined4 tie.the-claims reads.Pre reads.Post goal.the-invariant-loop-i goal.the-decreases-loop-i tie.handed_clauses) → j.if-old-gt0.alive ≡ cleared_for j.old_news-old.result (said j.before) j.loop-i.alive
is-cleared j =
    let alive = j.loop-i.alive in
    elim j.if-old-gt0.branch [
      | then-old-gt0 w ↦ w.alive-is ∙ w.clear-alive.ensures
      | else-old-gt0 w ↦
          let none : j.old_news-old.result ≡ 0 = omega (arith, w.if-old-gt0.false) in
          w.alive-is ∙ sym (ap (λ (n : ℕ). cleared_for n (said j.before) alive) none ∙ cleared-none (said j.before) alive)
    ]

-- it is whole, and has room
clear-there : (j : lts.Joined4 tie.the-claims reads.Pre reads.Post goal.the-invariant-loop-i goal.the-decreases-loop-i tie.handed_clauses) → let at = j.loop-i in
    j.if-old-gt0.alive ≡ cleared_for (collects_for (start (told j.before)).args.node.settings.collect (said j.before) (heap_view at.alive)) (said j.before) at.alive
clear-there j =
    let at = j.loop-i in
    is-cleared j ∙ ap (λ (n : ℕ). cleared_for n (said j.before) at.alive) j.old_news-old.ensures.value

-- Where the news has been told: the alive heap, the deceased heap and the row of the departed, changed or as they came
module _ (p : lts.Joined5 tie.the-claims reads.Pre reads.Post goal.the-invariant-loop-i goal.the-decreases-loop-i tie.handed_clauses) where
  abbrev open-to : lts.Else3 tie.the-claims reads.Pre reads.Post goal.the-invariant-loop-i goal.the-decreases-loop-i tie.handed_clauses
  open-to = p.before.before.before

  abbrev judged : lts.After-verdict_at tie.the-claims reads.Pre reads.Post goal.the-invariant-loop-i goal.the-decreases-loop-i tie.handed_clauses
  judged = told open-to

  is-alive : p.if-goes_to.alive ≡ told_to kind.Alive (said open-to) (cleared_for p.old_news-old.result (said open-to) p.loop-i.alive)
  is-alive =
      elim p.if-goes_to.branch [
        | then-goes_to w ↦ w.alive-is ∙ w.tell-alive.ensures ∙ ap (told_to kind.Alive (said open-to)) (is-cleared p.before.before)
        | else-goes_to w ↦ w.alive-is ∙ is-cleared p.before.before ∙ sym (told_elsewhere kind.Alive (said open-to) _ (sym p.goes_to.ensures ∙ w.if-goes_to.false))
      ]

  is-deceased : p.if-goes_to.deceased ≡ told_to kind.Deceased (said open-to) p.loop-i.deceased
  is-deceased =
      elim p.if-goes_to.branch [
        | then-goes_to w ↦ w.deceased-is ∙ sym (told_elsewhere kind.Deceased (said open-to) _ (living-only (said open-to) (sym p.goes_to.ensures ∙ w.if-goes_to.true)))
        | else-goes_to w ↦ w.deceased-is ∙ w.tell-deceased.ensures
      ]

  is_row : let at = p.loop-i in p.if-goes_to.departed ≡ pack_departed (handler.row_after here (verdict judged) (view_members at.members).table (departed_view at.departed))
  is_row =
      let at = p.loop-i in
      elim p.if-goes_to.branch [
        | then-goes_to w ↦
            let living : goes_to kind.Alive (news judged) ≡ true = sym (ap (goes_to kind.Alive) (is-news open-to.before.before.before.before)) ∙ sym p.goes_to.ensures ∙ w.if-goes_to.true in
            w.departed-is ∙ row_stays (reached judged) at.invariant.3.ready (verdict judged) living
        | else-goes_to w ↦
            w.departed-is ∙ w.row_after-departed.ensures ∙ ap (λ (x : handler.Verdict Addr). pack_departed (handler.row_after here x (view_members at.members).table (departed_view at.departed))) (is-verdict judged)
      ]

pub loop-i-init : goal.loop-i-init
loop-i-init c =
    let a = c.args in (
      omega arith,
      omega (arith, ap (λ (x : Report). x.count) c.no_report-report.ensures),
      record { count = λ h. omega arith },
      rw c.no_report-report.ensures (sofar_start (whole a.node a.lent a.draws.now) a.draws.now a.node (ahead (to_optional a.lent.sender) (records a.lent) 0) c.requires.0 refl),
      omega (arith, ap (λ (x : Report). x.collected) c.no_report-report.ensures),
    )

pub verdict_at-verdict-requires : goal.verdict_at-verdict-requires
verdict_at-verdict-requires c =
    let r = c.loop-i.invariant.3.ready in
    (r.members, r.departed, r.heaps.deceased, c.requires.1)

pub overflow_add-i : goal.overflow_add-i
overflow_add-i c = omega (arith, is-due c.before.before.before.before.before, (start c.before.before.before).requires.1.few)

pub loop-i-smaller-then-leaves_all : goal.loop-i-smaller-then-leaves_all
loop-i-smaller-then-leaves_all c = omega (arith, is-due c.before.before.before.before.before)

-- a verdict that leaves all as it is: the turn is over
pub loop-i-preserved-then-leaves_all : goal.loop-i-preserved-then-leaves_all
unfolding view_node
loop-i-preserved-then-leaves_all c =
    let s = start c.before.before.before in
    let a = s.args in
    let at = c.loop-i in
    let leaves = sym (ap leaves_all (is-verdict c.before.before.before)) ∙ sym c.leaves_all.ensures ∙ c.if-leaves_all.true in
    let acted = act-leaves (reached c.before.before.before) at.invariant.3.ready (verdict c.before.before.before) a.draws.now at.used at.invariant.3.within leaves in
    let keeps = turn-keeps (to_optional a.lent.sender) (records a.lent) at.i (view_node (reached c.before.before.before)) (drop at.used a.draws.now) at.invariant.3.ready.good s.requires.1.valid s.requires.2 in (
      omega (arith, is-due c.before.before.before.before.before),
      omega (arith, at.invariant.1),
      counted_next (to_optional a.lent.sender) (records a.lent) (view_node a.node) a.draws.now at.used at.i (reached c.before.before.before) at.invariant.2 handler.Silent 0 (reached c.before.before.before) at.used keeps acted,
      sofar_more (all c.before.before.before) a.draws.now (reached c.before.before.before) at.report at.used (rule c.before.before.before) (after c.before.before.before) (due c.before.before.before) handler.Silent 0 (reached c.before.before.before) at.used (omega arith) keeps (room c.before.before.before) acted,
      omega (arith, at.invariant.4),
    )

pub list_after-kept-requires : goal.list_after-kept-requires
list_after-kept-requires c = let at = c.loop-i in (at.invariant.3.ready.members, at.invariant.3.ready.lamps, at.invariant.3.within)

pub overflow_add-used : goal.overflow_add-used
overflow_add-used c =
    let at = c.loop-i in
    omega (
      arith,
      (fits (start c.before.before.before.before.before.before)).fits,
      drawn_within (reached c.before.before.before.before.before.before) at.invariant.3.ready (verdict c.before.before.before.before.before.before) (start c.before.before.before.before.before.before).args.draws.now at.used at.invariant.3.within c.list_after-kept.result (is-list c.before.before) c.in-Used.more c.in-Used.is,
    )

pub returns-in-Refused : goal.returns-in-Refused
unfolding view_node
returns-in-Refused c =
    let a = (start c.before.before.before.before.before.before.before).args in
    let at = c.loop-i in
    let e = act-refused (reached c.before.before.before.before.before.before.before) at.invariant.3.ready (verdict c.before.before.before.before.before.before.before) a.draws.now at.used at.invariant.3.within c.list_after-kept.result (is-list c.before.before.before) _ c.in-Refused.is in
    c.refused.ensures ∙ stopped c.before.before.before.before.before.before.before _ e

pub old_news-old-requires : goal.old_news-old-requires
old_news-old-requires c = c.loop-i.invariant.3.ready.heaps.alive

pub overflow_sub-alive : goal.overflow_sub-alive
overflow_sub-alive c = c.old_news-old.ensures.within

pub returns-then-finds_full : goal.returns-then-finds_full
unfolding view_node
returns-then-finds_full c =
    let a = (start c.before.before.before.before.before.before.before.before.before.before.before.before.before.before).args in
    let at = c.loop-i in
    let e = act-full (reached c.before.before.before.before.before.before.before.before.before.before.before.before.before.before) at.invariant.3.ready (verdict c.before.before.before.before.before.before.before.before.before.before.before.before.before.before) a.draws.now at.used at.invariant.3.within c.list_after-kept.result (is-list c.before.before.before.before.before.before.before.before.before.before) c.in-Used.more c.in-Used.is (sym (is_full c.before.before.before.before) ∙ c.if-finds_full.true) in
    let full : c.full_heap.result ≡ full_for (news c.before.before.before.before.before.before.before.before.before.before.before.before.before.before) = c.full_heap.ensures ∙ ap full_for (is-news c.before.before.before.before.before.before.before) in
    c.refused-then-finds_full.ensures ∙ ap (λ (u : Refusal). refused_heard a.node u (handler.cause_at at.i a.lent.given)) full ∙ stopped c.before.before.before.before.before.before.before.before.before.before.before.before.before.before (full_for (news c.before.before.before.before.before.before.before.before.before.before.before.before.before.before)) e

pub clear-alive-requires : goal.clear-alive-requires
clear-alive-requires c = c.loop-i.invariant.3.ready.heaps.alive

pub tell-alive-requires : goal.tell-alive-requires
tell-alive-requires c =
    let at = c.loop-i in
    let on = (start (told c.before.before.before.before)).args.node.settings.collect in
    let fits = cleared_fits on (said c.before.before.before.before) at.alive at.invariant.3.ready.heaps.alive in
    let long : at.alive.len - c.old_news-old.result ≡ c.if-old-gt0.alive.len =
    ap (λ (n : ℕ). at.alive.len - n) c.old_news-old.ensures.value ∙ sym (ap (λ (h : Heap). h.len) (clear-there c.before.before.before) ∙ fits.1) in
    (subst Packed (sym (clear-there c.before.before.before)) fits.0, subst (RoomFor kind.Alive (said c.before.before.before.before)) long (has_room c.before.before.before.before kind.Alive))

pub row_after-departed-requires : goal.row_after-departed-requires
row_after-departed-requires c = let r = c.loop-i.invariant.3.ready in (r.departed, r.members)

pub tell-deceased-requires : goal.tell-deceased-requires
tell-deceased-requires c = (c.loop-i.invariant.3.ready.heaps.deceased, has_room c.before.before.before.before.before kind.Deceased)

pub note-report-requires : goal.note-report-requires
note-report-requires c =
    let v = told c.before.before.before.before.before in
    let at = c.loop-i in
    (room v, omega (arith, at.invariant.4, is-due v.before.before, (start v).requires.1.few), few-old c.before.before.before.before.before.before.before.before)

pub overflow_add-i-in-loop-i : goal.overflow_add-i-in-loop-i
overflow_add-i-in-loop-i c = let v = told c.before.before.before.before.before.before in omega (arith, is-due v.before.before, (start v).requires.1.few)

pub loop-i-smaller : goal.loop-i-smaller
loop-i-smaller c = omega (arith, is-due (told c.before.before.before.before.before.before).before.before)

pub loop-i-preserved : goal.loop-i-preserved
unfolding view_node
loop-i-preserved c =
    let s = start c.before.before.before.before.before.before.before.before.before.before.before.before.before.before.before.before.before in
    let a = s.args in
    let at = c.loop-i in
    let w = news c.before.before.before.before.before.before.before.before.before.before.before.before.before.before.before.before.before in
    let n : c.note-report.result ≡ noted at.report w (old c.before.before.before.before.before.before.before.before.before.before.before.before.before.before.before.before.before) = c.note-report.ensures ∙ (λ i. noted at.report (is-news c.before.before.before.before.before.before.before.before.before.before i) (is-old c.before.before.before.before.before.before.before.before.before i)) in
    let departed = c.if-goes_to.departed in
    let alive = c.if-goes_to.alive in
    let deceased = c.if-goes_to.deceased in
    let more = c.in-Used.more in
    let acted = act_done (reached c.before.before.before.before.before.before.before.before.before.before.before.before.before.before.before.before.before) at.invariant.3.ready (verdict c.before.before.before.before.before.before.before.before.before.before.before.before.before.before.before.before.before) a.draws.now at.used at.invariant.3.within c.list_after-kept.result (is-list c.before.before.before.before.before.before.before.before.before.before.before.before.before) more c.in-Used.is departed alive deceased (is_row c.before.before.before) (is-alive c.before.before.before ∙ (λ i. told_to kind.Alive (is-news c.before.before.before.before.before.before.before.before.before.before i) (cleared_for (is-old c.before.before.before.before.before.before.before.before.before i) (is-news c.before.before.before.before.before.before.before.before.before.before i) at.alive))) (is-deceased c.before.before.before ∙ ap (λ (x : handler.News Addr). told_to kind.Deceased x at.deceased) (is-news c.before.before.before.before.before.before.before.before.before.before)) (sym (is_full c.before.before.before.before.before.before.before) ∙ c.if-finds_full.false) in
    let counts = noted_collected at.report w a.node.settings.collect (heap_view at.alive) in
    let keeps = turn-keeps (to_optional a.lent.sender) (records a.lent) at.i (view_node (reached c.before.before.before.before.before.before.before.before.before.before.before.before.before.before.before.before.before)) (drop at.used a.draws.now) at.invariant.3.ready.good s.requires.1.valid s.requires.2 in (
      omega (arith, is-due c.before.before.before.before.before.before.before.before.before.before.before.before.before.before.before.before.before.before.before),
      omega (arith, ap (λ (x : Report). x.count) n, noted_few at.report w (old c.before.before.before.before.before.before.before.before.before.before.before.before.before.before.before.before.before), at.invariant.1),
      counted_next (to_optional a.lent.sender) (records a.lent) (view_node a.node) a.draws.now at.used at.i (reached c.before.before.before.before.before.before.before.before.before.before.before.before.before.before.before.before.before) at.invariant.2 w (old c.before.before.before.before.before.before.before.before.before.before.before.before.before.before.before.before.before) (current a.node c.list_after-kept.result.members departed alive deceased) (at.used + more) keeps acted,
      rw n (sofar_more (all c.before.before.before.before.before.before.before.before.before.before.before.before.before.before.before.before.before) a.draws.now (reached c.before.before.before.before.before.before.before.before.before.before.before.before.before.before.before.before.before) at.report at.used (rule c.before.before.before.before.before.before.before.before.before.before.before.before.before.before.before.before.before) (after c.before.before.before.before.before.before.before.before.before.before.before.before.before.before.before.before.before) (due c.before.before.before.before.before.before.before.before.before.before.before.before.before.before.before.before.before) w (old c.before.before.before.before.before.before.before.before.before.before.before.before.before.before.before.before.before) (current a.node c.list_after-kept.result.members departed alive deceased) (at.used + more) counts keeps (room c.before.before.before.before.before.before.before.before.before.before.before.before.before.before.before.before.before) acted),
      omega (arith, ap (λ (x : Report). x.collected) n, counts, is-old c.before.before.before.before.before.before.before.before.before, few-old c.before.before.before.before.before.before.before.before.before, at.invariant.4),
    )

pub returns : goal.returns
returns c =
    let at = c.loop-i in
    let a = c.args in
    let all = whole a.node a.lent a.draws.now in
    let n = current a.node at.members at.departed at.alive at.deceased in
    c.all_heard.ensures ∙ sofar_ends all a.draws.now a.node n (stops a.node a.lent a.draws.now) at.report at.used
    (sofar_over (to_optional a.lent.sender) (records a.lent) all a.draws.now at.used at.i n at.report at.invariant.3 (omega (arith, many c.before.before.before.before.before.before.before.before.before.before.before, c.loop-i-test.false)))
