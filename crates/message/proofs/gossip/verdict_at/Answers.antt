-- `message::gossip::verdict_at` meets its contract: a record, or the sender behind them.
-- Assumes nothing.
use mathlib.Core.Path.{◌≡◌, ap, sym, ◌∙◌}
use mathlib.Core.Bool.{Bool, true}
use mathlib.Core.List.{[]}
use mathlib.Core.Option.{Option}
use Prim.Native.Nat.{ℕ}
use lib.ListN.{get_or}
use borrow.Author.Rules.{rules}
use Rattle.address.specs.Here.{here}
use Rattle.model.specs.Rows as rows
use Rattle.model.specs.Node.{death_plus_one}
use Rattle.model.specs.Members as list
use Rattle.model.specs.Handler as handler
use Rattle.types.specs.declared.Optional.{Optional}
use Rattle.types.specs.Views.{to_event, to_optional, no_gossip}
use Rattle.member.specs.Views.{view_members}
use Rattle.rules.specs.declared.Verdict.{Verdict}
use Rattle.rules.specs.Views.{to_found, from_verdict, to_from_found}
use Rattle.message.specs.Views.{records_of, deaths_of, death_for, verdict_at}
use Rattle.message.specs.Hearing.{record_judged, sender_judged}
use Rattle.message.proofs.gossip.verdict_at.Lts as lts
use Rattle.message.proofs.gossip.verdict_at.Tie as tie
use Rattle.message.proofs.gossip.verdict_at.Reads as reads
use Rattle.message.proofs.gossip.verdict_at.Goals as goal

-- the verdict behind the records, by the sender
abbrev behind : lts.Start tie.the-claims reads.Pre reads.Post → Optional → Verdict
behind s o = let a = s.args in from_verdict (verdict_at a.own (view_members a.members).table (deaths_of a.on a.departed a.deceased) [] (to_optional o) 0)

last : (c : lts.Else1 tie.the-claims reads.Pre reads.Post) → let a = c.args in
    behind c.before.before a.lent.sender ≡ from_verdict (verdict_at a.own (view_members a.members).table (deaths_of a.on a.departed a.deceased) (records_of a.lent.rows a.lent.given) (to_optional a.lent.sender) a.i)
last c =
    let a = c.args in
    ap from_verdict (sender_judged a.own (view_members a.members).table (deaths_of a.on a.departed a.deceased) a.lent.rows a.lent.given c.requires.3 (to_optional a.lent.sender) a.i c.if-i-lent.false)

pub returns-then-i-lent : goal.returns-then-i-lent
returns-then-i-lent c =
    let a = c.args in
    let t = (view_members a.members).table in
    let h = deaths_of a.on a.departed a.deceased in
    let e = to_event (get_or a.lent.rows a.i no_gossip).event in
    c.judge.ensures
    ∙ ap (λ (o : Option ℕ). from_verdict (handler.judge here a.own t o e)) (ap to_found c.death_of.ensures ∙ to_from_found (death_for e h))
    ∙ ap from_verdict (record_judged a.own t h a.lent.rows a.lent.given c.requires.3 (to_optional a.lent.sender) a.i c.if-i-lent.true)

-- a sender that is listed: D makes no difference
pub returns-then-lists : goal.returns-then-lists
unfolding verdict_at handler.judge_sender
returns-then-lists c =
    let a = c.args in
    let from = c.in-Given.a in
    let t = (view_members a.members).table in
    let listed : list.listed here.same from t ≡ true = sym c.lists.ensures ∙ c.if-lists.true in
    ap from_verdict (sym (ap (λ (u : Bool). rows.pick u handler.Skip (handler.or_end (death_plus_one (deaths_of a.on a.departed a.deceased from)) (handler.Enter from))) listed))
    ∙ sym (ap (behind c.before.before.before.before.before) c.in-Given.is)
    ∙ last c.before.before.before

pub returns-in-Absent : goal.returns-in-Absent
unfolding verdict_at
returns-in-Absent c = sym (ap (behind c.before.before.before) c.in-Absent.is) ∙ last c.before

pub returns-else-lists : goal.returns-else-lists
unfolding verdict_at
returns-else-lists c =
    let a = c.args in
    let from = c.in-Given.a in
    c.judge_sender.ensures
    ∙ ap (λ (x : Option ℕ). from_verdict (handler.judge_sender here (view_members a.members).table x from)) (ap to_found c.death_of-dead.ensures ∙ to_from_found (deaths_of a.on a.departed a.deceased from))
    ∙ sym (ap (behind c.before.before.before.before.before.before.before) c.in-Given.is)
    ∙ last c.before.before.before.before.before
