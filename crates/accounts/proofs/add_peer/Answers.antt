-- `accounts::add_peer` meets its contract: where its rules ran, it was one moment.
-- Assumes nothing.
use mathlib.Core.Path.{◌≡◌, ap, sym, ◌∙◌, subst}
use Rattle.address.specs.Here.{Addr, here}
use Rattle.model.specs.Node as M
use Rattle.model.specs.Calls as calls
use Rattle.history.specs.Histories.{Add, moments}
use Rattle.node.specs.declared.Node.{Node}
use Rattle.node.specs.declared.Answer.{Answer}
use Rattle.node.specs.Views.{stored_view, unstored}
use Rattle.node.specs.Rows.{sound_ready}
use Rattle.accounts.specs.Changes.{account_of}
use Rattle.accounts.specs.Audits.{has_run, resting}
use Rattle.accounts.specs.Once.{Once, once_held, once_is, add_idle, add_once, reply_is, node_is}
use Rattle.accounts.proofs.add_peer.Lts as lts
use Rattle.accounts.proofs.add_peer.Tie as tie
use Rattle.accounts.proofs.add_peer.Reads as reads
use Rattle.accounts.proofs.add_peer.Goals as goal

abbrev start : lts.After-has_run tie.the-claims reads.Pre reads.Post → lts.Start tie.the-claims reads.Pre reads.Post
start h = h.before.before.before.before.before

abbrev outcome : lts.After-has_run tie.the-claims reads.Pre reads.Post → calls.Outcome Addr
outcome h = let a = (start h).args in calls.add_peer here (stored_view a.node) a.a a.number a.draws.now

tested : (h : lts.After-has_run tie.the-claims reads.Pre reads.Post) → h.has_run.result ≡ has_run (outcome h).reply
tested h = h.has_run.ensures ∙ ap (λ (r : Answer). has_run r.reply) h.add_peer-answer.ensures ∙ ap has_run (reply_is (outcome h))

-- the node that it handed back
after_is : (h : lts.After-has_run tie.the-claims reads.Pre reads.Post) → h.add_peer-answer.result.node ≡ unstored (outcome h).node
after_is h = ap (λ (r : Answer). r.node) h.add_peer-answer.ensures ∙ node_is (outcome h)

once : (t : lts.Then1 tie.the-claims reads.Pre reads.Post) → let a = (start t.before).args in Once (M.loaded (stored_view a.node)) t.add_peer-answer.result.node (moments here (Add a.a a.number a.draws.now) (resting a.node)) a.a a.number
once t =
    let a = (start t.before).args in
    subst (λ (m : Node). Once (M.loaded (stored_view a.node)) m (moments here (Add a.a a.number a.draws.now) (resting a.node)) a.a a.number) (sym (after_is t.before))
    (add_once a.node t.has_rows.ensures a.a a.number a.draws.now (sym (tested t.before) ∙ t.if-has_run.true)).1

pub one_change-requires : goal.one_change-requires
one_change-requires c =
    let a = (start c.before.before).args in
    let full = c.has_rows.ensures in
    let q = (add_once a.node full a.a a.number a.draws.now (sym (tested c.before.before) ∙ c.if-has_run.true)).0 in
    ((sound_ready a.node full q).members, once_held a.node _ _ a.a a.number (once c.before))

pub returns-then-has_run : goal.returns-then-has_run
returns-then-has_run c =
    let a = (start c.before.before.before).args in
    (c.add_peer-answer.ensures, once_is a.node _ _ a.a a.number (once c.before.before) c.one_change.result c.one_change.ensures)

pub returns : goal.returns
returns c =
    let a = (start c.before.before.before).args in
    (c.add_peer-answer.ensures, c.none.ensures ∙ ap account_of (sym (add_idle a.node c.has_rows.ensures a.a a.number a.draws.now (sym (tested c.before.before.before) ∙ c.if-has_run.false))))
