-- `node::add_peer` meets its contract: 2, 5, already, then what the list answers.
-- Assumes nothing.
-- what has passed where each test was left
use mathlib.Core.Path.{◌≡◌, refl, ap, sym, ◌∙◌}
use mathlib.Core.Bool.{true, false}
use mathlib.Core.List.{List}
use Prim.Native.Nat.{ℕ, ◌-◌, ◌≤◌}
use native.Mathlib.Omega.{arith}
use lib.ListN.{length, drop}
use borrow.Author.Rules.{rules}
use borrow.Author.Tests.{not-true, not-false}
use Rattle.address.specs.Here.{Addr, here}
use Rattle.model.specs.Node as M
use Rattle.model.specs.Sound.{sound}
use Rattle.model.specs.declared.Reply.TheVariants.{Done}
use Rattle.model.specs.Members as list
use Rattle.member.specs.declared.Kept.{Kept}
use Rattle.member.specs.Views.{added_of, kept_as}
use Rattle.node.specs.declared.Node.{Node}
use Rattle.node.specs.Views.{view_node, stored_view, plain_answer}
use Rattle.node.specs.Rows.{Ready, sound_ready}
use Rattle.node.proofs.Adding.{add_unsound, add_address, add_already, add_kept, add-refused}
use Rattle.node.proofs.add_peer.Lts as lts
use Rattle.node.proofs.add_peer.Tie as tie
use Rattle.node.proofs.add_peer.Reads as reads
use Rattle.node.proofs.add_peer.Goals as goal

sound-there : (c : lts.Else1 tie.the-claims reads.Pre reads.Post) → sound here (stored_view c.args.node) ≡ true
sound-there c = sym c.sound.ensures ∙ c.if-not-sound.false

valid-there : (c : lts.Else2 tie.the-claims reads.Pre reads.Post) → here.valid c.args.a ≡ true
valid-there c = sym c.in_range.ensures ∙ c.if-not-in_range.false

ready-there : (c : lts.Else1 tie.the-claims reads.Pre reads.Post) → Ready c.args.node
ready-there c = sound_ready c.args.node c.has_rows.ensures (sound-there c)

lists-there : (c : lts.Else3 tie.the-claims reads.Pre reads.Post) → M.lists here c.args.a (view_node c.args.node) ≡ false
unfolding view_node
lists-there c = sym c.lists.ensures ∙ c.if-lists.false

-- all draws are there yet
added : (n : Node) (a : Addr) (number : ℕ) (draws : List ℕ) (k : Kept) → k ≡ added_of n.own n.members a number draws 0 → k ≡ kept_as n.own n.members (length draws) (list.add here.same a number (view_node n).members draws)
unfolding view_node
added n a number draws k e = e ∙ ap (λ (m : ℕ). kept_as n.own n.members m (list.add here.same a number (view_node n).members draws)) (omega arith)

pub returns-then-not-sound : goal.returns-then-not-sound
returns-then-not-sound c =
    let a = c.args in
    c.refused.ensures ∙ add_unsound a.node a.a a.number a.draws.now (sym c.sound.ensures ∙ c.if-not-sound.true)

pub returns-then-not-in_range : goal.returns-then-not-in_range
returns-then-not-in_range c =
    let a = c.args in
    c.refused-then-not-in_range.ensures ∙ add_address a.node a.a a.number a.draws.now (sound-there c.before.before.before.before) (sym c.in_range.ensures ∙ c.if-not-in_range.true)

pub lists-requires : goal.lists-requires
lists-requires c = (ready-there c.before.before.before.before).members

pub returns-then-lists : goal.returns-then-lists
unfolding view_node
returns-then-lists c =
    let a = c.args in
    c.plain.ensures ∙ add_already a.node a.a a.number a.draws.now (sound-there c.before.before.before.before.before.before.before) (valid-there c.before.before.before.before.before) (sym c.lists.ensures ∙ c.if-lists.true)

pub add_member-kept-requires : goal.add_member-kept-requires
add_member-kept-requires c = let r = ready-there c.before.before.before.before.before.before.before in (r.members, r.lamps, omega arith)

pub returns-in-Used : goal.returns-in-Used
returns-in-Used c =
    let a = c.args in
    let q = added a.node a.a a.number a.draws.now c.add_member-kept.result c.add_member-kept.ensures in
    c.plain-in-Used.ensures
    ∙ ap (plain_answer (Done c.in-Used.used)) c.with_members.ensures
    ∙ add_kept a.node a.a a.number a.draws.now (sound-there c.before.before.before.before.before.before.before.before.before.before.before.before) (valid-there c.before.before.before.before.before.before.before.before.before.before) (ready-there c.before.before.before.before.before.before.before.before.before.before.before.before) (lists-there c.before.before.before.before.before.before.before) _ c.add_member-kept.result.members (sym (ap (λ (y : Kept). y.drew) q) ∙ c.in-Used.is) (ap (λ (y : Kept). y.members) q)

pub returns-in-Refused : goal.returns-in-Refused
returns-in-Refused c =
    let a = c.args in
    let q = added a.node a.a a.number a.draws.now c.add_member-kept.result c.add_member-kept.ensures in
    c.refused-in-Refused.ensures
    ∙ add-refused a.node a.a a.number a.draws.now (sound-there c.before.before.before.before.before.before.before.before.before.before.before) (valid-there c.before.before.before.before.before.before.before.before.before) (ready-there c.before.before.before.before.before.before.before.before.before.before.before) (lists-there c.before.before.before.before.before.before) _ (sym (ap (λ (y : Kept). y.drew) q) ∙ c.in-Refused.is)
