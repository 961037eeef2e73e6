-- `rules::list_after` meets its contract: a verdict at a time.
-- Assumes nothing.
-- the list after each verdict
use mathlib.Core.Path.{◌≡◌, ap, sym, ◌∙◌}
use Prim.Native.Nat.{◌-◌}
use native.Mathlib.Omega.{arith}
use lib.ListN.{length, drop, length-drop}
use borrow.Author.Rules.{rules}
use Rattle.model.specs.declared.Drew.TheVariants.{Used}
use Rattle.address.specs.Here.{Addr}
use Rattle.model.specs.Answers.{done}
use Rattle.model.specs.Members.{Members}
use Rattle.model.specs.Handler as M
use Rattle.member.specs.declared.Kept.{Kept}
use Rattle.member.specs.Views.{view_members, pack_members, kept_as}
use Rattle.member.specs.Packing.{pack_view}
use Rattle.rules.specs.declared.Verdict.{Verdict}
use Rattle.rules.specs.Views.{to_verdict, stayed, list_after_of}
use Rattle.rules.proofs.list_after.Lts as lts
use Rattle.rules.proofs.list_after.Tie as tie
use Rattle.rules.proofs.list_after.Reads as reads
use Rattle.rules.proofs.list_after.Goals as goal

abbrev after : lts.Start tie.the-claims reads.Pre reads.Post → Verdict → Kept
after s v = list_after_of s.args.own s.args.members (to_verdict v) s.args.draws.now s.args.from

-- a list that no draw was needed for
changes : (s : lts.Start tie.the-claims reads.Pre reads.Post) (l : Members Addr) → stayed (pack_members s.args.own l) ≡ kept_as s.args.own s.args.members (length s.args.draws.now - s.args.from) (done l (drop s.args.from s.args.draws.now))
changes s l =
    let e : 0 ≡ length s.args.draws.now - s.args.from - length (drop s.args.from s.args.draws.now) = omega (arith, length-drop s.args.from s.args.draws.now) in
    λ i. record { members = pack_members s.args.own l; drew = Used (e i) }

stays : (s : lts.Start tie.the-claims reads.Pre reads.Post) → stayed s.args.members ≡ kept_as s.args.own s.args.members (length s.args.draws.now - s.args.from) (done (view_members s.args.members) (drop s.args.from s.args.draws.now))
stays s = ap stayed (sym (pack_view s.args.own s.args.members s.requires.0.packed s.requires.1)) ∙ changes s (view_members s.args.members)

pub returns-in-Skip : goal.returns-in-Skip
unfolding M.list_after
returns-in-Skip c = c.kept.ensures ∙ stays c.before.before.before.before ∙ sym (ap (after c.before.before.before.before) c.in-Skip.is)

pub returns-in-Unknown : goal.returns-in-Unknown
unfolding M.list_after
returns-in-Unknown c = c.kept-in-Unknown.ensures ∙ stays c.before.before.before.before ∙ sym (ap (after c.before.before.before.before) c.in-Unknown.is)

pub returns-in-Equal : goal.returns-in-Equal
unfolding M.list_after
returns-in-Equal c = c.kept-in-Equal.ensures ∙ stays c.before.before.before.before ∙ sym (ap (after c.before.before.before.before) c.in-Equal.is)

pub returns-in-Low : goal.returns-in-Low
unfolding M.list_after
returns-in-Low c = c.kept-in-Low.ensures ∙ stays c.before.before.before.before ∙ sym (ap (after c.before.before.before.before) c.in-Low.is)

pub returns-in-AtEnd : goal.returns-in-AtEnd
unfolding M.list_after
returns-in-AtEnd c = sym (ap (after c.before.before.before) c.in-AtEnd.is)

pub returns-in-Refute : goal.returns-in-Refute
unfolding M.list_after
returns-in-Refute c = c.kept-in-Refute.ensures ∙ stays c.before.before.before.before ∙ sym (ap (after c.before.before.before.before) c.in-Refute.is)

pub returns-in-Enter : goal.returns-in-Enter
unfolding M.list_after
returns-in-Enter c = c.add_member.ensures ∙ sym (ap (after c.before.before.before.before) c.in-Enter.is)

pub returns-in-Raise : goal.returns-in-Raise
unfolding M.list_after
returns-in-Raise c = c.kept-in-Raise.ensures ∙ ap stayed c.raise_number.ensures ∙ changes c.before.before.before.before.before _ ∙ sym (ap (after c.before.before.before.before.before) c.in-Raise.is)

pub returns-in-Recover : goal.returns-in-Recover
unfolding M.list_after
returns-in-Recover c = c.set.ensures ∙ changes c.before.before.before.before _ ∙ sym (ap (after c.before.before.before.before) c.in-Recover.is)

pub returns-in-Suspect : goal.returns-in-Suspect
unfolding M.list_after
returns-in-Suspect c = c.set-in-Suspect.ensures ∙ changes c.before.before.before.before _ ∙ sym (ap (after c.before.before.before.before) c.in-Suspect.is)

pub returns-in-Bury : goal.returns-in-Bury
unfolding M.list_after
returns-in-Bury c = c.kept-in-Bury.ensures ∙ ap stayed c.remove_member.ensures ∙ changes c.before.before.before.before.before _ ∙ sym (ap (after c.before.before.before.before.before) c.in-Bury.is)
