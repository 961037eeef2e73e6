-- `rules::joined` meets its contract: D decides the number.
-- Assumes nothing.
-- what there is at a least number
use mathlib.Core.Path.{ap, sym, ◌∙◌}
use Prim.Native.Nat.{ℕ, max}
use borrow.Author.Rules.{rules}
use Rattle.address.specs.Here.{Addr, here}
use Rattle.model.specs.Node.{death_plus_one}
use Rattle.model.specs.Handler as M
use Rattle.member.specs.Views.{view_members}
use Rattle.rules.specs.Views.{to_found, from_verdict}
use Rattle.rules.proofs.Judging.{at-end, next}
use Rattle.rules.proofs.joined.Lts as lts
use Rattle.rules.proofs.joined.Tie as tie
use Rattle.rules.proofs.joined.Reads as reads
use Rattle.rules.proofs.joined.Goals as goal

abbrev by-least : lts.Start tie.the-claims reads.Pre reads.Post → ℕ → M.Verdict Addr
by-least s least = M.joined_at here s.args.a (max least s.args.number) (view_members s.args.members).table

pub returns-in-Missing : goal.returns-in-Missing
unfolding M.joined
returns-in-Missing c =
    at-end (death_plus_one (to_found c.args.dead)) (by-least c.before.before) (sym c.death_plus_one-next.ensures ∙ c.in-Missing.is)

pub returns-in-At : goal.returns-in-At
unfolding M.joined
returns-in-At c =
    next (death_plus_one (to_found c.args.dead)) (by-least c.before.before.before.before) _ _ (sym c.death_plus_one-next.ensures ∙ c.in-At.is)
    (c.joined_at.ensures ∙ ap (λ (k : ℕ). from_verdict (M.joined_at here c.args.a k (view_members c.args.members).table)) c.greater.ensures)
