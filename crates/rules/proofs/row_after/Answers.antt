-- `rules::row_after` meets its contract: one that is buried comes in, no other verdict changes the row.
-- Assumes nothing.
use mathlib.Core.Path.{◌≡◌, refl, ap, sym, ◌∙◌}
use mathlib.Core.List.{List, [], ◌∷◌}
use types.Run.{OneOf, miss}
use denote.Enum.Declared.{tag_of}
use borrow.Author.Rules.{rules}
use Rattle.address.specs.Here.{Addr, here}
use Rattle.model.specs.Words as W
use Rattle.model.specs.Handler as M
use Rattle.member.specs.Views.{view_members}
use Rattle.departed.specs.declared.DepartedRow.{DepartedRow}
use Rattle.departed.specs.Views.{departed_view, pack_departed}
use Rattle.departed.specs.Packing.{pack_back}
use Rattle.rules.specs.declared.Verdict.{Verdict}
use Rattle.rules.specs.declared.Verdict.TheVariants.{Skip, Unknown, Equal, Low, AtEnd, Refute, Enter, Raise, Recover, Suspect, Bury}
use Rattle.rules.specs.contracts.Verdict.{the_type}
use Rattle.rules.specs.Views.{to_verdict}
use Rattle.rules.proofs.row_after.Lts as lts
use Rattle.rules.proofs.row_after.Tie as tie
use Rattle.rules.proofs.row_after.Reads as reads
use Prim.Native.Nat.{ℕ}
use Rattle.rules.proofs.row_after.Goals as goal

row_stays : (t : List (W.Member Addr)) (r : List (W.Departed Addr)) (v : Verdict) → ((a : Addr) (n : ℕ) → v ≡ Bury a n → ⊥) → r ≡ M.row_after here (to_verdict v) t r
unfolding M.row_after
row_stays t r Skip p = refl
row_stays t r Unknown p = refl
row_stays t r Equal p = refl
row_stays t r Low p = refl
row_stays t r AtEnd p = refl
row_stays t r (Refute n) p = refl
row_stays t r (Enter a n) p = refl
row_stays t r (Raise a n) p = refl
row_stays t r (Recover a n) p = refl
row_stays t r (Suspect a n) p = refl
row_stays t r (Bury a n) p = absurd (p a n refl)

-- the row after a verdict
abbrev after : lts.Start tie.the-claims reads.Pre reads.Post → Verdict → DepartedRow
after s v = pack_departed (M.row_after here (to_verdict v) (view_members s.args.members).table (departed_view s.args.departed))

pub returns-in-Bury : goal.returns-in-Bury
unfolding M.row_after
returns-in-Bury c = c.leave.ensures ∙ sym (ap (after c.before.before) c.in-Bury.is)

pub returns-in_default : goal.returns-in_default
returns-in_default c =
    sym (pack_back c.args.departed c.requires.0) ∙ ap pack_departed (row_stays (view_members c.args.members).table (departed_view c.args.departed) c.args.verdict c.in_default.not-Bury)
