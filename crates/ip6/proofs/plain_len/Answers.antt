-- `ip6::plain_len` meets its contract.
-- Assumes nothing.
use Rattle.ip6.specs.Lengths.{one_if, plain-short, plain-left, left-least}
use Prim.Native.Nat.{ℕ, ◌+◌, ◌-◌}
use borrow.Author.Rules.{rules}
use native.Mathlib.Omega.{arith}
use mathlib.Core.Path.{◌≡◌, refl, ap, sym, ◌∙◌}
use Rattle.ip6.proofs.plain_len.Goals as goal

pub returns-then-s-lt2 : goal.returns-then-s-lt2
returns-then-s-lt2 c = (plain-short _ (search rules), search rules, search rules)

pub returns : goal.returns
returns c =
    let s = c.args.s in
    let x = c.one_if-first.ensures.0 in
    let y = c.one_if-last.ensures.0 in
    let w = left-least s (search rules) in (
      ap (λ (a : ℕ). s.digits - s.longest + (8 - s.longest + a + c.one_if-last.result)) x
          ∙ ap (λ (b : ℕ). s.digits - s.longest + (8 - s.longest + one_if s.place 0 + b)) y
          ∙ plain-left s (search rules),
      omega arith,
      omega arith,
    )
