-- Verdicts in the code and in the rules: a choice between them, and a number plus one.
-- Assumes nothing.
use mathlib.Core.Path.{◌≡◌, refl, ap, sym, ◌∙◌}
use mathlib.Core.Bool.{Bool, true, false}
use mathlib.Core.Option.{Option, none, some}
use Prim.Native.Nat.{ℕ}
use native.Mathlib.Omega.{arith}
use Rattle.address.specs.Here.{Addr}
use Rattle.model.specs.Rows.{pick}
use Rattle.model.specs.Handler as M
use Rattle.disseminate.specs.declared.Found.{Found}
use Rattle.disseminate.specs.declared.Found.TheVariants.{Missing, At}
use Rattle.disseminate.specs.Views.{from_found}
use Rattle.member.specs.declared.Standing.{Standing}
use Rattle.rules.specs.declared.Verdict.{Verdict}
use Rattle.rules.specs.declared.Verdict.TheVariants.{AtEnd}
use Rattle.rules.specs.Views.{from_verdict}

-- a choice between verdicts of the code is the rule's choice
pub chosen : (u : Bool) (x y : M.Verdict Addr) → pick u (from_verdict x) (from_verdict y) ≡ from_verdict (pick u x y)
chosen true x y = refl
chosen false x y = refl

-- a verdict by what is held of an address, in the code and in the rule
pub weigh : (r : Verdict) (f g : Standing) (test : Standing → Bool) (x : M.Verdict Addr) (low : Standing → M.Verdict Addr) (absent : M.Verdict Addr)
    → r ≡ pick f.listed (pick (test f) (from_verdict x) (from_verdict (low f))) (from_verdict absent) → f ≡ g
    → r ≡ from_verdict (pick g.listed (pick (test g) x (low g)) absent)
weigh r f g test x low absent e q =
    e
    ∙ ap (λ (v : Verdict). pick f.listed v (from_verdict absent)) (chosen (test f) x (low f))
    ∙ chosen f.listed (pick (test f) x (low f)) absent
    ∙ ap (λ (h : Standing). from_verdict (pick h.listed (pick (test h) x (low h)) absent)) q

-- is there a number?
there : Found → ℕ
there Missing = 0
there (At m) = 1

pub at-end : (o : Option ℕ) (k : ℕ → M.Verdict Addr) → from_found o ≡ Missing → AtEnd ≡ from_verdict (M.or_end o k)
unfolding there
at-end none k e = refl
at-end (some n) k e = let z : ◌≡◌ {A = ℕ} 1 0 = ap there e in absurd (omega arith)

pub next : (o : Option ℕ) (k : ℕ → M.Verdict Addr) (m : ℕ) (r : Verdict) → from_found o ≡ At m → r ≡ from_verdict (k m) → r ≡ from_verdict (M.or_end o k)
unfolding there
next none k m r e p = let z : ◌≡◌ {A = ℕ} 0 1 = ap there e in absurd (omega arith)
next (some n) k m r e p = let z : ◌≡◌ {A = ℕ} n m = cc in p ∙ ap (λ (j : ℕ). from_verdict (k j)) (sym z)
