-- What a count of draws says of a rule's answer: so a caller that matches on it knows which answer it has.
-- Assumes nothing.
use Rattle.std.specs.Prelude.{◌≡◌, refl, List, ℕ, ◌+◌, ◌-◌, ◌≤◌, length, drop}
use Rattle.std.proofs.Common.{ap, sym, ◌∙◌, subst, arith}
use Rattle.model.specs.declared.Refusal.{Refusal}
use Rattle.model.specs.Answers.{Answer, done, refused}
use Rattle.laws_list.specs.Draws.{Leaves, rest_is}
use Rattle.model.specs.declared.Drew.TheVariants.{Used, Refused}
use Rattle.order.specs.Views.{drew_of}

module _ {B : Type 0} (k : ℕ) where
  pub drew_refused : (x : Answer B) (r : Refusal) → drew_of k x ≡ Refused r → x ≡ refused r
  drew_refused (refused r₁) r e = cc
  drew_refused (done b rest) r e = cc

  pub drew_used : (x : Answer B) (used : ℕ) → drew_of k x ≡ Used used → (b : B) × (rest : List ℕ) × (x ≡ done b rest) × (k - length rest ≡ used)
  drew_used (refused r) used e = let z : ◌≡◌ {A = ℕ} 0 1 = cc in absurd (omega arith)
  drew_used (done b rest) used e = (b, rest, refl, cc)

-- a rule that was done: what it gave, and that the draws are read on where it left them
pub record Done {B : Type 0} (x : Answer B) (draws : List ℕ) (from used : ℕ) : Type 0 where
  pub gave : B
  pub rest : List ℕ
  pub is : x ≡ done gave rest
  pub next : drop (from + used) draws ≡ rest
  pub within : from + used ≤ length draws

pub drew_done : {B : Type 0} (x : Answer B) (draws : List ℕ) (from used : ℕ) → from ≤ length draws → Leaves (drop from draws) x
    → drew_of (length draws - from) x ≡ Used used → Done x draws from used
drew_done x draws from used h l e =
    let a = drew_used (length draws - from) x used e in
    let l' : Leaves (drop from draws) (done a.0 a.1) = subst (λ y. Leaves (drop from draws) y) a.2 l in
    record {
      gave = a.0;
      rest = a.1;
      is = a.2;
      next = ap (λ (u : ℕ). drop (from + u) draws) (sym a.3) ∙ rest_is draws from h l';
      within = omega (arith, a.3);
    }
