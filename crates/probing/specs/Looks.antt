-- A pick of k addresses advances at most 3k times, and 5k with an exclusion: however many looks it is allowed. What is counted are the advances of the rule `seek`: its members
-- and draws are those of so many.
-- Assumes nothing.
use Rattle.std.specs.Prelude.{◌≡◌, Bool}
use mathlib.Core.List.{List, []}
use Rattle.std.proofs.Math.Option.{Option}
use Prim.Native.Nat.{ℕ, zero, suc, ◌≤◌}
use native.Mathlib.Omega.{arith}
use Rattle.std.proofs.Math.ListN.{get_or}
use Rattle.model.specs.Rows.{pick}
use Rattle.model.specs.Answers.{Answer, done, refused, and_then}
use Rattle.model.specs.Members.{Members, Picked, advance, passed, pick_from}

module _ {A : Type 0} (same : A → A → Bool) (blank own : A) where
  -- how often a pick of k advances, if it may look f times
  unfoldable pub looks_taken : ℕ → Option A → ℕ → Members A → List ℕ → ℕ
  looks_taken zero e k m ds = 0
  looks_taken (suc f) e zero m ds = 0
  looks_taken (suc f) e (suc k) m ds =
      elim (advance blank m ds) [
        | refused r ↦ 1
        | done m' rest ↦ suc (looks_taken f e (pick (passed same blank own e (get_or m.order m.position blank)) (suc k) k) m' rest)
      ]

  -- ---- of the rule itself
  -- the order advanced n times
  abbrev pub advances : ℕ → Members A → List ℕ → Answer (Members A)
  advances zero m ds = done m ds
  advances (suc n) m ds = and_then (advance blank m ds) λ m' rest. advances n m' rest

  -- where a pick leaves the order and the draws
  abbrev pub leaves : Answer (Picked A) → Answer (Members A)
  leaves x = and_then x λ p rest. done p.members rest

  -- "a pick of k, where k is after the cap, advances the order at most 3k times without an exclusion and 5k with one": the order and the draws that a pick leaves, or its
  -- refusal, are those of n advances, and n is no greater
  abbrev pub Advances : ℕ → Option A → ℕ → Members A → List ℕ → Type 0
  Advances most e wanted r ds = (n : ℕ) × (n ≤ most) × (leaves (pick_from same blank own e wanted r ds) ≡ advances n r ds)
