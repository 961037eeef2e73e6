-- A pick moves the order alone: the records stay as they are, and a whole list stays whole.
-- Assumes nothing.
use Rattle.std.specs.Prelude.{◌≡◌, Bool, get_or}
use Rattle.std.proofs.Math.Path.{refl, ap}
use Rattle.std.proofs.Common.{◌∙◌, arith}
use Rattle.std.proofs.Math.Bool.{true, false}
use mathlib.Core.List.{List, [], ◌∷◌, ◌++◌}
use Rattle.std.proofs.Math.Option.{Option, none, some}
use Prim.Native.Nat.{ℕ, zero, suc, ◌-◌, ◌≤◌, ◌<◌}
use Rattle.std.proofs.Math.ListN.{length}
use Rattle.model.specs.Answers.{Answer}
use Rattle.laws.specs.After.{After, halts, gives, after-when, after_then, after_both}
use Rattle.model.specs.Members.{Members, shuffle, shuffle_from, advance, Picked, passed, cap, seek, pick_from}
use Rattle.laws_list.specs.Whole.{Whole, advance-whole}

module _ {A : Type 0} (same : A → A → Bool) (blank own : A) where
  -- what a pick leaves
  pub record Turned (m m' : Members A) : Type 0 where
    pub whole : Whole same m'
    pub table : m'.table ≡ m.table

  shuffle_any : (i : ℕ) (l : List A) (ds : List ℕ) → After (λ (_ : List A). Unit {0}) (shuffle_from blank i l ds)
  shuffle_any zero l ds = gives tt
  shuffle_any (suc i) l [] = halts
  shuffle_any (suc i) l (d ∷ ds) = shuffle_any i _ ds

  advance-table : (m : Members A) (ds : List ℕ) → After (λ m'. m'.table ≡ m.table) (advance blank m ds)
  unfolding advance shuffle
  advance-table m ds =
      after-when (λ _. after_then (shuffle_any (length m.order - 1) m.order ds) (λ o rest _. gives refl)) (λ _. gives refl)

  pub advance-turned : (m : Members A) (ds : List ℕ) → Whole same m → 0 < length m.order → After (Turned m) (advance blank m ds)
  advance-turned m ds w h =
      after_both (λ m' k e. record { whole = k; table = e }) (advance-whole same blank m ds w h) (advance-table m ds)

  pub seek-turned : (f : ℕ) (e : Option A) (k : ℕ) (got : List A) (m : Members A) (ds : List ℕ) → Whole same m → k ≤ length m.table
      → After (λ p. Turned m p.members) (seek same blank own f e k got m ds)
  unfolding seek
  seek-turned f e zero got m ds w h = gives (record { whole = w; table = refl })
  seek-turned zero e (suc k) got m ds w h = gives (record { whole = w; table = refl })
  seek-turned (suc f) e (suc k) got m ds w h =
      after_then (advance-turned m ds w (omega (arith, w.long)))
      (λ m' rest v.
      let l : length m'.table ≡ length m.table = ap length v.table in
      elim (passed same blank own e (get_or m.order m.position blank)) as (λ u. After (λ (p : Picked A). Turned m p.members)
      (elim u [
        | true ↦ seek same blank own f e (suc k) got m' rest
        | false ↦ seek same blank own f e k (got ++ (get_or m.order m.position blank ∷ [])) m' rest
      ])) [
        | true ↦ then_turned v (seek-turned f e (suc k) got m' rest v.whole (omega arith))
        | false ↦ then_turned v (seek-turned f e k (got ++ (get_or m.order m.position blank ∷ [])) m' rest v.whole (omega arith))
      ])
    where
      then_turned : {m₁ m₂ : Members A} {x : Answer (Picked A)} → Turned m₁ m₂ → After (λ p. Turned m₂ p.members) x → After (λ p. Turned m₁ p.members) x
      then_turned v halts = halts
      then_turned v (gives t) = gives (record { whole = t.whole; table = t.table ∙ v.table })

  cap_le : (e : Option A) (wanted len : ℕ) → cap same blank own e wanted len ≤ len
  cap_le none wanted len = omega arith
  cap_le (some x) wanted len = omega arith

  pub pick-turned : (e : Option A) (wanted : ℕ) (m : Members A) (ds : List ℕ) → Whole same m → After (λ p. Turned m p.members) (pick_from same blank own e wanted m ds)
  unfolding pick_from
  pick-turned e wanted m ds w =
      seek-turned _ e _ [] m ds w (omega (arith, cap_le e wanted (length m.order), w.long))
