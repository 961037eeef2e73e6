-- HOW MANY DRAWS A PICK READS. For any type of address.
-- Assumes nothing.
use Rattle.std.specs.Prelude.{◌≡◌, Bool, eqb}
use Rattle.std.proofs.Math.Bool.{true, false}
use mathlib.Core.List.{List}
use Rattle.std.proofs.Math.Option.{Option}
use Prim.Native.Nat.{ℕ, zero, suc, ◌+◌, ◌-◌, ◌*◌, ◌%◌, ◌<◌}
use Rattle.std.proofs.Math.ListN.{length, get_or}
use Rattle.model.specs.declared.Refusal.TheVariants.{DrawsShort}
use Rattle.model.specs.Rows.{pick}
use Rattle.model.specs.Answers.{Answer, done, refused}
use Rattle.model.specs.Members.{Members, shuffle, passed, looks, cap}

-- what is read after a rule: nothing more where it was refused
abbrev pub reads_after : {B : Type 0} → Answer B → (B → List ℕ → ℕ) → ℕ
reads_after (refused r) k = 0
reads_after (done b rest) k = k b rest

module _ {A : Type 0} (same : A → A → Bool) (blank own : A) where
  -- The looks of a pick, from an order and the position in it: "each look advances", "position + 1 mod length; on 0, shuffle", and a shuffle reads length − 1 draws.
  -- k are still wanted, f looks are left; what is counted ends with the shuffle that finds too few
  unfoldable pub seek_reads : ℕ → Option A → ℕ → List A → ℕ → List ℕ → ℕ
  seek_reads zero e k order position ds = 0
  seek_reads (suc f) e zero order position ds = 0
  seek_reads (suc f) e (suc k) order position ds =
      let wanted = pick (passed same blank own e (get_or order position blank)) (suc k) k in
      let next = (position + 1) % length order in
      elim (eqb next 0) [
        | true ↦ (length order - 1) + reads_after (shuffle blank order ds) (λ shuffled rest. seek_reads f e wanted shuffled next rest)
        | false ↦ seek_reads f e wanted order next ds
      ]

  -- how many draws a pick reads
  unfoldable pub pick_reads : Option A → ℕ → Members A → List ℕ → ℕ
  pick_reads e wanted m ds =
      let k = cap same blank own e wanted (length m.order) in
      seek_reads (looks same blank own e * k) e k m.order m.position ds

-- an answer that reads n draws: it is refused for want of them, or leaves the others
pub data Reading {B : Type 0} (ds : List ℕ) (n : ℕ) : Answer B → Type 0 where
  short : length ds < n → Reading ds n (refused DrawsShort)
  enough : {b : B} {rest : List ℕ} → n + length rest ≡ length ds → Reading ds n (done b rest)
