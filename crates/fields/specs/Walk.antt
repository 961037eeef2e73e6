-- Reading a message field by field, for any state and any step: each level of the schema is one instance.
-- Assumes nothing.
use Rattle.std.specs.Prelude.{List, [], ◌∷◌, ℕ, zero, suc, ◌+◌, length, drop}
use Rattle.fields.specs.declared.Field.{Field}
use Rattle.fields.specs.declared.Next.TheVariants.{Stopped, Found}
use Rattle.fields.specs.Field.{next_in}

-- what reading gives: the place where it stopped, or what was read
pub data Read (S : Type 0) : Type 0 where
  stopped : ℕ → Read S
  read : S → Read S

-- one reading after another: the first that stops is where both do
unfoldable pub and_then : {S T : Type 0} → Read S → (S → Read T) → Read T
and_then (stopped place) next = stopped place
and_then (read s) next = next s

-- what a field does to a state: it starts at a place of the input, and is the first of the bytes
abbrev pub Step : Type 0 → Type 0
Step S = S → ℕ → List ℕ → Field → Read S

-- the fields of a message in turn, f of them at most
unfoldable pub walk_in : {S : Type 0} → Step S → ℕ → ℕ → List ℕ → S → Read S
walk_in step zero place bytes s = read s
walk_in step (suc f) place [] s = read s
walk_in step (suc f) place (b ∷ bytes) s =
    elim (next_in (b ∷ bytes)) [
      | Stopped ↦ stopped place
      | Found g ↦ and_then (step s place (b ∷ bytes) g) (λ s'. walk_in step f (place + g.size) (drop g.size (b ∷ bytes)) s')
    ]

-- all of them: each takes a byte at least
unfoldable pub walk : {S : Type 0} → Step S → ℕ → List ℕ → S → Read S
walk step place bytes s = walk_in step (length bytes) place bytes s
