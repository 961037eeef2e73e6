-- How a walk goes on, whatever the state and the step.
-- Assumes nothing.
use Rattle.std.proofs.Math.Path.{◌≡◌, refl, ap, sym}
use Rattle.std.proofs.Common.{◌∙◌, drop_of_length-le, drop-drop}
use mathlib.Core.List.{List, [], ◌∷◌, ◌++◌}
use Prim.Native.Nat.{ℕ, zero, suc, ◌+◌, ◌≤◌, ◌<◌}
use native.Mathlib.Omega.{arith}
use Rattle.std.proofs.Math.ListN.{length, length-drop, length-append}
use Rattle.std.specs.Prelude.{drop}
use Rattle.std.proofs.Math.Seq.{drop-append_seam}
use Rattle.fields.specs.declared.Field.{Field}
use Rattle.fields.specs.declared.Next.{Next}
use Rattle.fields.specs.declared.Next.TheVariants.{Stopped, Found}
use Rattle.fields.specs.Field.{next_in}
use Rattle.fields.specs.FieldLaws.{Lies, next_lies}
use Rattle.fields.specs.Walk.{Read, stopped, read, and_then, Step, walk_in, walk}

module _ {S : Type 0} (step : Step S) where
  same_then : (r : Read S) (f g : S → Read S) → ((s : S) → f s ≡ g s) → and_then r f ≡ and_then r g
  unfolding and_then
  same_then (stopped place) f g e = refl
  same_then (read s) f g e = e s

  -- any allowance that is enough reads the same
  same-walk : (f g place : ℕ) (bytes : List ℕ) (s : S) → length bytes ≤ f → length bytes ≤ g → walk_in step f place bytes s ≡ walk_in step g place bytes s
  unfolding walk_in
  same-walk zero zero place bytes s h k = refl
  same-walk zero (suc g) place [] s h k = refl
  same-walk zero (suc g) place (b ∷ bytes) s h k = absurd (omega arith)
  same-walk (suc f) zero place [] s h k = refl
  same-walk (suc f) zero place (b ∷ bytes) s h k = absurd (omega arith)
  same-walk (suc f) (suc g) place [] s h k = refl
  same-walk (suc f) (suc g) place (b ∷ bytes) s h k =
      (elim (next_in (b ∷ bytes)) as (λ r. next_in (b ∷ bytes) ≡ r → ◌≡◌ {A = Read S}
      (elim r [
        | Stopped ↦ stopped place
        | Found q ↦ and_then (step s place (b ∷ bytes) q) (λ s'. walk_in step f (place + q.size) (drop q.size (b ∷ bytes)) s')
      ])
      (elim r [
        | Stopped ↦ stopped place
        | Found q ↦ and_then (step s place (b ∷ bytes) q) (λ s'. walk_in step g (place + q.size) (drop q.size (b ∷ bytes)) s')
      ])) [
        | Stopped ↦ λ e. refl
        | Found q ↦ λ e.
            let w = next_lies (b ∷ bytes) q e in
            let l = length-drop q.size (b ∷ bytes) in
            same_then (step s place (b ∷ bytes) q) _ _
            (λ s'. same-walk f g (place + q.size) (drop q.size (b ∷ bytes)) s' (omega (arith, w.some, w.begins)) (omega (arith, w.some, w.begins)))
      ]) refl

  pub walk_end : (place : ℕ) (bytes : List ℕ) (s : S) → length bytes ≡ 0 → walk step place bytes s ≡ read s
  unfolding walk walk_in
  walk_end place [] s h = refl
  walk_end place (b ∷ bytes) s h = absurd (omega arith)

  pub walk_stop : (place : ℕ) (bytes : List ℕ) (s : S) → 0 < length bytes → next_in bytes ≡ Stopped → walk step place bytes s ≡ stopped place
  unfolding walk walk_in
  walk_stop place [] s h e = absurd (omega arith)
  walk_stop place (b ∷ bytes) s h e =
      ap (λ (r : Next). elim r [
        | Stopped ↦ stopped place
        | Found q ↦ and_then (step s place (b ∷ bytes) q) (λ s'. walk_in step (length bytes) (place + q.size) (drop q.size (b ∷ bytes)) s')
      ]) e

  pub walk_step : (place : ℕ) (bytes : List ℕ) (s : S) (f : Field) → 0 < length bytes → next_in bytes ≡ Found f
      → walk step place bytes s ≡ and_then (step s place bytes f) (λ s'. walk step (place + f.size) (drop f.size bytes) s')
  unfolding walk walk_in
  walk_step place [] s f h e = absurd (omega arith)
  walk_step place (b ∷ bytes) s f h e =
      let w = next_lies (b ∷ bytes) f e in
      let l = length-drop f.size (b ∷ bytes) in
      ap (λ (r : Next). elim r [
        | Stopped ↦ stopped place
        | Found q ↦ and_then (step s place (b ∷ bytes) q) (λ s'. walk_in step (length bytes) (place + q.size) (drop q.size (b ∷ bytes)) s')
      ]) e
      ∙ same_then (step s place (b ∷ bytes) f) _ _
      (λ s'. same-walk (length bytes) (length (drop f.size (b ∷ bytes))) (place + f.size) (drop f.size (b ∷ bytes)) s' (omega (arith, w.some, w.begins)) (omega arith))

  -- a field that is written and does no more than change the state
  pub walk_field : (place : ℕ) (a rest : List ℕ) (s s' : S) (f : Field) → 1 ≤ length a → f.size ≡ length a → next_in (a ++ rest) ≡ Found f
      → step s place (a ++ rest) f ≡ read s' → walk step place (a ++ rest) s ≡ walk step (place + length a) rest s'
  unfolding and_then
  walk_field place a rest s s' f h z e q =
      let l : 0 < length (a ++ rest) = omega (arith, length-append a rest) in
      walk_step place (a ++ rest) s f l e
      ∙ ap (λ (r : Read S). and_then r (λ t. walk step (place + f.size) (drop f.size (a ++ rest)) t)) q
      ∙ ap (λ (n : ℕ). walk step (place + n) (drop n (a ++ rest)) s') z
      ∙ ap (λ (l : List ℕ). walk step (place + length a) l s') (drop-append_seam a rest)

  -- a loop over the fields
  pub record Going (place : ℕ) (bytes : List ℕ) (s₀ : S) (at : ℕ) (s : S) : Type 0 where
    pub within : at ≤ length bytes
    pub says : walk step place bytes s₀ ≡ walk step (place + at) (drop at bytes) s

  pub going_none : (place : ℕ) (bytes : List ℕ) (s : S) → Going place bytes s 0 s
  going_none place bytes s =
      let e : place ≡ place + 0 = omega arith in
      record { within = omega arith; says = ap (λ (p : ℕ). walk step p bytes s) e }

  module _ (place : ℕ) (bytes : List ℕ) (s₀ : S) (at : ℕ) (s : S) (g : Going place bytes s₀ at s) where
    pub going_end : length bytes ≤ at → read s ≡ walk step place bytes s₀
    going_end h =
        sym (g.says ∙ ap (λ (l : List ℕ). walk step (place + at) l s) (drop_of_length-le bytes h) ∙ walk_end (place + at) [] s refl)

    module _ (rest : List ℕ) (e : rest ≡ drop at bytes) (h : at < length bytes) where
      here : walk step place bytes s₀ ≡ walk step (place + at) rest s
      here = g.says ∙ ap (λ (l : List ℕ). walk step (place + at) l s) (sym e)

      left : 0 < length rest
      left = omega (arith, ap (λ (l : List ℕ). length l) e, length-drop at bytes)

      pub going_stop : Stopped ≡ next_in rest → stopped (place + at) ≡ walk step place bytes s₀
      going_stop q = sym (here ∙ walk_stop (place + at) rest s left (sym q))

      module _ (f : Field) (q : Found f ≡ next_in rest) where
        pub field_lies : Lies (length rest) f
        field_lies = next_lies rest f (sym q)

        pub fits : at + f.size ≤ length bytes
        fits = omega (arith, field_lies.ends, ap (λ (l : List ℕ). length l) e, length-drop at bytes)

        pub going_refuse : (p : ℕ) → stopped p ≡ step s (place + at) rest f → stopped p ≡ walk step place bytes s₀
        unfolding and_then
        going_refuse p r =
            sym (here ∙ walk_step (place + at) rest s f left (sym q)
            ∙ ap (λ (x : Read S). and_then x (λ t. walk step (place + at + f.size) (drop f.size rest) t)) (sym r))

        pub going_more : (s' : S) → read s' ≡ step s (place + at) rest f → Going place bytes s₀ (at + f.size) s'
        unfolding and_then
        going_more s' r =
            let z : place + at + f.size ≡ place + (at + f.size) = omega arith in
            record {
              within = fits;
              says =
                  here ∙ walk_step (place + at) rest s f left (sym q)
                  ∙ ap (λ (x : Read S). and_then x (λ t. walk step (place + at + f.size) (drop f.size rest) t)) (sym r)
                  ∙ ap (λ (n : ℕ). walk step n (drop f.size rest) s') z
                  ∙ ap (λ (l : List ℕ). walk step (place + (at + f.size)) (drop f.size l) s') e
                  ∙ ap (λ (l : List ℕ). walk step (place + (at + f.size)) l s') (drop-drop f.size at bytes);
            }
