-- The loop over the bytes: what is passed and what is left come to the whole.
-- Assumes nothing.
use mathlib.Core.Path.{◌≡◌, refl, ap, sym, ◌∙◌}
use mathlib.Core.Bool.{false}
use mathlib.Core.List.{List}
use Prim.Native.Nat.{ℕ, suc, ◌+◌, ◌≤◌, ◌<◌}
use native.Mathlib.Omega.{arith}
use native.Mathlib.Numerals.{add-one}
use lib.Dec.{eqb}
use lib.ListN.{length, get_or, drop, drop_of_length-le}
use lib.Seq.{drop-cons}
use borrow.Author.Tests.{eq-eqb, ne_eqb}
use Rattle.model.specs.Rows.{pick}
use Rattle.utf8.specs.declared.Lead.{Lead}
use Rattle.utf8.specs.Utf8.{asks, after, utf8_from, utf8}

pub record Going (bytes : List ℕ) (l : Lead) (i : ℕ) : Type 0 where
  pub within : i ≤ length bytes
  pub says : utf8 bytes ≡ utf8_from l (drop i bytes)

pub going_none : (bytes : List ℕ) → Going bytes (asks 0 128 191) 0
unfolding utf8
going_none bytes = record { within = omega arith; says = refl }

module _ (bytes : List ℕ) (l : Lead) (i : ℕ) (g : Going bytes l i) where
  pub going_end : length bytes ≤ i → eqb l.left 0 ≡ utf8 bytes
  unfolding utf8_from
  going_end h = sym (g.says ∙ ap (utf8_from l) (drop_of_length-le bytes h))

  module _ (h : i < length bytes) (k : Lead) (e : k ≡ after l (get_or bytes i 0)) where
    at_byte : utf8 bytes ≡ pick (eqb k.left 4) false (utf8_from k (drop (suc i) bytes))
    unfolding utf8_from
    at_byte =
        g.says ∙ ap (utf8_from l) (drop-cons bytes i 0 h)
        ∙ ap (λ (x : Lead). pick (eqb x.left 4) false (utf8_from x (drop (suc i) bytes))) (sym e)

    pub going_wrong : k.left ≡ 4 → false ≡ utf8 bytes
    going_wrong q = sym (at_byte ∙ simp (eq-eqb k.left 4 q))

    pub going_more : (k.left ≡ 4 → ⊥) → Going bytes k (i + 1)
    going_more q = record {
      within = omega arith;
      says = at_byte ∙ simp (ne_eqb k.left 4 q) (ap (λ (n : ℕ). utf8_from k (drop n bytes)) (sym (add-one i)));
    }
