-- An address among those from a place on, and addresses that stand once: turn by turn.
-- Assumes nothing.
use mathlib.Core.Path.{◌≡◌, refl, ap, sym, ◌∙◌}
use mathlib.Core.Bool.{Bool, true, false, not, ◌&&◌}
use mathlib.Core.List.{List, [], map}
use Prim.Native.Nat.{ℕ, suc, ◌+◌, ◌≤◌, ◌<◌}
use native.Mathlib.Omega.{arith}
use native.Mathlib.Numerals.{add-one}
use lib.ListN.{length, get_or, take, drop, drop_of_length-le, length-map, get_or-map}
use lib.Seq.{drop-cons, get_or-take, length-take-le}
use Rattle.model.specs.Rows.{pick, has}
use Rattle.model.specs.Sound.{distinct}
use Rattle.address.specs.Here.{Addr, here}
use Rattle.departed.specs.declared.Departed.{Departed}
use Rattle.departed.specs.Views.{no_departed, addr_of}

-- the addresses of the first n
module _ (row : List Departed) (n : ℕ) (within : n ≤ length row) where
  abbrev pub addresses : List Addr
  addresses = map addr_of (take n row)

  pub many : length addresses ≡ n
  many = length-map (take n row) addr_of ∙ length-take-le n row within

  -- those from a place on: the one there, and the others
  pub from_place : (i : ℕ) → i < n → drop i addresses ≡ mathlib.Core.List.◌∷◌ (get_or row i no_departed).addr (drop (i + 1) addresses)
  from_place i h =
      drop-cons addresses i here.blank (omega (arith, many))
      ∙ (λ j. mathlib.Core.List.◌∷◌ ((get_or-map addr_of (take n row) i no_departed ∙ ap addr_of (get_or-take n row i no_departed h)) j) (drop (sym (add-one i) j) addresses))

  pub none_left : (i : ℕ) → n ≤ i → drop i addresses ≡ []
  none_left i h = drop_of_length-le addresses {i = i} (omega (arith, many))

  module _ (a : Addr) (i : ℕ) (b : Bool) (h : i < n) (e : b ≡ here.same a (get_or row i no_departed).addr) where
    pub stands_here : b ≡ true → has here.same a (drop i addresses) ≡ true
    stands_here q = ap (has here.same a) (from_place i h) ∙ ap (λ (u : Bool). pick u true (has here.same a (drop (i + 1) addresses))) (sym e ∙ q)

    pub stands-later : b ≡ false → has here.same a (drop i addresses) ≡ has here.same a (drop (i + 1) addresses)
    stands-later q = ap (has here.same a) (from_place i h) ∙ ap (λ (u : Bool). pick u true (has here.same a (drop (i + 1) addresses))) (sym e ∙ q)
