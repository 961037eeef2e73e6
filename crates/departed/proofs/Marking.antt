-- Addresses that are read from the last to the first, each slot marked behind: one whose slot isn't marked stands nowhere behind.
-- Assumes nothing.
use mathlib.Core.Path.{◌≡◌, refl, ap, sym, ◌∙◌}
use mathlib.Core.Bool.{Bool, true, false, not, ◌&&◌}
use mathlib.Core.List.{List, [], ◌∷◌, map}
use Prim.Native.Nat.{ℕ, zero, suc, ◌+◌, ◌-◌, ◌≤◌, ◌<◌}
use native.Mathlib.Omega.{arith}
use native.Mathlib.Decide.{ℕ_discrete}
use native.Mathlib.Numerals.{add-one}
use lib.ListN.{length, get_or, set, take, drop, length-set}
use lib.Seq.{get_or-set_same, get_or-set_other}
use Rattle.laws.specs.Bools.{and_split}
use Rattle.model.specs.Rows.{one, pick, has}
use Rattle.model.specs.Sound.{distinct}
use Rattle.address.specs.Here.{Addr, here, here_lawful, here_slot}
use Rattle.departed.specs.declared.Departed.{Departed}
use Rattle.departed.specs.Views.{no_departed, addr_of}
use Rattle.departed.proofs.Seeking.{addresses, from_place, none_left}

-- every address of a list is marked
pub record Marked (marks : List Bool) (l : List Addr) : Type 0 where
  pub long : length marks ≡ 1024
  pub each : (x : Addr) → has here.same x l ≡ true → get_or marks (here_slot x) false ≡ true

clash : true ≡ false → ⊥
clash e = omega (arith, ap one e)

is_false : (x : Bool) → (x ≡ true → ⊥) → x ≡ false
is_false true h = absurd (h refl)
is_false false h = refl

-- nobody is behind the last
pub mark-start : (marks : List Bool) → length marks ≡ 1024 → Marked marks []
mark-start marks e = record { long = e; each = λ x h. absurd (clash (sym h)) }

-- one more: its slot is marked
pub mark-next : (marks : List Bool) (a : Addr) (l : List Addr) (s : ℕ) → Marked marks l → s ≡ here_slot a → s < 1024 → Marked (set marks s true) (a ∷ l)
mark-next marks a l s m e h = record { long = length-set marks s true ∙ m.long; each = λ x. by x (here.same x a) refl }
  where
    there : (x : Addr) → here_slot x ≡ s → get_or (set marks s true) (here_slot x) false ≡ true
    there x q = rw q (get_or-set_same marks s true false (omega (arith, m.long)))

    kept : (x : Addr) → get_or marks (here_slot x) false ≡ true → get_or (set marks s true) (here_slot x) false ≡ true
    kept x p =
        elim (ℕ_discrete (here_slot x) s) [
          | yes q ↦ there x q
          | no q ↦ get_or-set_other marks s (here_slot x) true false q ∙ p
        ]

    by : (x : Addr) (u : Bool) → here.same x a ≡ u → has here.same x (a ∷ l) ≡ true → get_or (set marks s true) (here_slot x) false ≡ true
    by x true q k = there x (ap here_slot (here_lawful.test.same_eq x a q) ∙ sym e)
    by x false q k = kept x (m.each x (ap (λ (u : Bool). pick u true (has here.same x l)) (sym q) ∙ k))

-- where the slot isn't marked the address isn't there
pub unmarked : (marks : List Bool) (a : Addr) (l : List Addr) (s : ℕ) (b : Bool) → Marked marks l → s ≡ here_slot a → b ≡ get_or marks s false → b ≡ false → has here.same a l ≡ false
unmarked marks a l s b m e g f =
    is_false (has here.same a l) (λ h. clash (sym (m.each a h) ∙ ap (λ (k : ℕ). get_or marks k false) (sym e) ∙ sym g ∙ f))

-- distinct addresses are so from any place on
pub behind : (l : List Addr) (k : ℕ) → distinct here.same l ≡ true → distinct here.same (drop k l) ≡ true
behind l zero e = e
behind [] (suc k) e = e
behind (x ∷ l) (suc k) e = behind l k (and_split (not (has here.same x l)) (distinct here.same l) e).1

module _ (row : List Departed) (n : ℕ) (within : n ≤ length row) (i j : ℕ) (h : j < n) (e : i ≡ j + 1) where
  these : drop j (addresses row n within) ≡ ◌∷◌ (get_or row j no_departed).addr (drop i (addresses row n within))
  these = from_place row n within j h ∙ ap (λ (k : ℕ). ◌∷◌ (get_or row j no_departed).addr (drop k (addresses row n within))) (sym e)

  pub again : (b : Bool) → b ≡ has here.same (get_or row j no_departed).addr (drop i (addresses row n within)) → b ≡ true → distinct here.same (addresses row n within) ≡ false
  again b g q =
      is_false (distinct here.same (addresses row n within))
      (λ d. clash (sym (behind (addresses row n within) j d) ∙ ap (distinct here.same) these
      ∙ ap (λ (u : Bool). not u && distinct here.same (drop i (addresses row n within))) (sym g ∙ q)))

  pub once : (b : Bool) → b ≡ has here.same (get_or row j no_departed).addr (drop i (addresses row n within)) → b ≡ false
      → distinct here.same (drop i (addresses row n within)) ≡ true → distinct here.same (drop j (addresses row n within)) ≡ true
  once b g q d = ap (distinct here.same) these ∙ ap (λ (u : Bool). not u && distinct here.same (drop i (addresses row n within))) (sym g ∙ q) ∙ d

  pub marks-next : (marks : List Bool) (s : ℕ) → Marked marks (drop i (addresses row n within)) → s ≡ here_slot (get_or row j no_departed).addr → s < 1024
      → Marked (set marks s true) (drop j (addresses row n within))
  marks-next marks s m g k = rw these (mark-next marks (get_or row j no_departed).addr (drop i (addresses row n within)) s m g k)
