-- A row of addresses with the first place of each drawer: what stands at that place, where it is the address that is sought, stands nowhere before it.
-- Assumes nothing.
use Rattle.std.specs.Prelude.{◌≡◌, Bool, true, false, ◌≢◌, List, [], ◌∷◌, ℕ, zero, suc, ◌+◌, ◌-◌, ◌≤◌, ◌<◌, length, get_or, set, take}
use Rattle.std.proofs.Common.{ap, sym, ◌∙◌, subst, arith, not-suc-le-zero, le_of_suc-le-suc, length-set, get_or-set_same, get_or-set_other, get_or-take, length-take-le}
use Rattle.std.proofs.Math.Decide.{ℕ_discrete}
use Rattle.address.specs.Here.{Addr, here, here_lawful, here_drawer}
use Rattle.model.specs.Rows.{pick}
use Rattle.laws.specs.Loops.{first_place}
use Rattle.laws_list.specs.Places.{place_of, place-holds}

-- from i on, no place of the first n comes before that of its drawer
pub record Firsts (order : List Addr) (n : ℕ) (firsts : List ℕ) (i : ℕ) : Type 0 where
  pub few : i ≤ n
  pub long : length firsts ≡ 64
  pub least : (p : ℕ) → i ≤ p → p < n → get_or firsts (here_drawer (get_or order p here.blank)) 0 ≤ p

pub first-start : (order : List Addr) (n : ℕ) (firsts : List ℕ) → length firsts ≡ 64 → Firsts order n firsts n
first-start order n firsts e = record { few = omega arith; long = e; least = λ p h k. absurd (omega (arith, h, k)) }

-- one place before i: its drawer has it now
pub first_next : (order : List Addr) (n : ℕ) (firsts : List ℕ) (i j s : ℕ) → Firsts order n firsts i → i ≡ j + 1 → s ≡ here_drawer (get_or order j here.blank) → s < 64
    → Firsts order n (set firsts s j) j
first_next order n firsts i j s f e d h =
    record {
      few = omega (arith, f.few);
      long = length-set firsts s j ∙ f.long;
      least = λ p k m.
          elim (ℕ_discrete (here_drawer (get_or order p here.blank)) s) [
            | yes q ↦ rw q (rw (get_or-set_same firsts s j 0 (omega (arith, f.long))) k)
            | no q ↦ rw (get_or-set_other firsts s (here_drawer (get_or order p here.blank)) j 0 q) (f.least p (later p k q) m)
          ];
    }
  where
    later : (p : ℕ) → j ≤ p → here_drawer (get_or order p here.blank) ≢ s → i ≤ p
    later p k q =
        elim (ℕ_discrete p j) [
          | yes z ↦ absurd (q (ap (λ (x : ℕ). here_drawer (get_or order x here.blank)) z ∙ sym d))
          | no z ↦ omega (arith, z)
        ]

-- a place that holds an address is not before its first
pub place-least : (a d : Addr) (l : List Addr) (q : ℕ) → q < length l → here.same a (get_or l q d) ≡ true → place_of here.same a l ≤ q
unfolding first_place
place-least a d [] q h e = absurd (not-suc-le-zero h)
place-least a d (x ∷ l) zero h e = rw e (omega arith)
place-least a d (x ∷ l) (suc q) h e =
    elim (here.same a x) as (λ u. pick u 0 (suc (place_of here.same a l)) ≤ suc q) [
      | true ↦ omega arith
      | false ↦ let k = place-least a d l q (le_of_suc-le-suc h) e in omega (arith, k)
    ]

-- the first of its drawer, where it is the address, is the address's first
pub first_found : (order : List Addr) (n : ℕ) (firsts : List ℕ) (a : Addr) (q : ℕ) → Firsts order n firsts 0 → n ≤ length order → q ≡ get_or firsts (here_drawer a) 0 → q < n
    → here.same a (get_or order q here.blank) ≡ true → q ≡ place_of here.same a (take n order)
first_found order n firsts a q f long e h t =
    let few : length (take n order) ≡ n = length-take-le n order long in
    let p = place_of here.same a (take n order) in
    let below : p ≤ q = place-least a here.blank (take n order) q (omega (arith, few)) (ap (here.same a) (get_or-take n order q here.blank h) ∙ t) in
    let held : get_or order p here.blank ≡ a = sym (get_or-take n order p here.blank (omega arith)) ∙ place-holds here.same here_lawful.test a here.blank (take n order) (omega (arith, few)) in
    let above : get_or firsts (here_drawer a) 0 ≤ p = subst (λ (x : Addr). get_or firsts (here_drawer x) 0 ≤ p) held (f.least p (omega arith) (omega arith)) in
    omega (arith, above, below)
