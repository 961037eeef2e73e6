-- What a heap still owes: how often each of its entries is to be taken before it leaves. Each taking pays one, and a choosing takes one at least from an alive heap that holds any.
-- Assumes nothing.
use Rattle.std.specs.Prelude.{◌≡◌, ◌||◌}
use Rattle.std.proofs.Math.Bool.{Bool, true, false}
use mathlib.Core.List.{List, [], ◌∷◌}
use Rattle.std.proofs.Math.Option.{Option}
use Prim.Native.Nat.{ℕ, ◌+◌, ◌-◌, ◌≤◌, max}
use native.Mathlib.Omega.{arith}
use Rattle.std.proofs.Math.ListN.{length}
use Rattle.model.specs.Words.{Address, Entry}
use Rattle.model.specs.Choose.{Terms, Choice, Taken, try_deceased, after_alive, after_deceased, gave, rounds}

module _ {A : Type 0} where
  -- how often an entry is still to be taken: it leaves at its limit, and where it is at it already, with the next taking
  abbrev pub turns : ℕ → Entry A → ℕ
  turns limit e = max 1 (limit - e.sends)

  -- what a heap owes
  abbrev pub owed : ℕ → List (Entry A) → ℕ
  owed limit [] = 0
  owed limit (e ∷ h) = turns limit e + owed limit h

module _ {A : Type 0} (address : Address A) where
  -- what a taking does to what a heap owes, by any limit: at the limit of the choosing it pays exactly one; by a greater one it pays one at least, and by another nothing is added
  pub record Pays (t : Terms) (h : List (Entry A)) (k : Taken A) : Type 0 where
    pub one_paid : owed t.limit k.heap + 1 ≡ owed t.limit h
    pub more_paid : (most : ℕ) → t.limit ≤ most → owed most k.heap + 1 ≤ owed most h
    pub none-added : (limit : ℕ) → owed limit k.heap ≤ owed limit h
    pub shorter : length k.heap ≤ length h

  -- what a choosing has taken so far, from heaps that were as given
  pub record Spent (limit : ℕ) (alive deceased : List (Entry A)) (c : Choice A) : Type 0 where
    pub from-alive : owed limit c.alive + c.from-alive ≡ owed limit alive
    pub from-deceased : owed limit c.deceased + c.from-deceased ≡ owed limit deceased
    pub all : length c.chosen ≡ c.from-alive + c.from-deceased
    pub alive-less : length c.alive ≤ length alive
    pub deceased-less : length c.deceased ≤ length deceased

  -- a round, by whether it is over and what the alive heap gives
  abbrev pub turn : Terms → ℕ → Choice A → Bool → Option (Taken A) → Choice A
  turn t f c u a =
      let c₁ = after_alive address c a in
      let b = try_deceased address t c₁ in
      elim u [ true ↦ c | false ↦ elim (gave address a || gave address b) [ true ↦ rounds address f t (after_deceased address c₁ b) | false ↦ c ] ]
