-- Among any 2n - 1 pings in a row each of n peers is picked, whatever the draws, while the own address is listed.
-- Assumes nothing.
use Rattle.std.specs.Prelude.{◌≡◌, ◌⊎◌, Bool, not}
use Rattle.std.proofs.Math.Bool.{true}
use mathlib.Core.List.{List, [], ◌∷◌, ◌++◌}
use Rattle.std.proofs.Math.Option.{none}
use Prim.Native.Nat.{ℕ, suc, ◌+◌, ◌≤◌}
use native.Mathlib.Omega.{arith}
use Rattle.std.proofs.Math.ListN.{length, drop}
use Rattle.model.specs.Rows.{one, pick, has, occurs, Test}
use Rattle.model.specs.Answers.{Answer, done, and_then}
use Rattle.model.specs.Members.{Members, Picked, addrs, pick_from}
use Rattle.laws_list.specs.Whole.{Whole}

module _ {A : Type 0} (same : A → A → Bool) (test : Test same) (blank own b : A) where
  abbrev pub peers : List A → ℕ
  peers [] = 0
  peers (x ∷ l) = one (not (same own x)) + peers l

  -- how many picks it can take until b is picked, from what is left of the round, of n peers
  unfoldable pub away : ℕ → List A → ℕ
  away n l = peers l + pick (has same b l) 0 n

  -- own and b are listed, and b is a peer
  pub record Ready (n : ℕ) (r : Members A) : Type 0 where
    pub whole : Whole same r
    pub mine : occurs same own (addrs r.table) ≡ 1
    pub there : occurs same b (addrs r.table) ≡ 1
    pub many : length r.order ≡ suc n

  -- a ping's pick gives one address: b, or one that brings b nearer
  pub record Nearer (n : ℕ) (r : Members A) (p : Picked A) : Type 0 where
    pub ready : Ready n p.members
    pub one_picked : (x : A) × (p.picks ≡ x ∷ [])
    pub nearer : (has same b p.picks ≡ true) ⊎ (suc (away n (drop p.members.position p.members.order)) ≤ away n (drop r.position r.order))

  -- pings one after another, each with its own draws
  unfoldable pub pings : List (List ℕ) → Members A → Answer (Picked A)
  pings [] r = done (record { picks = []; members = r }) []
  pings (ds ∷ dss) r =
      and_then (pick_from same blank own none 1 r ds) λ p _.
      and_then (pings dss p.members) λ q rest. done (record { picks = p.picks ++ q.picks; members = q.members }) rest
