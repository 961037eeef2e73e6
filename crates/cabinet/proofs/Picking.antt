-- Whom a pick gives is listed, and neither the own address nor the one that is left out.
-- Assumes nothing.
use Rattle.std.specs.Prelude.{◌≡◌, Bool}
use Rattle.std.proofs.Math.Path.{refl, ap, subst}
use Rattle.std.proofs.Common.{◌∙◌, arith}
use Rattle.std.proofs.Math.Bool.{true, false}
use mathlib.Core.List.{List, [], ◌∷◌, ◌++◌}
use Rattle.std.proofs.Math.Option.{Option, none, some}
use Prim.Native.Nat.{ℕ, zero, suc, ◌≤◌, ◌<◌}
use Rattle.std.proofs.Math.ListN.{length, get_or}
use Rattle.model.specs.Rows.{Test, occurs}
use Rattle.model.specs.Words.{Member}
use Rattle.model.specs.Members.{Members, addrs, listed, Picked, passed, cap, seek, pick_from}
use Rattle.laws.specs.After.{After, gives, after_then}
use Rattle.laws.specs.Counts.{has-none}
use Rattle.laws_list.specs.Whole.{Whole}
use Rattle.laws_list.specs.Picking.{advance-turned}
use Rattle.cabinet.specs.Each.{Each, nil}
use Rattle.cabinet.proofs.Each.{each_append, each-one}
use Rattle.cabinet.specs.Picking.{Peer}

module _ {A : Type 0} (same : A → A → Bool) (test : Test same) (blank own : A) where
  -- what stands at a place stands in the list
  occurs-at : (l : List A) (i : ℕ) → i < length l → 0 < occurs same (get_or l i blank) l
  occurs-at [] i h = absurd (omega arith)
  occurs-at (x ∷ l) zero h = rw (test.same_refl x) (omega arith)
  occurs-at (x ∷ l) (suc i) h = let q = occurs-at l i (omega arith) in omega arith

  listed_at : (m : Members A) → Whole same m → 0 < length m.order → listed same (get_or m.order m.position blank) m.table ≡ true
  listed_at m w h =
      let x = get_or m.order m.position blank in
      let p : 0 < occurs same x m.order = occurs-at m.order m.position (omega (arith, w.place)) in
      (elim (listed same x m.table) as (λ u. listed same x m.table ≡ u → u ≡ true) [
        | true ↦ λ e. refl
        | false ↦ λ e. absurd (omega (arith, p, w.counts x, has-none same x (addrs m.table) e))
      ]) refl

  abbrev Peers : Option A → List (Member A) → Picked A → Type 0
  Peers e t p = (p.members.table ≡ t) × Each ((Peer same test blank own) e t) p.picks

  seek-listed : (t : List (Member A)) (f : ℕ) (e : Option A) (k : ℕ) (got : List A) (m : Members A) (ds : List ℕ) → Whole same m → m.table ≡ t → k ≤ length t
      → Each ((Peer same test blank own) e t) got → After (Peers e t) (seek same blank own f e k got m ds)
  unfolding seek
  seek-listed t f e zero got m ds w q h g = gives (q, g)
  seek-listed t zero e (suc k) got m ds w q h g = gives (q, g)
  seek-listed t (suc f) e (suc k) got m ds w q h g =
      let x = get_or m.order m.position blank in
      let n : 0 < length m.order = omega (arith, w.long, ap length q) in
      let l : listed same x t ≡ true = subst (λ (t' : List (Member A)). listed same x t' ≡ true) q (listed_at m w n) in
      after_then (advance-turned same blank own m ds w n)
      (λ m' rest v.
      (elim (passed same blank own e x) as (λ u. passed same blank own e x ≡ u → After (Peers e t)
      (elim u [
        | true ↦ seek same blank own f e (suc k) got m' rest
        | false ↦ seek same blank own f e k (got ++ (x ∷ [])) m' rest
      ])) [
        | true ↦ λ o. seek-listed t f e (suc k) got m' rest v.whole (v.table ∙ q) h g
        | false ↦ λ o. seek-listed t f e k (got ++ (x ∷ [])) m' rest v.whole (v.table ∙ q) (omega arith) (each_append g (each-one (l, o)))
      ]) refl)

  cap_le : (e : Option A) (wanted len : ℕ) → cap same blank own e wanted len ≤ len
  cap_le none wanted len = omega arith
  cap_le (some x) wanted len = omega arith

  pub pick-listed : (e : Option A) (wanted : ℕ) (m : Members A) (ds : List ℕ) → Whole same m
      → After (λ p. (p.members.table ≡ m.table) × Each ((Peer same test blank own) e m.table) p.picks) (pick_from same blank own e wanted m ds)
  unfolding pick_from
  pick-listed e wanted m ds w = seek-listed m.table _ e _ [] m ds w refl (omega (arith, cap_le e wanted (length m.order), w.long)) nil
