-- The counts while they are worked out, and that there is room for one more.
-- Assumes nothing.
use mathlib.Core.Path.{◌≡◌, refl, ap, sym, ◌∙◌}
use mathlib.Core.List.{List, map}
use Prim.Native.Nat.{ℕ, ◌+◌, ◌≤◌, ◌<◌}
use native.Mathlib.Omega.{arith}
use native.Mathlib.Numerals.{add-one}
use lib.ListN.{length, get_or, take, length-map, length-take}
use lib.Seq.{take-suc}
use Rattle.address.specs.Here.{Addr, here}
use Rattle.model.specs.declared.State.{State}
use Rattle.model.specs.declared.Lamps.{Lamps}
use Rattle.model.specs.Words as words
use Rattle.model.specs.Lamps.{dark, more, less, lamps_of}
use Rattle.laws_list.specs.Counting.{light_of, Few}
use Rattle.laws_list.proofs.Counting.{light_few, lamps_few, lamps_snoc}
use Rattle.member.specs.declared.Member.{Member}
use Rattle.member.specs.Views.{to_member, nobody}
use Rattle.member.proofs.Tables.{map_snoc}

-- there is room for one more where at most 64 are counted
pub lamps_room : (own a : Addr) (s : State) (l k : Lamps) → Few 64 l → k ≡ light_of here.same own a s
    → (l.alive + k.alive ≤ 128) × (l.pending + k.pending ≤ 128) × (l.suspected + k.suspected ≤ 128)
lamps_room own a s l k f e =
    let g = light_few here.same own a s in
    let x = ap (λ (z : Lamps). z.alive) e in
    let y = ap (λ (z : Lamps). z.pending) e in
    let z = ap (λ (w : Lamps). w.suspected) e in
    (omega (arith, f.alive, g.alive, x), omega (arith, f.pending, g.pending, y), omega (arith, f.suspected, g.suspected, z))

-- a list of at most 64 has counts of at most 64
pub few_lamps : (own : Addr) (t : List (words.Member Addr)) (l : Lamps) → length t ≤ 64 → l ≡ lamps_of here.same own t → Few 64 l
few_lamps own t l h e =
    let f = lamps_few here.same own t in
    record {
      alive = omega (arith, f.alive, ap (λ (z : Lamps). z.alive) e);
      pending = omega (arith, f.pending, ap (λ (z : Lamps). z.pending) e);
      suspected = omega (arith, f.suspected, ap (λ (z : Lamps). z.suspected) e);
    }

-- and what is left after one less has no more
pub fewer_lamps : (l k r : Lamps) → Few 64 l → r ≡ less l k → Few 64 r
fewer_lamps l k r f e =
    record {
      alive = omega (arith, f.alive, ap (λ (z : Lamps). z.alive) e);
      pending = omega (arith, f.pending, ap (λ (z : Lamps). z.pending) e);
      suspected = omega (arith, f.suspected, ap (λ (z : Lamps). z.suspected) e);
    }

-- the first i records of a row are counted
module _ (own : Addr) (table : List Member) where
  abbrev counted_to : ℕ → Lamps
  counted_to i = lamps_of here.same own (map to_member (take i table))

  pub count-start : dark ≡ counted_to 0
  unfolding lamps_of
  count-start = refl

  pub count_few : (i : ℕ) (l : Lamps) → i ≤ 64 → l ≡ counted_to i → Few 64 l
  count_few i l h e = few_lamps own (map to_member (take i table)) l (omega (arith, length-map (take i table) to_member, length-take i table)) e

  pub count_next : (i : ℕ) (l k : Lamps) → i < length table → l ≡ counted_to i → k ≡ light_of here.same own (get_or table i nobody).addr (get_or table i nobody).state
      → more l k ≡ counted_to (i + 1)
  count_next i l k h e q =
      (λ j. more (e j) (q j))
      ∙ sym (lamps_snoc here.same own (map to_member (take i table)) (to_member (get_or table i nobody)))
      ∙ ap (lamps_of here.same own) (sym (ap (map to_member) (ap (λ (j : ℕ). take j table) (add-one i) ∙ take-suc table i nobody h) ∙ map_snoc to_member (take i table) (get_or table i nobody)))
