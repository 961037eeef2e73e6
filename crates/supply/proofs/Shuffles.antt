-- How many draws a pick may take: one shuffle, of one draw less than are listed; two where everybody who may be picked is wanted; none where nobody is.
-- Assumes nothing.
use Rattle.std.specs.Prelude.{◌≡◌, Bool, eqb, leb}
use Rattle.std.proofs.Math.Path.{refl, ap, sym}
use Rattle.std.proofs.Common.{◌∙◌}
use Rattle.std.proofs.Math.Bool.{true, false}
use mathlib.Core.List.{List, [], ◌∷◌, ◌++◌}
use Rattle.std.proofs.Math.Option.{Option, none, some}
use Prim.Native.Nat.{ℕ, zero, suc, ◌+◌, ◌-◌, ◌*◌, ◌%◌, ◌≤◌, ◌<◌, min}
use native.Mathlib.Omega.{arith}
use Rattle.std.proofs.Math.Nat.{mod-eq_of_lt, mod_self}
use Rattle.std.proofs.Math.Decide.{ℕ_discrete}
use Rattle.std.proofs.Math.ListN.{length, get_or, drop, drop_of_length-le, length-drop}
use borrow.Author.Tests.{eqb-true, eqb-false, leb-true, leb-false}
use Rattle.model.specs.Rows.{one, pick, swap, count, occurs}
use Rattle.model.specs.Members.{Members, Picked, shuffle_from, shuffle, advance, passed, looks, cap, seek, pick_from}
use Rattle.laws_list.specs.Whole.{Whole}
use Rattle.laws_heap.specs.HeapLaws.{count_le}
use Rattle.laws_pick.specs.Picks.{Moved, advance_drawn, room, here}
use Rattle.laws_rules.specs.Judged.{pick_case}
use Rattle.supply.specs.Supplied.{Supplied, goes}
use Rattle.supply.proofs.Supplied.{supplied_map, supplied_then, supplied_when, with_drawn}
use Rattle.supply.specs.Shuffles.{pick_draws, aside}

module _ {A : Type 0} (same : A → A → Bool) (blank own : A) where
  -- a shuffle of i swaps takes i draws
  shuffle_supplied : (i : ℕ) (l : List A) (ds : List ℕ) → i ≤ length ds → Supplied (λ _ rest. length rest + i ≡ length ds) (shuffle_from blank i l ds)
  shuffle_supplied zero l ds h = goes {ds = ds} (omega arith)
  shuffle_supplied (suc i) l [] h = absurd (omega arith)
  shuffle_supplied (suc i) l (d ∷ ds) h = supplied_map (λ _ rest e. omega arith) (shuffle_supplied i (swap blank l (suc i) (d % suc (suc i))) ds (omega arith))

  -- what an advance takes: nothing within a round, a shuffle at its end
  record Paid (r : Members A) (ds rest : List ℕ) : Type 0 where
    on : r.position + 1 < length r.order → length rest ≡ length ds
    round : r.position + 1 ≡ length r.order → length rest + (length r.order - 1) ≡ length ds

  advance_paid : (r : Members A) (ds : List ℕ) → r.position ≤ length r.order - 1 → 0 < length r.order
      → (r.position + 1 ≡ length r.order → length r.order - 1 ≤ length ds) → Supplied (λ _ rest. Paid r ds rest) (advance blank r ds)
  unfolding advance shuffle
  advance_paid r ds p h enough =
      let next : ℕ = (r.position + 1) % length r.order in
      let around : r.position + 1 ≡ length r.order → next ≡ 0 = λ e. ap (λ (n : ℕ). n % length r.order) e ∙ mod_self (length r.order) in
      supplied_when
      (λ e.
      elim (ℕ_discrete (r.position + 1) (length r.order)) [
        | yes q ↦ supplied_then (shuffle_supplied (length r.order - 1) r.order ds (enough q)) (λ o rest k. goes (record { on = λ m. absurd (omega arith); round = λ _. k }))
        | no q ↦ let m : r.position + 1 < length r.order = omega arith in absurd (omega (arith, mod-eq_of_lt m, eqb-true next 0 e))
      ])
      (λ e. goes (record { on = λ _. refl; round = λ q. absurd (eqb-false next 0 e (around q)) }))

  advance_supplied : (r : Members A) (ds : List ℕ) → Whole same r → 0 < length r.order
      → (r.position + 1 ≡ length r.order → length r.order - 1 ≤ length ds) → Supplied (λ r' rest. Moved same blank own r r' × Paid r ds rest) (advance blank r ds)
  advance_supplied r ds w h enough = with_drawn (advance_drawn same blank own r ds w h) (advance_paid r ds w.place h enough)

  aside_none : (l : List A) → (aside same blank own) none l ≡ occurs same own l
  unfolding count
  aside_none [] = refl
  aside_none (x ∷ l) = ap (λ (n : ℕ). one (same own x) + n) (aside_none l)

  aside-some : (e : A) (l : List A) → (aside same blank own) (some e) l ≤ occurs same own l + occurs same e l
  unfolding count
  aside-some e [] = omega arith
  aside-some e (x ∷ l) =
      elim (same own x) as (λ u. one (pick u true (same e x)) + (aside same blank own) (some e) l ≤ one u + occurs same own l + (one (same e x) + occurs same e l)) [
        | true ↦ omega (arith, aside-some e l)
        | false ↦ omega (arith, aside-some e l)
      ]

  aside-room : (e : Option A) (r : Members A) → Whole same r → (aside same blank own) e r.order ≤ room same blank own e
  aside-room none r w = omega (arith, aside_none r.order, w.counts own, w.once own)
  aside-room (some e) r w = omega (arith, aside-some e r.order, w.counts own, w.once own, w.counts e, w.once e)

  -- the draws are ample for k more from what is left of the round: a shuffle where the round ends before they are found, and another where the next one does
  record Ample (e : Option A) (r : Members A) (k : ℕ) (ds : List ℕ) : Type 0 where
    once : length (drop r.position r.order) ≤ k + (aside same blank own) e (drop r.position r.order) → length r.order - 1 ≤ length ds
    twice : length r.order + length (drop r.position r.order) ≤ k + (aside same blank own) e (drop r.position r.order) + room same blank own e
        → 2 * (length r.order - 1) ≤ length ds

  -- a look leaves ample draws: j more are wanted after it
  ample_next : (e : Option A) (r r' : Members A) (k j : ℕ) (ds rest : List ℕ) → Whole same r → suc k + room same blank own e ≤ length r.order
      → Moved same blank own r r' → Paid r ds rest → Ample e r (suc k) ds → j + 1 ≡ suc k + one (passed same blank own e (get_or r.order r.position blank)) → j ≤ suc k
      → Ample e r' j rest
  unfolding count
  ample_next e r r' k j ds rest w h m p a q l =
      let x : A = get_or r.order r.position blank in
      let more : List A = drop (r.position + 1) r.order in
      let some-listed : 0 < length r.order = omega arith in
      let long : length (drop r.position r.order) ≡ suc (length more) = ap length (here same blank own r w some-listed) in
      let passes : (aside same blank own) e (drop r.position r.order) ≡ one (passed same blank own e x) + (aside same blank own) e more =
      ap ((aside same blank own) e) (here same blank own r w some-listed) in
      elim (ℕ_discrete (r.position + 1) (length r.order)) [
        | yes c ↦
            let none_left : more ≡ [] = drop_of_length-le r.order {i = r.position + 1} (omega arith) in
            let nobody : (aside same blank own) e more ≡ 0 = ap ((aside same blank own) e) none_left in
            let nothing : length more ≡ 0 = ap length none_left in
            let at : drop r'.position r'.order ≡ r'.order = ap (λ (i : ℕ). drop i r'.order) (m.round c) in
            let s : (aside same blank own) e (drop r'.position r'.order) ≤ room same blank own e = rw at (aside-room e r' m.whole) in
            let n : length (drop r'.position r'.order) ≡ length r.order = ap length at ∙ m.long in
            record {
              once = λ b. omega (arith, a.twice (omega arith), p.round c, m.long);
              twice = λ b. absurd (omega (arith, m.long));
            }
        | no c ↦
            let inner : r.position + 1 < length r.order = omega (arith, w.place) in
            let at : drop r'.position r'.order ≡ more = ap (λ (o : List A). drop r'.position o) (m.on inner).0 ∙ ap (λ (i : ℕ). drop i r.order) (m.on inner).1 in
            let s : (aside same blank own) e (drop r'.position r'.order) ≡ (aside same blank own) e more = ap ((aside same blank own) e) at in
            let n : length (drop r'.position r'.order) ≡ length more = ap length at in
            record {
              once = λ b. omega (arith, a.once (omega arith), p.on inner, m.long);
              twice = λ b. omega (arith, a.twice (omega (arith, m.long)), p.on inner, m.long);
            }
      ]

  seek_supplied : (f : ℕ) (e : Option A) (k : ℕ) (got : List A) (r : Members A) (ds : List ℕ) → Whole same r → k + room same blank own e ≤ length r.order → Ample e r k ds
      → Supplied (λ _ _. Unit {0}) (seek same blank own f e k got r ds)
  unfolding seek
  seek_supplied f e zero got r ds w h a = goes tt
  seek_supplied zero e (suc k) got r ds w h a = goes tt
  seek_supplied (suc f) e (suc k) got r ds w h a =
      supplied_then (advance_supplied r ds w (omega arith) (λ q. a.once (omega (arith, length-drop r.position r.order))))
      (λ r' rest m.
      (elim (passed same blank own e (get_or r.order r.position blank)) as (λ u.
      passed same blank own e (get_or r.order r.position blank) ≡ u
      → Supplied (λ (_ : Picked A) _. Unit {0})
      (elim u [
        | true ↦ seek same blank own f e (suc k) got r' rest
        | false ↦ seek same blank own f e k (got ++ (get_or r.order r.position blank ∷ [])) r' rest
      ])) [
        | true ↦ λ q. seek_supplied f e (suc k) got r' rest m.0.whole (omega (arith, m.0.long)) (ample_next e r r' k (suc k) ds rest w h m.0 m.1 a (omega (arith, ap one q)) (omega arith))
        | false ↦ λ q.
            seek_supplied f e k (got ++ (get_or r.order r.position blank ∷ [])) r' rest m.0.whole (omega (arith, m.0.long))
            (ample_next e r r' k k ds rest w h m.0 m.1 a (omega (arith, ap one q)) (omega arith))
      ]) refl)

  -- ---- the pick
  pick_draws-one : (s wanted n : ℕ) → 0 < min wanted (n - s) → n - 1 ≤ pick_draws s wanted n
  unfolding pick_draws
  pick_draws-one s wanted n h =
      pick_case (λ (k : ℕ). n - 1 ≤ k) (eqb (min wanted (n - s)) 0) _ _ (λ q. absurd (omega (arith, eqb-true (min wanted (n - s)) 0 q)))
      (λ _. pick_case (λ (k : ℕ). n - 1 ≤ k) (leb (n - s) wanted) _ _ (λ _. omega arith) (λ _. omega arith))

  pick_draws-two : (s wanted n : ℕ) → 0 < min wanted (n - s) → n - s ≤ wanted → 2 * (n - 1) ≤ pick_draws s wanted n
  unfolding pick_draws
  pick_draws-two s wanted n h k =
      pick_case (λ (i : ℕ). 2 * (n - 1) ≤ i) (eqb (min wanted (n - s)) 0) _ _ (λ q. absurd (omega (arith, eqb-true (min wanted (n - s)) 0 q)))
      (λ _. pick_case (λ (i : ℕ). 2 * (n - 1) ≤ i) (leb (n - s) wanted) _ _ (λ _. omega arith) (λ q. absurd (omega (arith, leb-false (n - s) wanted q))))

  cap_is : (e : Option A) (wanted n : ℕ) → cap same blank own e wanted n ≡ min wanted (n - room same blank own e)
  cap_is none wanted n = refl
  cap_is (some x) wanted n = refl

  -- lent so many draws, a pick from a whole list is not refused for want of them
  pub pick_supplied : (e : Option A) (wanted : ℕ) (r : Members A) (ds : List ℕ) → Whole same r → pick_draws (room same blank own e) wanted (length r.order) ≤ length ds
      → Supplied (λ _ _. Unit {0}) (pick_from same blank own e wanted r ds)
  unfolding pick_from seek
  pick_supplied e wanted r ds w h =
      (elim (cap same blank own e wanted (length r.order)) as (λ k. cap same blank own e wanted (length r.order) ≡ k
      → Supplied (λ (_ : Picked A) _. Unit {0}) (seek same blank own (looks same blank own e * k) e k [] r ds)) [
        | zero ↦ λ q. nobody (looks same blank own e * 0)
        | suc k ↦ λ q.
            let c : min wanted (length r.order - room same blank own e) ≡ suc k = sym (cap_is e wanted (length r.order)) ∙ q in
            seek_supplied (looks same blank own e * suc k) e (suc k) [] r ds w (omega arith)
            (record {
              once = λ _. omega (arith, pick_draws-one (room same blank own e) wanted (length r.order) (omega arith));
              twice = λ b.
                  omega (
                    arith,
                    pick_draws-two (room same blank own e) wanted (length r.order) (omega arith)
                        (omega (arith, count_le (passed same blank own e) (drop r.position r.order))),
                  );
            })
      ]) refl
    where
      nobody : (f : ℕ) → Supplied (λ (_ : Picked A) _. Unit {0}) (seek same blank own f e 0 [] r ds)
      nobody zero = goes tt
      nobody (suc f) = goes tt

-- with at most 64 listed and at most 4 wanted, no pick takes more than 63
pub pick_draws-most : (s wanted n : ℕ) → s ≤ 2 → wanted ≤ 4 → n ≤ 64 → pick_draws s wanted n ≤ 63
unfolding pick_draws
pick_draws-most s wanted n h k l =
    pick_case (λ (i : ℕ). i ≤ 63) (eqb (min wanted (n - s)) 0) _ _ (λ _. omega arith)
    (λ _. pick_case (λ (i : ℕ). i ≤ 63) (leb (n - s) wanted) _ _ (λ q. omega (arith, leb-true (n - s) wanted q)) (λ _. omega arith))
