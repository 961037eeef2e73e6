-- What is chosen and noted, in rows: looking through the notes, one note more, and that what is read is packed again.
-- Assumes nothing.
use mathlib.Core.Path.{◌≡◌, refl, sym, ◌∙◌, ap}
use mathlib.Core.Bool.{Bool, true, false, ◌&&◌}
use mathlib.Core.List.{List, [], ◌∷◌, ◌++◌, map}
use Prim.Native.Nat.{ℕ, zero, suc, ◌+◌, ◌-◌, ◌≤◌, ◌<◌}
use native.Mathlib.Omega.{arith}
use native.Mathlib.Nat.{le_refl}
use native.Mathlib.Numerals.{add-one}
use lib.Dec.{eqb}
use lib.ListN.{length, get_or, set, take, replicate, length-map, length-take, length-set, length-append}
use lib.Seq.{take_at, take_all, take-suc, take-suc-set, get_or_at, get_or-set_same, get_or-set_other, length-take-le}
use borrow.Author.Tests.{eq-eqb, ne_eqb}
use Rattle.model.specs.Rows.{pick, pad_to}
use Rattle.laws.specs.Pad.{length-pad_to}
use Rattle.address.specs.Here.{here}
use Rattle.model.specs.Words as W
use Rattle.model.specs.Words.{same_gossip}
use Rattle.model.specs.Choose.{was_noted}
use Rattle.laws.specs.Lists.{map-append}
use Rattle.types.specs.declared.Gossip.{Gossip}
use Rattle.types.specs.Views.{to_gossip, from_gossip, no_gossip, from_to_gossips}
use Rattle.heap.specs.declared.Entry.{Entry}
use Rattle.heap.specs.Views.{to_entry, pack_view, view_length}
use Rattle.heap.proofs.Padding.{pad_snoc}
use Rattle.disseminate.specs.declared.Chosen.{Chosen}
use Rattle.disseminate.specs.declared.Choice.{Choice}
use Rattle.disseminate.specs.declared.Terms.{Terms}
use Rattle.disseminate.specs.Views.{noted, counts, chosen_view, choice_view, pack_choice, PackedChosen, NotedOne, Ready}

-- the rows of what is chosen are whole
pub rows-length : (n : Chosen) → PackedChosen n → length n.rows ≡ 64
rows-length n p =
    ap length p.rows ∙ length-pad_to 64 no_gossip (take n.count n.rows) (omega (arith, length-take n.count n.rows, p.few))

pub sent-length : (n : Chosen) → PackedChosen n → length n.sent ≡ 64
sent-length n p = ap length p.sent ∙ length-pad_to 64 0 (take n.count n.sent) (omega (arith, length-take n.count n.sent, p.few))

pub chosen-length : (n : Chosen) → PackedChosen n → length (chosen_view n) ≡ n.count
chosen-length n p =
    length-map (take n.count n.rows) to_gossip ∙ length-take-le n.count n.rows (omega (arith, rows-length n p, p.few))

-- looking through the notes from the last one
module _ (rows : List Gossip) (sent : List ℕ) (g : Gossip) (n : ℕ) where
  abbrev pub was : ℕ → Bool
  was i = was_noted here (to_gossip g) n (noted rows sent i)

  abbrev agrees : ℕ → Bool
  agrees i = same_gossip here (to_gossip g) (to_gossip (get_or rows i no_gossip)) && eqb n (get_or sent i 0)

  last : (i : ℕ) → was (suc i) ≡ pick (agrees i) true (was i)
  unfolding noted was_noted
  last i = refl

  at : (i : ℕ) → 0 < i → was i ≡ pick (agrees (i - 1)) true (was (i - 1))
  at i h = let e : i ≡ suc (i - 1) = omega arith in ap was e ∙ last (i - 1)

  both_true : {u v : Bool} → u ≡ true → v ≡ true → (u && v) ≡ true
  both_true p q = rw (p, q)

  not_left : {u : Bool} (v : Bool) → u ≡ false → (u && v) ≡ false
  not_left v p = rw p

  not_right : (u : Bool) {v : Bool} → v ≡ false → (u && v) ≡ false
  not_right true p = p
  not_right false p = refl

  pub was-there : (i : ℕ) (r : Bool) → 0 < i → r ≡ same_gossip here (to_gossip g) (to_gossip (get_or rows (i - 1) no_gossip)) → r ≡ true → get_or sent (i - 1) 0 ≡ n → was i ≡ true
  was-there i r h e t q =
      at i h ∙ ap (λ (u : Bool). pick u true (was (i - 1))) (both_true (sym e ∙ t) (eq-eqb n (get_or sent (i - 1) 0) (sym q)))

  pub was_other : (i : ℕ) (r : Bool) → 0 < i → r ≡ same_gossip here (to_gossip g) (to_gossip (get_or rows (i - 1) no_gossip)) → r ≡ false → was i ≡ was (i - 1)
  was_other i r h e t = at i h ∙ ap (λ (u : Bool). pick u true (was (i - 1))) (not_left (eqb n (get_or sent (i - 1) 0)) (sym e ∙ t))

  pub was_apart : (i : ℕ) → 0 < i → (get_or sent (i - 1) 0 ≡ n → ⊥) → was i ≡ was (i - 1)
  was_apart i h q =
      at i h ∙ ap (λ (u : Bool). pick u true (was (i - 1))) (not_right (same_gossip here (to_gossip g) (to_gossip (get_or rows (i - 1) no_gossip))) (ne_eqb n (get_or sent (i - 1) 0) (λ z. q (sym z))))

  pub was-none : (i : ℕ) → i ≤ 0 → was i ≡ false
  unfolding noted was_noted
  was-none zero h = refl
  was-none (suc i) h = absurd (omega arith)

-- a row that is filled one place further is packed
more-packed : {A : Type 0} (n : ℕ) (z v : A) (l : List A) (k : ℕ) → length l ≡ n → k < n → l ≡ pad_to n z (take k l) → set l k v ≡ pad_to n z (take (k + 1) (set l k v))
more-packed n z v l k q h e =
    let t : length (take k l) ≡ k = length-take-le k l (omega arith) in
    ap (λ (r : List _). set r k v) e
    ∙ ap (λ (j : ℕ). set (pad_to n z (take k l)) j v) (sym t)
    ∙ pad_snoc n z v (take k l) (omega arith)
    ∙ ap (pad_to n z) (sym (ap (λ (j : ℕ). take j (set l k v)) (add-one k) ∙ take-suc-set l k v (omega arith)))

-- notes before a place do not see what is stored there
noted_frame : (rows : List Gossip) (sent : List ℕ) (i k : ℕ) (g : Gossip) (s : ℕ) → k ≤ i → noted (set rows i g) (set sent i s) k ≡ noted rows sent k
unfolding noted
noted_frame rows sent i zero g s h = refl
noted_frame rows sent i (suc k) g s h =
    rw (get_or-set_other rows i k g no_gossip (λ e. omega arith), get_or-set_other sent i k s 0 (λ e. omega arith), noted_frame rows sent i k g s (omega arith))

module _ (n : Chosen) (p : PackedChosen n) (e : Entry) (room : n.count < 64) where
  abbrev pub after : Chosen
  after =
      record {
        rows = set n.rows n.count e.gossip;
        sent = set n.sent n.count (e.sends + 1);
        count = n.count + 1;
        size = n.size + e.size;
      }

  noted_more : noted after.rows after.sent (n.count + 1) ≡ (to_gossip e.gossip, e.sends + 1) ∷ noted n.rows n.sent n.count
  unfolding noted
  noted_more =
      rw (
        add-one n.count,
        get_or-set_same n.rows n.count e.gossip no_gossip (omega (arith, rows-length n p)),
        get_or-set_same n.sent n.count (e.sends + 1) 0 (omega (arith, sent-length n p)),
        noted_frame n.rows n.sent n.count n.count e.gossip (e.sends + 1) (le_refl n.count),
      )

  pub noted_one : (r : Chosen) → r ≡ after → NotedOne n (to_gossip e.gossip) (e.sends + 1) e.size r
  noted_one r q =
      rw q
      (record {
        packed = record {
          few = omega arith;
          rows = more-packed 64 no_gossip e.gossip n.rows n.count (rows-length n p) room p.rows;
          sent = more-packed 64 0 (e.sends + 1) n.sent n.count (sent-length n p) room p.sent;
        };
        chosen =
            ap (λ (l : List Gossip). map to_gossip l)
            (ap (λ (j : ℕ). take j (set n.rows n.count e.gossip)) (add-one n.count)
            ∙ take-suc-set n.rows n.count e.gossip (omega (arith, rows-length n p)))
            ∙ map-append to_gossip (take n.count n.rows) (e.gossip ∷ []);
        noted = noted_more;
        size = refl;
      })

-- what is read is packed again
counts-noted : (rows : List Gossip) (sent : List ℕ) (k : ℕ) → k ≤ length sent → counts (noted rows sent k) ≡ take k sent
unfolding counts noted
counts-noted rows sent zero h = refl
counts-noted rows sent (suc k) h =
    ap (λ (l : List ℕ). l ++ (get_or sent k 0 ∷ [])) (counts-noted rows sent k (omega arith)) ∙ sym (take-suc sent k 0 (omega arith))

pub pack-choice : (t : Terms) (c : Choice) → Ready t c → c ≡ pack_choice (choice_view c)
pack-choice t c r =
    let p : PackedChosen c.chosen = r.chosen in
    let n = c.chosen in
    let rows : n.rows ≡ pad_to 64 no_gossip (map from_gossip (chosen_view n)) = p.rows ∙ ap (pad_to 64 no_gossip) (sym (from_to_gossips (take n.count n.rows))) in
    let sent : n.sent ≡ pad_to 64 0 (counts (noted n.rows n.sent n.count)) =
    p.sent ∙ ap (pad_to 64 0) (sym (counts-noted n.rows n.sent n.count (omega (arith, sent-length n p, p.few)))) in
    let count : n.count ≡ length (chosen_view n) = sym (chosen-length n p) in
    let alive = sym (pack_view c.alive r.alive) in
    let deceased = sym (pack_view c.deceased r.deceased) in
    λ i. record {
      alive = alive i;
      deceased = deceased i;
      chosen = record { rows = rows i; sent = sent i; count = count i; size = n.size };
      from_alive = c.from_alive;
      from_deceased = c.from_deceased;
    }
