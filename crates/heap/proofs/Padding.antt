-- A heap in a row: what the code does to the row is what the model does to the list of its used places.
-- Assumes nothing.
use mathlib.Core.Path.{◌≡◌, refl, ap, sym, ◌∙◌}
use mathlib.Core.List.{List, [], ◌∷◌, ◌++◌, map, append_assoc}
use Prim.Native.Nat.{ℕ, suc, ◌+◌, ◌-◌, ◌≤◌, ◌<◌}
use native.Mathlib.Omega.{arith}
use native.Mathlib.Numerals.{add-one}
use lib.ListN.{length, get_or, set, take, drop, replicate, length-append, length-set, length-map, drop_of_length-le, get_or-append}
use lib.Seq.{take_at, take_all, get_or_at, length-take-le, set-append_left, set_split}
use Rattle.address.specs.Here.{Addr}
use Rattle.model.specs.Rows.{pad_to}
use Rattle.laws.specs.Pad.{pad_step}
use Rattle.model.specs.Heap.{climb, sink, bottom, push, sink_top, remove_top}
use Rattle.laws_heap.specs.HeapLaws.{push-length, sink_top-length, remove_top-length}
use Rattle.laws_heap.specs.HeapFrames.{climb_frame, sink_frame, bottom_frame, push-map, sink_top-map, remove_top-map}
use Rattle.model.specs.Words as W
use Rattle.heap.specs.declared.Entry.{Entry}
use Rattle.heap.specs.declared.Heap.{Heap}
use Rattle.heap.specs.Views.{to_entry, from_entry, sends, no_entry, heap_view, pack_heap, Packed, from_to_entries, used_length, view_length}

-- one more behind a row
pub pad_snoc : {A : Type 0} (n : ℕ) (z v : A) (l : List A) → length l < n → set (pad_to n z l) (length l) v ≡ pad_to n z (l ++ (v ∷ []))
pad_snoc n z v l h =
    let e : length (l ++ (v ∷ [])) ≡ suc (length l) = length-append l (v ∷ []) ∙ add-one (length l) in
    ap (λ x. set (pad_to n z x) (length l) v) (sym (take_at l (v ∷ []) (length l) refl))
    ∙ pad_step n (length l) z v (l ++ (v ∷ [])) (omega arith) (omega arith) (get_or_at l v [] z (length l) refl)
    ∙ ap (pad_to n z) (take_all (suc (length l)) (l ++ (v ∷ [])) (omega arith))

module _ {A : Type 0} (n : ℕ) (d : A) (key : A → ℕ) (l : List A) where
  pub row-push : (a : A) → length l < n → climb d key (set (pad_to n d l) (length l) a) (length l) ≡ pad_to n d (push d key l a)
  unfolding push
  row-push a h =
      let e : length (l ++ (a ∷ [])) ≡ length l + 1 = length-append l (a ∷ []) in
      let m : n - length (l ++ (a ∷ [])) ≡ n - length (push d key l a) = omega (arith, push-length d key l a) in
      ap (λ (r : List A). climb d key r (length l)) (pad_snoc n d a l h)
      ∙ climb_frame d key (replicate (n - length (l ++ (a ∷ []))) d) (l ++ (a ∷ [])) (length l) (λ z. omega arith)
      ∙ ap (λ (k : ℕ). climb d key (l ++ (a ∷ [])) (length l) ++ replicate k d) m

  module _ (some : 0 < length l) where
    pub row-sink_top : (a : A) → sink d key (set (pad_to n d l) 0 a) (length l) 0 ≡ pad_to n d (sink_top d key l a)
    unfolding sink_top
    row-sink_top a =
        let m : n - length l ≡ n - length (sink_top d key l a) = omega (arith, sink_top-length d key l some a) in
        ap (λ (r : List A). sink d key r (length l) 0) (set-append_left l (replicate (n - length l) d) 0 a some)
        ∙ sink_frame d key (replicate (n - length l) d) (set l 0 a) (length l) (omega (arith, length-set l 0 a))
        ∙ ap (λ (k : ℕ). sink d key (set l 0 a) (length l) 0 ++ replicate k d) m

    -- the last place is unused now
    cleared : (zs : List A) (k m : ℕ) → length zs ≡ suc m → set (zs ++ replicate k d) m d ≡ take m zs ++ replicate (suc k) d
    cleared zs k m e =
        set-append_left zs (replicate k d) m d (omega arith)
        ∙ ap (λ (r : List A). r ++ replicate k d) (set_split zs m d (omega arith) ∙ ap (λ (r : List A). take m zs ++ (d ∷ r)) (drop_of_length-le zs {i = suc m} (omega arith)))
        ∙ append_assoc (take m zs) (d ∷ []) (replicate k d)

    pub row-remove_top :
        (m : ℕ) →
        m ≡ length l - 1 →
        length l ≤ n →
        bottom d key (set (set (pad_to n d l) 0 (get_or (pad_to n d l) m d)) m d) m 0 ≡ pad_to n d (remove_top d key l)
    unfolding remove_top
    row-remove_top m q h =
        let top : A = get_or l m d in
        let zs : List A = set l 0 (get_or l m d) in
        let c : length (set l 0 (get_or l m d)) ≡ suc m = length-set l 0 (get_or l m d) ∙ omega arith in
        let s : length (take m (set l 0 (get_or l m d))) ≡ m = length-take-le m (set l 0 (get_or l m d)) (omega arith) in
        let w : suc (n - length l) ≡ n - length (remove_top d key l) = omega (arith, remove_top-length d key l some) in
        ap (λ (x : A). bottom d key (set (set (pad_to n d l) 0 x) m d) m 0) (get_or-append l (replicate (n - length l) d) d m (omega arith))
        ∙ ap (λ (r : List A). bottom d key (set r m d) m 0) (set-append_left l (replicate (n - length l) d) 0 (get_or l m d) some)
        ∙ ap (λ (r : List A). bottom d key r m 0) (cleared (set l 0 (get_or l m d)) (n - length l) m c)
        ∙ bottom_frame d key (replicate (suc (n - length l)) d) (take m (set l 0 (get_or l m d))) m (omega arith)
        ∙ ap (λ (k : ℕ). bottom d key (take m (set l 0 (get_or l m d))) m 0 ++ replicate k d) w
        ∙ ap (λ (j : ℕ). bottom d key (take j (set l 0 (get_or l j d))) j 0 ++ replicate (n - length (remove_top d key l)) d) q

module _ (h : Heap) (p : Packed h) where
  used : List Entry
  used = take h.len h.entries

  -- a list of entries and how many there are, in a row
  packs : (l : List Entry) (m : List (W.Entry Addr)) → m ≡ map to_entry l → (k : ℕ) → k ≡ length l → (es : List Entry) → es ≡ pad_to 128 no_entry l → ◌≡◌ {A = Heap} (record { entries = es; len = k }) (pack_heap m)
  packs l m e k q es r =
      let a : es ≡ pad_to 128 no_entry (map from_entry m) = r ∙ ap (pad_to 128 no_entry) (sym (ap (map from_entry) e ∙ from_to_entries l)) in
      let b : k ≡ length m = q ∙ sym (ap length e ∙ length-map l to_entry) in
      λ i. record { entries = a i; len = b i }

  pub packed-push :
      (e : Entry) (es : List Entry) →
      h.len < 128 →
      es ≡ climb no_entry sends (set h.entries h.len e) h.len →
      ◌≡◌ {A = Heap} (record { entries = es; len = h.len + 1 }) (pack_heap (push W.unused W.sends_of (heap_view h) (to_entry e)))
  unfolding used
  packed-push e es k q =
      let u : length used ≡ h.len = used_length h p in
      packs (push no_entry sends used e) _ (push-map no_entry sends to_entry W.sends_of (λ x. refl) used e) (h.len + 1)
      (omega (arith, push-length no_entry sends used e))
      es
      (q
      ∙ ap (λ (r : List Entry). climb no_entry sends (set r h.len e) h.len) p.row
      ∙ ap (λ (j : ℕ). climb no_entry sends (set (pad_to 128 no_entry used) j e) j) (sym u)
      ∙ row-push 128 no_entry sends used e (omega arith))

  pub packed-sink_top :
      (e : Entry) (es : List Entry) →
      0 < h.len →
      es ≡ sink no_entry sends (set h.entries 0 e) h.len 0 →
      ◌≡◌ {A = Heap} (record { entries = es; len = h.len }) (pack_heap (sink_top W.unused W.sends_of (heap_view h) (to_entry e)))
  unfolding used
  packed-sink_top e es k q =
      let u : length used ≡ h.len = used_length h p in
      let some : 0 < length used = omega arith in
      packs (sink_top no_entry sends used e) _ (sink_top-map no_entry sends to_entry W.sends_of (λ x. refl) used e) h.len
      (omega (arith, sink_top-length no_entry sends used some e))
      es
      (q
      ∙ ap (λ (r : List Entry). sink no_entry sends (set r 0 e) h.len 0) p.row
      ∙ ap (λ (j : ℕ). sink no_entry sends (set (pad_to 128 no_entry used) 0 e) j 0) (sym u)
      ∙ row-sink_top 128 no_entry sends used some e)

  pub packed-remove_top :
      (m : ℕ) (es : List Entry) →
      0 < h.len →
      m ≡ h.len - 1 →
      es ≡ bottom no_entry sends (set (set h.entries 0 (get_or h.entries m no_entry)) m no_entry) m 0 →
      ◌≡◌ {A = Heap} (record { entries = es; len = m }) (pack_heap (remove_top W.unused W.sends_of (heap_view h)))
  unfolding used
  packed-remove_top m es k z q =
      let u : length used ≡ h.len = used_length h p in
      let few : h.len ≤ 128 = p.few in
      let some : 0 < length used = omega arith in
      packs (remove_top no_entry sends used) _ (remove_top-map no_entry sends to_entry W.sends_of (λ x. refl) used) m
      (omega (arith, remove_top-length no_entry sends used some))
      es
      (q
      ∙ ap (λ (r : List Entry). bottom no_entry sends (set (set r 0 (get_or r m no_entry)) m no_entry) m 0) p.row
      ∙ row-remove_top 128 no_entry sends used some m (omega arith) (omega arith))
